-- What jobs ask, by their indexes.
use Rattle.std.proofs.Common.{Bool, true, false, ◌≡◌, ◌⊎◌, inl, inr, ◌++◌, ℕ, zero, suc, ◌+◌, ◌<◌, ◌≤◌, List, [], ◌∷◌, length, map, refl, sym, ◌∙◌, ap, subst, arith}
use Rattle.std.specs.Prelude.{Some, None, slice_get, slice_set, slice_index_or, IfSome, MatchOption, unwrap_or}
use Rattle.std.specs.Option.{option_map, is_some}
use Rattle.std.proofs.lemmas.Bool.{cases_eq, false≢true}
use Rattle.std.proofs.lemmas.List.{length-set, append-nil}
use Rattle.op_model.specs.History.{origin_of}
use Rattle.op_round.proofs.Rounds.{get_set_same, get_set_other}
use Rattle.op_desk.specs.Batches.{BatchValue, history_in}
use Rattle.op_model.specs.Round.{FeesAllowed, Handled}
use Rattle.op_model.specs.Verdicts.{Accepts}
use Rattle.op_model.specs.declared.reply.Reply.{Reply}
use Rattle.op_round.specs.declared.prepared.Prepared.{Prepared}
use Rattle.op_round.specs.declared.prepared.Prepared.TheVariants.{Silent, Refused, Asks}
use Rattle.std.specs.declared.option.Option.{Option}
use Rattle.std.proofs.lemmas.Option.{slice_get-map, slice_get_within, slice_get_read}
use Rattle.op_model.specs.declared.act.Entry.{Entry}
use Rattle.op_model.specs.declared.request.Task.{Task}
use Rattle.op_round.specs.Books.{Asked, Asking, AreFit, IsFit, IsDone, FitsAt}
use Rattle.op_round.specs.Jobs.{asked_of, asking, task_of, IsFitJob, IsReady, JobRead, IsFreshJob, IsReadJob, AreFresh, AreRead, AreGiven, Gives, IsSlot, IsActedFor}
use Rattle.op_round.specs.declared.job.Job.{Job}

module _ {C : Type 0} (start : List Entry) (jobs : List (Job C)) (i : ℕ) (job : Job C) (is : slice_get jobs i ≡ Some job) where
  pub asked_at : slice_get (asking jobs) i ≡ Some (asked_of job)
  asked_at = slice_get-map asked_of jobs i ∙ ap (λ (o : Option (Job C)). option_map asked_of o) is

  by_task : AreFit start (asking jobs) → (o : Option Task) → job.task ≡ o → IfSome o (IsFit start)
  by_task fit None none = tt
  by_task fit (Some task) some = fit i (record { word = job.word; task = task }) (asked_at ∙ ap (λ (o : Option Task). Some (option_map {U = Asked} (λ (t : Task). record { word = job.word; task = t }) o)) some)

  pub fit_at : AreFit start (asking jobs) → IsFitJob start job
  fit_at fit = by_task fit job.task refl

pub same_list : {X : Type 0} (xs ys : List X) → length ys ≡ length xs → ((i : ℕ) (d : X) → i < length xs → slice_index_or ys i d ≡ slice_index_or xs i d) → ys ≡ xs
same_list [] [] size each = refl
same_list [] (y ∷ ys) size each = absurd (omega (arith, size))
same_list (x ∷ xs) [] size each = absurd (omega (arith, size))
same_list (x ∷ xs) (y ∷ ys) size each =
    ap (λ (z : _). z ∷ ys) (each 0 x (omega arith)) ∙ ap (λ (l : List _). x ∷ l) (same_list xs ys (omega (arith, size)) (λ i d below. each (suc i) d (omega (arith, below))))

pub length_asking : {C : Type 0} (jobs : List (Job C)) → length (asking jobs) ≡ length jobs
length_asking [] = refl
length_asking (job ∷ jobs) = ap (λ (n : ℕ). suc n) (length_asking jobs)

-- ---- jobs that were read can be acted for

fit_prepared : (start : List Entry) (prepared : Prepared) → IsReady prepared → IfSome (task_of prepared) (IsFit start)
fit_prepared start (Asks task) ready = ready start
fit_prepared start (Refused refusal) ready = tt
fit_prepared start Silent ready = tt

module _ {C : Type 0} (accepts : Accepts) (left : C → Option (List ℕ)) (start : List Entry) (old new : Job C) where
  fit_by : (conn : Option C) → MatchOption conn (IfSome old.task (IsFit start)) (λ _. old.task ≡ None) → MatchOption conn (new ≡ old) (λ c. JobRead accepts left start c old new) → IsFitJob start new
  fit_by None fresh read = subst (λ (job : Job C). IsFitJob start job) (sym read) fresh
  fit_by (Some conn) fresh read = subst (λ (o : Option Task). IfSome o (IsFit start)) (sym read.task) (fit_prepared start read.prepared read.ready)

  pub fit_read : IsFreshJob start old → IsReadJob accepts left start old new → IsFitJob start new
  fit_read fresh read = fit_by old.conn fresh.task read

there : {X : Type 0} (xs : List X) (i : ℕ) → i < length xs → (x : X) × (slice_get xs i ≡ Some x)
there [] i le = absurd (omega (arith, le))
there (x ∷ xs) zero le = (x, refl)
there (x ∷ xs) (suc i) le = there xs i (omega (arith, le))

asked_fit : {C : Type 0} (start : List Entry) (job : Job C) (a : Asked) (o : Option Task) → IfSome o (IsFit start) → option_map {U = Asked} (λ (t : Task). record { word = job.word; task = t }) o ≡ Some a → IsFit start a.task
asked_fit start job a None fit is = absurd (none_some a is)
  where
    none_some : (a : Asked) → None ≡ Some a → ⊥
    none_some a is = false≢true (ap is_some is)
asked_fit {C} start job a (Some task) fit is =
    let same : task ≡ a.task = ap (λ (o : Option Asked). (unwrap_or o (record { word = job.word; task = task })).task) is in
    subst (λ (t : Task). IsFit start t) same fit

pub are_fit : {C : Type 0} (accepts : Accepts) (left : C → Option (List ℕ)) (start : List Entry) (old ready : List (Job C)) → AreFresh start old → AreRead accepts left start old ready → AreFit start (asking ready)
are_fit {C} accepts left start old ready fresh read = λ i a is.
    let below : i < length ready = subst (λ (n : ℕ). i < n) (length_asking ready) (slice_get_within (asking ready) i (Some a) is) in
    let new = there ready i below in
    let was = there old i (subst (λ (n : ℕ). i < n) read.0 below) in
    let fit = fit_read accepts left start was.0 new.0 (fresh i was.0 was.1) (read.1 i was.0 new.0 was.1 new.1) in
    let asked : asked_of new.0 ≡ Some a = ap (λ (o : Option (Option Asked)). unwrap_or o None) (sym (asked_at start ready i new.0 new.1) ∙ is) in
    asked_fit start new.0 a new.0.task fit asked

-- ---- the round of the jobs

module _ {C : Type 0} (allows : FeesAllowed) (start : List Entry) (t : ℕ) (ready done : List (Job C)) (batch : BatchValue) (replies : List (Option Reply)) (whole : IsDone allows start t (asking ready) batch replies) (given : AreGiven ready done replies) where
  slot_by : (i : ℕ) (a b : Job C) → slice_get ready i ≡ Some a → slice_get done i ≡ Some b → (slot : Option Handled) → FitsAt (asking ready) (record { batch = batch; replies = replies }) i slot → IsSlot a b slot
  slot_by i a b at_a at_b None fits = (no_task a.task refl, given.1 i a b None at_a at_b fits.1)
    where
      no_task : (o : Option Task) → a.task ≡ o → a.task ≡ None
      no_task None none = none
      no_task (Some task) some =
          let asked : slice_get (asking ready) i ≡ Some (Some (record { word = a.word; task = task })) = asked_at start ready i a at_a ∙ ap (λ (o : Option Task). Some (option_map {U = Asked} (λ (t : Task). record { word = a.word; task = t }) o)) some in
          let below : i < length (asking ready) = slice_get_within (asking ready) i _ asked in
          let used = whole.all i (record { word = a.word; task = task }) below asked in
          absurd (false≢true (ap (λ (o : Option Bool). unwrap_or o true) (sym fits.0 ∙ used)))
  slot_by i a b at_a at_b (Some one) fits =
      let asked : asked_of a ≡ Some (record { word = one.word; task = one.task }) = ap (λ (o : Option (Option Asked)). unwrap_or o None) (sym (asked_at start ready i a at_a) ∙ fits.0) in
      let parts = asked_parts a.task asked in
      (parts.0, parts.1, given.1 i a b (Some one.reply) at_a at_b fits.3)
    where
      asked_parts : (o : Option Task) → option_map {U = Asked} (λ (t : Task). record { word = a.word; task = t }) o ≡ Some (record { word = one.word; task = one.task }) → (o ≡ Some one.task) × (a.word ≡ one.word)
      asked_parts None is = absurd (false≢true (ap is_some is))
      asked_parts (Some task) is = (
        ap (λ (o : Option Asked). option_map (λ (a : Asked). a.task) o) is,
        ap (λ (o : Option Asked). (unwrap_or o (record { word = a.word; task = task })).word) is,
      )

  pub acted_for : IsActedFor allows start t ready done batch
  acted_for = record {
    begun = whole.kept.begun;
    moment = whole.kept.moment;
    slots = whole.kept.slots;
    size = whole.kept.fits.size ∙ length_asking ready;
    same = given.0;
    each = λ i a b slot at_a at_b at_slot. slot_by i a b at_a at_b slot (whole.kept.fits.each i slot at_slot);
    tellable = λ i one at. (whole.kept.fits.each i (Some one) at).4;
    places = λ i one at. (whole.kept.fits.each i (Some one) at).2;
    round = whole.kept.round;
  }

-- two jobs before their round
pub both_fresh : {C : Type 0} (start : List Entry) (a b : Job C) → IsFreshJob start a → IsFreshJob start b → AreFresh start (a ∷ b ∷ [])
both_fresh {C} start a b first second zero job is = subst (λ (x : Job C). IsFreshJob start x) (ap (λ (o : Option (Job C)). unwrap_or o a) is) first
both_fresh {C} start a b first second (suc zero) job is = subst (λ (x : Job C). IsFreshJob start x) (ap (λ (o : Option (Job C)). unwrap_or o b) is) second
both_fresh start a b first second (suc (suc i)) job is = absurd (false≢true (ap is_some is))

-- ---- one reply more is given

module _ {C : Type 0} (old now : List (Job C)) (replies₀ replies replies' : List (Option Reply)) (k : ℕ) (job new : Job C) (reply : Option Reply) (size : length now ≡ length old)
    (left : (i : ℕ) → k ≤ i → (slice_get now i ≡ slice_get old i) × (slice_get replies i ≡ slice_get replies₀ i)) (at : slice_get now k ≡ Some job) (taken : slice_get replies k ≡ Some reply) (rest : replies' ≡ slice_set replies k None) where
  pub given_more : ((i : ℕ) (a b : Job C) (r : Option Reply) → i < k → slice_get old i ≡ Some a → slice_get now i ≡ Some b → slice_get replies₀ i ≡ Some r → Gives a b r) → Gives job new reply
      → (i : ℕ) (a b : Job C) (r : Option Reply) → i < k + 1 → slice_get old i ≡ Some a → slice_get (slice_set now k new) i ≡ Some b → slice_get replies₀ i ≡ Some r → Gives a b r
  given_more given gives i a b r below at_a at_b at_r = elim (cases_eq i k) [
    | inl same ↦
        let here = left k (omega arith) in
        let old_is : job ≡ a = ap (λ (o : Option (Job C)). unwrap_or o job) (sym at ∙ here.0 ∙ subst (λ (n : ℕ). slice_get old n ≡ Some a) same at_a) in
        let new_is : new ≡ b = ap (λ (o : Option (Job C)). unwrap_or o new) (sym (get_set_same now k new (slice_get_within now k job at)) ∙ subst (λ (n : ℕ). slice_get (slice_set now k new) n ≡ Some b) same at_b) in
        let reply_is : reply ≡ r = ap (λ (o : Option (Option Reply)). unwrap_or o reply) (sym taken ∙ here.1 ∙ subst (λ (n : ℕ). slice_get replies₀ n ≡ Some r) same at_r) in
        subst (λ (x : Job C). Gives x b r) old_is (subst (λ (y : Job C). Gives job y r) new_is (subst (λ (z : Option Reply). Gives job new z) reply_is gives))
    | inr other ↦ given i a b r (omega (arith, below, other)) at_a (sym (get_set_other now k i new other) ∙ at_b) at_r
  ]

  other_than : (i : ℕ) → k + 1 ≤ i → i ≡ k → ⊥
  other_than i above same = omega (arith, above, same)

  pub left_more : (i : ℕ) → k + 1 ≤ i → (slice_get (slice_set now k new) i ≡ slice_get old i) × (slice_get replies' i ≡ slice_get replies₀ i)
  left_more i above =
      let was = left i (omega (arith, above)) in
      (get_set_other now k i new (other_than i above) ∙ was.0, ap (λ (l : List (Option Reply)). slice_get l i) rest ∙ get_set_other replies k i None (other_than i above) ∙ was.1)

-- the origin at the beginning
pub origin_at_start : (batch : BatchValue) (origin : List ℕ) → batch.entries ≡ [] → origin ≡ origin_of (history_in batch) → origin ≡ origin_of batch.begun
origin_at_start batch origin none is = is ∙ ap (λ (l : List Entry). origin_of l) (ap (λ (l : List Entry). batch.begun ++ l) none ∙ append-nil batch.begun)
