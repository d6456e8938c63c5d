-- Jobs one after another.
use Rattle.std.proofs.Common.{◌≡◌, ℕ, zero, suc, ◌+◌, ◌<◌, ◌≤◌, List, [], ◌∷◌, ◌++◌, length, take, refl, sym, ◌∙◌, ap, subst, arith, length-append}
use Rattle.std.specs.Prelude.{Bool, true, Some, None, slice_get, slice_set}
use Rattle.std.specs.declared.option.Option.{Option}
use Rattle.std.proofs.lemmas.List.{take_all}
use Rattle.op_desk.specs.Batches.{BatchValue, history_in}
use Rattle.op_desk.specs.Wallets.{Handles, handled_at}
use Rattle.op_model.specs.Round.{FeesAllowed}
use Rattle.op_model.specs.Verdicts.{Accepts}
use Rattle.op_model.specs.declared.act.Entry.{Entry}
use Rattle.op_model.specs.declared.reply.Reply.{Reply}
use Rattle.op_model.specs.declared.request.Task.{Task}
use Rattle.op_round.specs.Jobs.{PlainJob, PlainJobs, ActsFor, IsReadJob}
use Rattle.op_round.specs.declared.job.Job.{Job}
use Rattle.op_round.proofs.Rounds.{get_set_other}

pub plain_more : {C : Type 0} (allows : FeesAllowed) (accepts : Accepts) (left : C → Option (List ℕ)) (start : List Entry) (t : ℕ) (old : List Entry) (jobs done : List (Job C)) (mid new : List Entry) (job one : Job C)
    → PlainJobs allows accepts left start t old jobs done mid → PlainJob allows accepts left start t mid job one new → PlainJobs allows accepts left start t old (jobs ++ job ∷ []) (done ++ one ∷ []) new
plain_more allows accepts left start t old [] [] mid new job one so_far next = (new, subst (λ (h : List Entry). PlainJob allows accepts left start t h job one new) so_far next, refl)
plain_more allows accepts left start t old (a ∷ jobs) (b ∷ done) mid new job one so_far next = (so_far.0, so_far.1, plain_more allows accepts left start t so_far.0 jobs done mid new job one so_far.2 next)
plain_more allows accepts left start t old [] (b ∷ done) mid new job one so_far next = absurd so_far
plain_more allows accepts left start t old (a ∷ jobs) [] mid new job one so_far next = absurd so_far

take_suc : {X : Type 0} (xs : List X) (k : ℕ) (x : X) → slice_get xs k ≡ Some x → take (suc k) xs ≡ take k xs ++ x ∷ []
take_suc [] k x is = absurd cc
take_suc (y ∷ xs) zero x is = let same : y ≡ x = cc in ap (λ (z : _). z ∷ []) same
take_suc (y ∷ xs) (suc k) x is = ap (λ (l : List _). y ∷ l) (take_suc xs k x is)

pub take_more : {X : Type 0} (xs : List X) (k : ℕ) (x : X) → slice_get xs k ≡ Some x → take (k + 1) xs ≡ take k xs ++ x ∷ []
take_more xs k x is =
    let next : k + 1 ≡ suc k = omega arith in
    ap (λ (n : ℕ). take n xs) next ∙ take_suc xs k x is

take_set : {X : Type 0} (xs : List X) (k : ℕ) (x : X) → take k (slice_set xs k x) ≡ take k xs
take_set [] k x = refl
take_set (y ∷ xs) zero x = refl
take_set (y ∷ xs) (suc k) x = ap (λ (l : List _). y ∷ l) (take_set xs k x)

get_set_suc : {X : Type 0} (xs : List X) (k : ℕ) (x y : X) → slice_get xs k ≡ Some y → slice_get (slice_set xs k x) k ≡ Some x
get_set_suc [] k x y is = absurd cc
get_set_suc (z ∷ xs) zero x y is = refl
get_set_suc (z ∷ xs) (suc k) x y is = get_set_suc xs k x y is

pub take_set_more : {X : Type 0} (xs : List X) (k : ℕ) (x y : X) → slice_get xs k ≡ Some y → take (k + 1) (slice_set xs k x) ≡ take k xs ++ x ∷ []
take_set_more xs k x y is = take_more (slice_set xs k x) k x (get_set_suc xs k x y is) ∙ ap (λ (l : List _). l ++ x ∷ []) (take_set xs k x)

-- a batch that acted for a task
pub acts : {C : Type 0} (allows : FeesAllowed) (old new : BatchValue) (index : ℕ) (ready done : Job C) (task : Task) (reply : Reply) → ready.task ≡ Some task → done ≡ record ready { reply = Some reply }
    → Handles allows (history_in old) old.moment (length old.entries) task ready.word reply (history_in new) → new.used ≡ slice_set old.used index true → (new.begun ≡ old.begun) × (new.moment ≡ old.moment) → ActsFor allows old new index ready done
acts allows old new index ready done task reply is_task given handled used begun = record {
  slot = Some (handled_at (length old.entries) task ready.word handled.0 handled.1 reply);
  told = (is_task, refl, given);
  acted = (handled.2, sym (length-append old.begun old.entries));
  begun = begun;
  others = λ i above. ap (λ (l : List Bool). slice_get l i) used ∙ get_set_other old.used index i true (λ same. omega (arith, above, same));
}

pub idle : {C : Type 0} (allows : FeesAllowed) (batch : BatchValue) (index : ℕ) (job : Job C) → job.task ≡ None → ActsFor allows batch batch index job job
idle allows batch index job none = record { slot = None; told = (none, refl); acted = refl; begun = (refl, refl); others = λ i above. refl }

pub in_turn : {C : Type 0} (allows : FeesAllowed) (accepts : Accepts) (left : C → Option (List ℕ)) (old new : BatchValue) (index : ℕ) (job ready done : Job C) → IsReadJob accepts left old.begun job ready → ActsFor allows old new index ready done
    → PlainJob allows accepts left old.begun old.moment (history_in old) job done (history_in new)
in_turn allows accepts left old new index job ready done read acted = record { ready = ready; read = read; slot = acted.slot; told = acted.told; acted = acted.acted }

module _ {C : Type 0} (allows : FeesAllowed) (accepts : Accepts) (left : C → Option (List ℕ)) (start : List Entry) (t : ℕ) (olds news : List (Job C)) (k : ℕ) (batch batch' : BatchValue) (job one : Job C) (at_old : slice_get olds k ≡ Some job) (at_new : slice_get news k ≡ Some job) (begun : batch.begun ≡ start) (moment : batch.moment ≡ t) where
  pub jobs_more : PlainJobs allows accepts left start t start (take k olds) (take k news) (history_in batch) → PlainJob allows accepts left batch.begun batch.moment (history_in batch) job one (history_in batch')
      → PlainJobs allows accepts left start t start (take (k + 1) olds) (take (k + 1) (slice_set news k one)) (history_in batch')
  jobs_more so_far next =
      let here = subst (λ (s : List Entry). PlainJob allows accepts left s t (history_in batch) job one (history_in batch')) begun
      (subst (λ (m : ℕ). PlainJob allows accepts left batch.begun m (history_in batch) job one (history_in batch')) moment next) in
      let more = plain_more allows accepts left start t start (take k olds) (take k news) (history_in batch) (history_in batch') job one so_far here in
      subst (λ (l : List (Job C)). PlainJobs allows accepts left start t start l (take (k + 1) (slice_set news k one)) (history_in batch')) (sym (take_more olds k job at_old))
      (subst (λ (l : List (Job C)). PlainJobs allows accepts left start t start (take k olds ++ job ∷ []) l (history_in batch')) (sym (take_set_more news k one job at_new)) more)

pub all_jobs : {C : Type 0} (allows : FeesAllowed) (accepts : Accepts) (left : C → Option (List ℕ)) (start : List Entry) (t : ℕ) (olds news : List (Job C)) (k : ℕ) (new : List Entry) → length news ≡ length olds → length olds ≤ k
    → PlainJobs allows accepts left start t start (take k olds) (take k news) new → PlainJobs allows accepts left start t start olds news new
all_jobs {C} allows accepts left start t olds news k new size full done =
    subst (λ (l : List (Job C)). PlainJobs allows accepts left start t start l news new) (take_all k olds full)
    (subst (λ (l : List (Job C)). PlainJobs allows accepts left start t start (take k olds) l new) (take_all k news (omega (arith, size, full))) done)
