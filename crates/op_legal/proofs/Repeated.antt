-- Of the tasks of a round that are one step, at most one acts.
use Rattle.std.proofs.Common.{◌≡◌, ℕ, ◌+◌, ◌≤◌, Bool, true, false, cond, ◌&&◌, List, [], ◌∷◌, ◌++◌, length, take, refl, ◌∙◌, sym, ap, subst, arith, Some, None, Option, append_assoc, length-append}
use Rattle.std.proofs.lemmas.List.Sorted.{sum_by-IsPermutation}
use Rattle.std.proofs.lemmas.List.Sums.{sum_by-cons}
use Rattle.std.specs.Prelude.{◌==◌, count_by, is_some, slice_get}
use Rattle.std.specs.List.{AllByRecursion, filter_map, range_with_len, cons_option}
use Rattle.std.specs.Option.{option_map_or}
use Rattle.op_model.specs.Answer.{answer}
use Rattle.op_model.specs.Laws.{is_step_of}
use Rattle.op_model.specs.Round.{FeesAllowed, Handled, IsHandled, act_place}
use Rattle.op_model.specs.Steps.{step_act}
use Rattle.op_model.specs.declared.act.Act.{Act}
use Rattle.op_model.specs.declared.act.Act.TheVariants as acts
use Rattle.op_model.specs.declared.act.Entry.{Entry}
use Rattle.op_model.specs.declared.reply.StepAnswer.{StepAnswer}
use Rattle.op_model.specs.declared.reply.StepAnswer.TheVariants as answers
use Rattle.op_model.specs.declared.request.Task.{Task}
use Rattle.op_model.specs.declared.request.Task.TheVariants.{Ask, Step, Expire, Attempt}
use Rattle.op_model.proofs.Numbered.{itself, same_number}
use Rattle.op_legal.specs.Rounds.{AreWithin, StepsActOnce, is_task_of}
use Rattle.op_legal.proofs.Chains.{none_is_not, some_is}
use Rattle.op_legal.proofs.Names.{both_left, both_right}
use Rattle.op_legal.proofs.Once.{once_from}
use Rattle.op_legal.proofs.RoundsLegal.{seam, actor, stands_at, legal_round}
use Rattle.op_legal.proofs.Tasks.{step_taken}

-- ---- the act of a step is that step

own_step : (p k : ℕ) → ((p == p) && (k == k)) ≡ true
own_step p k = rw (itself p, itself k) refl

made_step : (p k : ℕ) (answer : StepAnswer) (act : Act) → step_act p k answer ≡ Some act → is_step_of p k act ≡ true
made_step p k answers.Funded act is = sym (ap (is_step_of p k) (some_is (acts.OutgoingFunded p k) act is)) ∙ own_step p k
made_step p k answers.Sent act is = sym (ap (is_step_of p k) (some_is (acts.OutgoingSent p k) act is)) ∙ own_step p k
made_step p k answers.Completed act is = sym (ap (is_step_of p k) (some_is (acts.OutgoingCompleted p k) act is)) ∙ own_step p k
made_step p k (answers.Failed reason) act is = sym (ap (is_step_of p k) (some_is (acts.OutgoingFailed p k reason) act is)) ∙ own_step p k
made_step p k (answers.Stale now) act is = none_is_not act is
made_step p k answers.Ended act is = none_is_not act is
made_step p k (answers.Waiting shortage) act is = none_is_not act is

task_step : (history : List Entry) (t : ℕ) (word : List ℕ) (fee : ℕ) (task : Task) (p k : ℕ) (act : Act) → is_task_of p k task ≡ true → (answer history t word fee task).act ≡ Some act → is_step_of p k act ≡ true
task_step history t word fee (Step payment step) p k act of is =
    let payment_is : payment ≡ p = same_number payment p (both_left (payment == p) (step == k) of) in
    let step_is : step ≡ k = same_number step k (both_right (payment == p) (step == k) of) in
    let taken = step_taken history t word fee payment step act is in
    subst (λ n. is_step_of n k act ≡ true) payment_is (subst (λ n. is_step_of payment n act ≡ true) step_is (made_step payment step taken.0 act taken.1))
task_step history t word fee (Ask request verdict) p k act of is = absurd (let e : false ≡ true = of in cc)
task_step history t word fee (Expire incoming) p k act of is = absurd (let e : false ≡ true = of in cc)
task_step history t word fee (Attempt event outcome) p k act of is = absurd (let e : false ≡ true = of in cc)

-- ---- counting by places

module _ (p k : ℕ) (entries : List Entry) where
  -- the entry at a place is the step
  step_at : ℕ → Bool
  step_at place = option_map_or (λ (e : Entry). is_step_of p k e.act) (slice_get entries place) false

  count_places : (front rest : List Entry) → entries ≡ front ++ rest → count_by step_at (range_with_len (length front) (length rest)) ≡ count_by (λ e. is_step_of p k e.act) rest
  unfolding step_at
  count_places front [] split = refl
  count_places front (e ∷ es) split =
      let got : slice_get entries (length front) ≡ Some e = ap (λ xs. slice_get xs (length front)) split ∙ seam front es e in
      let here : step_at (length front) ≡ is_step_of p k e.act = ap (λ (o : Option Entry). option_map_or (λ (f : Entry). is_step_of p k f.act) o false) got in
      let longer : length (front ++ e ∷ []) ≡ length front + 1 = omega (arith, length-append front (e ∷ [])) in
      let rest = subst (λ n. count_by step_at (range_with_len n (length es)) ≡ count_by (λ f. is_step_of p k f.act) es) longer (count_places (front ++ e ∷ []) es (split ∙ sym (append_assoc front (e ∷ []) es))) in
      let left = sum_by-cons (λ n. cond (step_at n) 1 0) (length front) (range_with_len (length front + 1) (length es)) in
      let right = sum_by-cons (λ f. cond (is_step_of p k f.act) 1 0) e es in
      let same : cond (step_at (length front)) (let one : ℕ = 1 in one) 0 ≡ cond (is_step_of p k e.act) (let one : ℕ = 1 in one) 0 = ap (λ b. cond b (let one : ℕ = 1 in one) 0) here in
      omega (arith, rest, left, right, same)

  with_place : (b : Bool) (o : Option ℕ) (n m : ℕ) (xs : List ℕ) → (b ≡ true → (place : ℕ) → o ≡ Some place → step_at place ≡ true) → n ≤ count_by step_at xs → cond (b && is_some o) 1 0 + n ≤ count_by step_at (cons_option o xs)
  with_place true None n m xs own le = omega (arith, le)
  with_place false None n m xs own le = omega (arith, le)
  with_place true (Some place) n m xs own le =
      let whole = sum_by-cons (λ i. cond (step_at i) 1 0) place xs in
      let here : cond (step_at place) (let one : ℕ = 1 in one) 0 ≡ 1 = ap (λ b. cond b (let one : ℕ = 1 in one) 0) (own refl place refl) in
      omega (arith, le, whole, here)
  with_place false (Some place) n m xs own le =
      let whole = sum_by-cons (λ i. cond (step_at i) 1 0) place xs in
      omega (arith, le, whole)

module _ (allows : FeesAllowed) (history : List Entry) (t p k : ℕ) (entries : List Entry) where
  acting : Handled → Bool
  acting one = is_task_of p k one.task && is_some (act_place history t entries one)

  step_there : (one : Handled) → IsHandled allows history t entries one → is_task_of p k one.task ≡ true → (place : ℕ) → act_place history t entries one ≡ Some place → step_at p k entries place ≡ true
  unfolding step_at
  step_there one handled of place h =
      let is = actor history t entries one place h in
      ap (λ (o : Option Entry). option_map_or (λ (f : Entry). is_step_of p k f.act) o false) (stands_at allows history t entries one place handled is)
      ∙ task_step (history ++ take one.place entries) t one.word one.fee one.task p k is.act of is.acts

  count_tasks : (tasks : List Handled) → AllByRecursion (IsHandled allows history t entries) tasks → count_by acting tasks ≤ count_by (step_at p k entries) (filter_map (act_place history t entries) tasks)
  unfolding acting
  count_tasks [] handled = omega arith
  count_tasks (one ∷ tasks) handled =
      let whole = sum_by-cons (λ x. cond (acting x) 1 0) one tasks in
      let more = with_place p k entries (is_task_of p k one.task) (act_place history t entries one) (count_by acting tasks) 0 (filter_map (act_place history t entries) tasks) (step_there one handled.0) (count_tasks tasks handled.1) in
      omega (arith, whole, more)

pub steps_act_once : (allows : FeesAllowed) → AreWithin allows → StepsActOnce allows
unfolding acting
steps_act_once allows within history t tasks entries p k begins round =
    let once = once_from history entries p k 0 (legal_round allows history t tasks entries within begins round) (omega arith) in
    let placed = count_tasks allows history t p k entries tasks round.handled in
    let moved = sum_by-IsPermutation (λ n. cond (step_at p k entries n) 1 0) (filter_map (act_place history t entries) tasks) (range_with_len 0 (length entries)) round.once in
    let counted = count_places p k entries [] entries refl in
    omega (arith, once, placed, moved, counted)
