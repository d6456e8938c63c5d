-- No step is taken twice where each entry may follow those before it.
use Rattle.std.proofs.Common.{◌≡◌, ℕ, ◌+◌, ◌-◌, ◌≤◌, Bool, true, false, cond, List, [], ◌∷◌, ◌++◌, refl, ◌∙◌, sym, ap, arith, min, Some, None, Option}
use Rattle.std.proofs.lemmas.List.Sums.{sum_by-cons}
use Rattle.std.specs.Prelude.{◌==◌, ◌&&◌, ◌||◌, count_by, is_some}
use Rattle.std.specs.Option.{option_map}
use Rattle.op_model.specs.History.{nth}
use Rattle.op_model.specs.Laws.{is_step_of, StepsOnce}
use Rattle.op_model.specs.Legal.{IsLegal, IsLegalFrom, IsNext}
use Rattle.op_model.specs.Payments.{PaymentMade, payments_made, payment_so_far, outgoing_row, step_number, is_step}
use Rattle.op_model.specs.declared.act.Act.{Act}
use Rattle.op_model.specs.declared.act.Act.TheVariants as acts
use Rattle.op_model.specs.declared.act.Entry.{Entry}
use Rattle.op_model.specs.declared.row.OutgoingRow.{OutgoingRow}
use Rattle.op_model.proofs.Next.{step_number-next}
use Rattle.op_model.proofs.Numbered.{nth-numbered, same_number}
use Rattle.op_legal.proofs.Chains.{none_is_not, some_is}
use Rattle.op_legal.proofs.Names.{both_left, both_right}
use Rattle.op_legal.proofs.StepActs.{funded_acts, sent_acts, completed_acts, failed_acts}

-- step k of payment p is the next, and the entry is a step of p
pub record IsNow (history : List Entry) (e : Entry) (p k : ℕ) : Type 0 where
  pub now : k ≡ step_number history p
  pub grows : is_step p e.act ≡ true

row_of : (history : List Entry) (p : ℕ) (found : Option PaymentMade) (row : OutgoingRow) → option_map (λ (m : PaymentMade). payment_so_far history (p, m)) found ≡ Some row → row.step ≡ step_number history p
row_of history p None row h = none_is_not row h
row_of history p (Some m) row h = sym (ap (λ (r : OutgoingRow). r.step) (some_is (payment_so_far history (p, m)) row h))

pub step_is : (history : List Entry) (p : ℕ) (row : OutgoingRow) → outgoing_row history p ≡ Some row → row.step ≡ step_number history p
step_is history p row there = row_of history p (nth (payments_made history) p) row (sym (nth-numbered (payment_so_far history) (payments_made history) p) ∙ there)

same_payment : (n j p k step : ℕ) → ((n == p) && (j == k)) ≡ true → j ≡ step → (n ≡ p) × (k ≡ step)
same_payment n j p k step h now =
    let a : n ≡ p = same_number n p (both_left (n == p) (j == k) h) in
    let b : j ≡ k = same_number j k (both_right (n == p) (j == k) h) in
    (a, sym b ∙ now)

is_now : (history : List Entry) (t n j p k : ℕ) (act : Act) (row : OutgoingRow) → ((n == p) && (j == k)) ≡ true → outgoing_row history n ≡ Some row → j ≡ row.step → ((n == p) ≡ true → is_step p act ≡ true) → IsNow history (record { at = t; act = act }) p k
is_now history t n j p k act row h there now grows =
    let same = same_payment n j p k (step_number history n) h (now ∙ step_is history n row there) in
    record { now = same.1 ∙ ap (step_number history) same.0; grows = grows (both_left (n == p) (j == k) h) }

pub step_now : (history : List Entry) (t : ℕ) (act : Act) (p k : ℕ) → IsNext history (record { at = t; act = act }) → is_step_of p k act ≡ true → IsNow history (record { at = t; act = act }) p k
step_now history t (acts.OutgoingFunded n j) p k next h =
    let is = funded_acts history t n j next in
    is_now history t n j p k (acts.OutgoingFunded n j) is.row h is.there is.now (λ e. ap (λ b. b || false) e)
step_now history t (acts.OutgoingSent n j) p k next h =
    let is = sent_acts history t n j next in
    is_now history t n j p k (acts.OutgoingSent n j) is.row h is.there is.now (λ e. ap (λ b. b || false) e)
step_now history t (acts.OutgoingCompleted n j) p k next h =
    let is = completed_acts history t n j next in
    is_now history t n j p k (acts.OutgoingCompleted n j) is.row h is.there is.now (λ e. ap (λ b. b || false) e)
step_now history t (acts.OutgoingFailed n j reason) p k next h =
    let is = failed_acts history t n j reason next in
    is_now history t n j p k (acts.OutgoingFailed n j reason) is.row h is.there is.now (λ e. ap (λ b. is_some (cond b (Some reason) None)) e)
step_now history t _ p k next h = absurd (let e : false ≡ true = h in cc)

-- a step that was taken so often is taken at most once in all, behind a history where its number is past by then
once_where : (before es : List Entry) (e : Entry) (p k n : ℕ) (taken : Bool) → is_step_of p k e.act ≡ taken → (taken ≡ true → IsNow before e p k) → n ≤ min 1 (step_number before p - k)
    → ((m : ℕ) → m ≤ min 1 (step_number (before ++ e ∷ []) p - k) → m + count_by (λ f. is_step_of p k f.act) es ≤ 1) → n + (cond taken 1 0 + count_by (λ f. is_step_of p k f.act) es) ≤ 1
once_where before es e p k n true is now once rest =
    let at = now refl in
    let steps : step_number (before ++ e ∷ []) p ≡ step_number before p + 1 = step_number-next before e p ∙ ap (λ b. step_number before p + cond b 1 0) at.grows in
    let more = rest (n + 1) (omega (arith, at.now, steps, once)) in
    omega (arith, more)
once_where before es e p k n false is now once rest =
    let more = rest n (let steps = step_number-next before e p in omega (arith, steps, once)) in
    omega (arith, more)

pub once_from : (before xs : List Entry) (p k n : ℕ) → IsLegalFrom before xs → n ≤ min 1 (step_number before p - k) → n + count_by (λ e. is_step_of p k e.act) xs ≤ 1
once_from before [] p k n legal once = omega (arith, once)
once_from before (e ∷ es) p k n legal once =
    let whole = sum_by-cons (λ f. cond (is_step_of p k f.act) 1 0) e es in
    let step = once_where before es e p k n (is_step_of p k e.act) refl (λ h. step_now before e.at e.act p k legal.0 h) once (λ m h. once_from (before ++ e ∷ []) es p k m legal.1 h) in
    omega (arith, whole, step)

pub steps_once : (history : List Entry) → IsLegal history → StepsOnce history
steps_once history legal p k = let once = once_from [] history p k 0 legal (omega arith) in omega (arith, once)
