-- Payments behind one more entry: one that is made is fresh, and a step makes of its row what the longer history has.
use Rattle.std.proofs.Common.{◌≡◌, ℕ, ◌+◌, ◌≤◌, Bool, true, false, cond, ◌||◌, List, [], ◌∷◌, ◌++◌, length, refl, ◌∙◌, ap, arith, Some, None, Option, map, ◌*◌, ◌/◌, append-nil}
use Rattle.std.proofs.Math.Nat.{div-le_of_le-mul}
use Rattle.std.proofs.lemmas.List.Sums.{sum_by-cons}
use Rattle.std.proofs.lemmas.List.{map-append}
use Rattle.std.specs.Prelude.{◌==◌, count_by, is_some}
use Rattle.std.specs.List.{list_any, filter_map}
use Rattle.std.specs.Option.{option_map, option_to_list}
use Rattle.op_amount.specs.Rates.{share, floor_mul}
use Rattle.op_model.specs.History.{nth, numbered, last, with_item}
use Rattle.op_model.specs.Grants.{has_act}
use Rattle.op_model.specs.Payments.{PaymentMade, payments_made, payment_added, outgoings, outgoing_row, payment_so_far, is_step, is_piece, is_last_piece, is_funding, failure, pieces_sent, step_number, fail_reason, state_of, sent_after, fee_after, delivered_after, reason_number}
use Rattle.op_model.specs.declared.act.Act.{Act}
use Rattle.op_model.specs.declared.act.Act.TheVariants as acts
use Rattle.op_model.specs.declared.act.Entry.{Entry}
use Rattle.op_model.specs.declared.act.FailReason.{FailReason}
use Rattle.op_model.specs.declared.row.OutgoingRow.{OutgoingRow}
use Rattle.op_model.specs.declared.row.PaymentState.TheVariants as states
use Rattle.op_model.proofs.Next.{payments_made-next, numbered-next, collected-next, last-next}
use Rattle.op_model.proofs.Numbered.{nth-numbered, map-same, any_narrow, none_taken, itself, swapped, nth-changed}
use Rattle.op_model.proofs.Payments.{payment_stays, outgoings_step}

-- the row of a payment that was made
pub payment_at : (history : List Entry) (p : ℕ) (m : PaymentMade) → nth (payments_made history) p ≡ Some m → outgoing_row history p ≡ Some (payment_so_far history (p, m))
payment_at history p m h = nth-numbered (payment_so_far history) (payments_made history) p ∙ ap (option_map (λ (x : PaymentMade). payment_so_far history (p, x))) h

pub payments_made_stay : (history : List Entry) (e : Entry) → payment_added history e.at e.act ≡ [] → payments_made (history ++ e ∷ []) ≡ payments_made history
payments_made_stay history e none = payments_made-next history e ∙ ap (λ (xs : List PaymentMade). payments_made history ++ xs) none ∙ append-nil (payments_made history)

-- ---- a payment that no entry names

left_false : (a b : Bool) → (a || b) ≡ false → a ≡ false
left_false true b h = h
left_false false b h = refl

right_false : (a b : Bool) → (a || b) ≡ false → b ≡ false
right_false true b h = absurd (let e : true ≡ false = h in cc)
right_false false b h = h

none_of : {X : Type 0} (o : Option X) → is_some o ≡ false → o ≡ None
none_of None h = refl
none_of (Some x) h = absurd (let e : true ≡ false = h in cc)

count_none : {X : Type 0} (test wide : X → Bool) (xs : List X) → ((x : X) → wide x ≡ false → test x ≡ false) → list_any wide xs ≡ false → count_by test xs ≡ 0
count_none test wide [] narrow h = refl
count_none test wide (x ∷ xs) narrow h =
    let e = narrow x (left_false (wide x) (list_any wide xs) h) in
    let rest = count_none test wide xs narrow (right_false (wide x) (list_any wide xs) h) in
    let nothing : ℕ = 0 in
    let single : ℕ = 1 in
    let one : cond (test x) single nothing ≡ nothing = ap (λ b. cond b single nothing) e in
    omega (arith, sum_by-cons (λ y. cond (test y) 1 0) x xs, one, rest)

last_none : (p : ℕ) (act : Act) → is_piece p act ≡ false → is_last_piece p act ≡ false
last_none p (acts.OutgoingCompleted payment step) h = h
last_none p _ h = refl

no_piece : (p : ℕ) (act : Act) → is_step p act ≡ false → is_piece p act ≡ false
no_piece p act h = left_false (is_piece p act) _ h

no_funding : (p : ℕ) (act : Act) → is_step p act ≡ false → is_funding p act ≡ false
no_funding p act h = left_false (is_funding p act) _ (right_false (is_piece p act) _ h)

no_failure : (p : ℕ) (act : Act) → is_step p act ≡ false → failure p act ≡ None
no_failure p act h = none_of (failure p act) (right_false (is_funding p act) _ (right_false (is_piece p act) _ h))

zero_floor : (num den : ℕ) → floor_mul 0 num den ≡ 0
zero_floor num den = let none : 0 * num / den ≤ 0 = div-le_of_le-mul den (omega arith) in omega arith

-- how far a payment has come that no entry names
pub record IsFresh (history : List Entry) (p : ℕ) : Type 0 where
  pub pieces : pieces_sent history p ≡ 0
  pub steps : step_number history p ≡ 0
  pub reason : fail_reason history p ≡ None
  pub state : state_of history p ≡ states.Funding

pub unnamed_is_fresh : (history : List Entry) (p : ℕ) → has_act (is_step p) history ≡ false → IsFresh history p
unnamed_is_fresh history p h =
    let wide : Entry → Bool = λ e. is_step p e.act in
    let reasons : filter_map (λ (e : Entry). failure p e.act) history ≡ [] = none_taken (λ (e : Entry). failure p e.act) wide history (λ e f. no_failure p e.act f) h in
    let completed : list_any (λ (e : Entry). is_last_piece p e.act) history ≡ false = any_narrow (λ (e : Entry). is_last_piece p e.act) wide history (λ e f. last_none p e.act (no_piece p e.act f)) h in
    let funded : list_any (λ (e : Entry). is_funding p e.act) history ≡ false = any_narrow (λ (e : Entry). is_funding p e.act) wide history (λ e f. no_funding p e.act f) h in
    record {
      pieces = count_none (λ (e : Entry). is_piece p e.act) wide history (λ e f. no_piece p e.act f) h;
      steps = count_none wide wide history (λ e f. f) h;
      reason = ap (λ (l : List FailReason). last l) reasons;
      state = simp (reasons, completed, funded) refl;
    }

-- ---- a payment that is made

-- as it is made: it waits for its funding, with nothing sent
abbrev pub fresh_payment : PaymentMade → OutgoingRow
fresh_payment made = record (payment_so_far [] (0, made)) { state = states.Funding; step = 0; sent = 0; fee = 0; delivered = 0; reason = 0 }

zero_share : (fee whole : ℕ) → share fee 0 whole ≡ 0
zero_share fee whole = let none : fee * 0 / whole ≤ 0 = div-le_of_le-mul whole (omega arith) in omega arith

fresh_row : (history : List Entry) (p : ℕ) (made : PaymentMade) → IsFresh history p → payment_so_far history (p, made) ≡ fresh_payment made
fresh_row history p made fresh =
    let terms = (fresh_payment made).terms in
    let sent : sent_after terms 0 ≡ 0 = omega arith in
    let fee : fee_after terms 0 ≡ 0 = ap (λ s. share terms.fee s terms.source) sent ∙ zero_share terms.fee terms.source in
    let delivered : delivered_after terms 0 ≡ 0 = ap (λ s. floor_mul s terms.num terms.den) sent ∙ zero_floor terms.num terms.den in
    let sent_is : sent_after terms (pieces_sent history p) ≡ 0 = ap (sent_after terms) fresh.pieces ∙ sent in
    let fee_is : fee_after terms (pieces_sent history p) ≡ 0 = ap (fee_after terms) fresh.pieces ∙ fee in
    let delivered_is : delivered_after terms (pieces_sent history p) ≡ 0 = ap (delivered_after terms) fresh.pieces ∙ delivered in
    same_parts (fresh_payment made) (state_of history p) (step_number history p) (sent_after terms (pieces_sent history p)) (fee_after terms (pieces_sent history p)) (delivered_after terms (pieces_sent history p)) (reason_number (fail_reason history p))
    fresh.state fresh.steps sent_is fee_is delivered_is (ap reason_number fresh.reason)
  where
    same_parts : (row : OutgoingRow) (s : _) (k sent fee delivered reason : ℕ) → s ≡ states.Funding → k ≡ 0 → sent ≡ 0 → fee ≡ 0 → delivered ≡ 0 → reason ≡ 0
        → (let r : OutgoingRow = record row { state = s; step = k; sent = sent; fee = fee; delivered = delivered; reason = reason } in r) ≡ record row { state = states.Funding; step = 0; sent = 0; fee = 0; delivered = 0; reason = 0 }
    same_parts row s k sent fee delivered reason a b c d e f = rw (a, b, c, d, e, f) refl

-- an entry that makes a payment and takes no step, where no entry names its number
pub outgoings_made : (history : List Entry) (e : Entry) (made : PaymentMade) → payment_added history e.at e.act ≡ made ∷ [] → ((p : ℕ) → is_step p e.act ≡ false) → has_act (is_step (1 + length (payments_made history))) history ≡ false
    → outgoings (history ++ e ∷ []) ≡ outgoings history ++ fresh_payment made ∷ []
outgoings_made history e made adds none unnamed =
    let n = 1 + length (payments_made history) in
    let new = payment_so_far (history ++ e ∷ []) in
    ap (λ (xs : List PaymentMade). map new (numbered xs)) (payments_made-next history e ∙ ap (λ (xs : List PaymentMade). payments_made history ++ xs) adds)
    ∙ ap (map new) (numbered-next (payments_made history) made)
    ∙ map-append new (numbered (payments_made history)) ((n, made) ∷ [])
    ∙ ap (λ (l : List OutgoingRow). l ++ new (n, made) ∷ []) (map-same new (payment_so_far history) (numbered (payments_made history)) (λ (p, m). payment_stays history e p m (none p)))
    ∙ ap (λ (r : OutgoingRow). outgoings history ++ r ∷ []) (payment_stays history e n made (none n) ∙ fresh_row history n made (unnamed_is_fresh history n unnamed))

-- ---- a step

-- payment p as a history has it, from its row at any time
abbrev pub renewed : List Entry → ℕ → OutgoingRow → OutgoingRow
renewed history p row = record row {
  state = state_of history p;
  step = step_number history p;
  sent = sent_after row.terms (pieces_sent history p);
  fee = fee_after row.terms (pieces_sent history p);
  delivered = delivered_after row.terms (pieces_sent history p);
  reason = reason_number (fail_reason history p);
}

-- an entry that takes a step of payment p alone
pub record IsStepOf (history : List Entry) (e : Entry) (p : ℕ) : Type 0 where
  pub none : payment_added history e.at e.act ≡ []
  pub others : (k : ℕ) → (k == p) ≡ false → is_step k e.act ≡ false

other_step : (k p : ℕ) → (k == p) ≡ false → ((p == k) || false) ≡ false
other_step k p h = ap (λ b. b || false) (swapped k p h)

other_failure : (k p : ℕ) (reason : FailReason) → (k == p) ≡ false → is_some (cond (p == k) (Some reason) None) ≡ false
other_failure k p reason h = ap (λ b. is_some (cond b (Some reason) None)) (swapped k p h)

pub funded_steps : (history : List Entry) (t p k : ℕ) → IsStepOf history (record { at = t; act = acts.OutgoingFunded p k }) p
funded_steps history t p k = record { none = refl; others = λ j h. other_step j p h }

pub sent_steps : (history : List Entry) (t p k : ℕ) → IsStepOf history (record { at = t; act = acts.OutgoingSent p k }) p
sent_steps history t p k = record { none = refl; others = λ j h. other_step j p h }

pub completed_steps : (history : List Entry) (t p k : ℕ) → IsStepOf history (record { at = t; act = acts.OutgoingCompleted p k }) p
completed_steps history t p k = record { none = refl; others = λ j h. other_step j p h }

pub failed_steps : (history : List Entry) (t p k : ℕ) (reason : FailReason) → IsStepOf history (record { at = t; act = acts.OutgoingFailed p k reason }) p
failed_steps history t p k reason = record { none = refl; others = λ j h. other_failure j p reason h }

pub outgoings_renewed : (history : List Entry) (e : Entry) (p : ℕ) → IsStepOf history e p → outgoings (history ++ e ∷ []) ≡ with_item (renewed (history ++ e ∷ []) p) (outgoings history) p
outgoings_renewed history e p is = outgoings_step history e p (renewed (history ++ e ∷ []) p) is.none is.others (λ m. refl)

pub outgoing_row_renewed : (history : List Entry) (e : Entry) (p : ℕ) (row : OutgoingRow) → IsStepOf history e p → outgoing_row history p ≡ Some row → outgoing_row (history ++ e ∷ []) p ≡ Some (renewed (history ++ e ∷ []) p row)
outgoing_row_renewed history e p row is there =
    ap (λ (l : List OutgoingRow). nth l p) (outgoings_renewed history e p is) ∙ nth-changed (renewed (history ++ e ∷ []) p) (outgoings history) p row there

-- the reason of a payment that fails, and its state
pub failed_reason : (history : List Entry) (t p k : ℕ) (reason : FailReason) → fail_reason (history ++ record { at = t; act = acts.OutgoingFailed p k reason } ∷ []) p ≡ Some reason
failed_reason history t p k reason =
    let e : Entry = record { at = t; act = acts.OutgoingFailed p k reason } in
    let says : failure p e.act ≡ Some reason = ap (λ b. cond b (Some reason) None) (itself p) in
    ap last (collected-next (λ f. failure p f.act) history e ∙ ap (λ o. filter_map (λ f. failure p f.act) history ++ option_to_list o) says) ∙ last-next (filter_map (λ f. failure p f.act) history) reason

pub failed_state : (history : List Entry) (t p k : ℕ) (reason : FailReason) → state_of (history ++ record { at = t; act = acts.OutgoingFailed p k reason } ∷ []) p ≡ states.Failed
failed_state history t p k reason = rw (failed_reason history t p k reason) refl
