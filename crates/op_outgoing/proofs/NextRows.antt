-- An entry of a step changes the rows of a history as the answer changes the payment.
use Rattle.std.proofs.Common.{◌≡◌, refl, sym, ap, subst, ◌∙◌, ℕ, ◌+◌, ◌-◌, Bool, true, false, cond, List, [], ◌∷◌, ◌++◌, arith, append-nil}
use Rattle.std.specs.Prelude.{◌==◌, ◌&&◌, ◌||◌, not, nat_lt, nat_le, is_some, Some, None}
use Rattle.std.specs.List.{filter_map, list_any}
use Rattle.std.specs.Option.{option_to_list}
use Rattle.std.proofs.lemmas.Bool.Decides.{nat_tests}
use Rattle.op_amount.specs.Rates.{floor_mul, share}
use Rattle.op_incoming.specs.Rows.{row_is, is_open_at}
use Rattle.op_incoming.specs.declared.incoming.Incoming.{Incoming}
use Rattle.op_ledger.specs.Balances.{LedgerValue, available_in, asset_in}
use Rattle.op_model.specs.History.{last, with_item}
use Rattle.op_model.specs.Payments.{PaymentMade, payments_made, payment_so_far, outgoings, outgoing_row, pieces_sent, step_number, state_of, fail_reason, reason_number, is_piece, is_last_piece, is_funding, is_step, failure, sent_after, fee_after, delivered_after}
use Rattle.op_model.specs.Steps.{step_act}
use Rattle.op_model.specs.declared.act.Account.TheVariants.{Pool, Wallet}
use Rattle.op_model.specs.declared.act.Act.{Act}
use Rattle.op_model.specs.declared.act.Act.TheVariants as acts
use Rattle.op_model.specs.declared.act.Entry.{Entry}
use Rattle.op_model.specs.declared.act.FailReason.{FailReason}
use Rattle.op_model.specs.declared.act.FailReason.TheVariants.{QuoteExpired, ReceiverClosed, Cancelled}
use Rattle.op_model.specs.declared.reply.Shortage.{Shortage}
use Rattle.op_model.specs.declared.reply.StepAnswer.{StepAnswer}
use Rattle.op_model.specs.declared.reply.StepAnswer.TheVariants as answers
use Rattle.op_model.specs.declared.row.OutgoingRow.{OutgoingRow}
use Rattle.op_model.specs.declared.row.PaymentState.{PaymentState}
use Rattle.op_model.specs.declared.row.PaymentState.TheVariants as states
use Rattle.op_model.proofs.Next.{collected-next, last-next, pieces_sent-next, step_number-next}
use Rattle.op_model.proofs.Payments.{sent_after-next, outgoings_step}
use Rattle.op_outgoing.specs.Answers.{state_answer, is_within_one_asset}
use Rattle.op_outgoing.specs.Models.{RowsAreDefined}
use Rattle.op_outgoing.specs.Pieces.{next_sent, next_fee, next_delivered}
use Rattle.op_outgoing.specs.Runs.{IsAnswered}
use Rattle.op_outgoing.specs.Steps.{funded_row, with_next_piece, ended_as, stepped_row}
use Rattle.op_outgoing.proofs.FreshRows.{made_rows, direct_rows}
use Rattle.op_outgoing.proofs.ModelLemmas.{row_at}
use Rattle.op_outgoing.proofs.Rows.{with_item-agree}

-- ---- what an answer says of the payment that it is given to

abbrev Fits : OutgoingRow → StepAnswer → Type 0
Fits row answers.Funded = row.state ≡ states.Funding
Fits row answers.Sent = (row.state ≡ states.Sending) × ((next_sent row == row.terms.source) ≡ false)
Fits row answers.Completed = (row.state ≡ states.Sending) × ((next_sent row == row.terms.source) ≡ true)
Fits row (answers.Failed reason) = Unit {0}
Fits row (answers.Stale now) = Unit {0}
Fits row answers.Ended = Unit {0}
Fits row (answers.Waiting shortage) = Unit {0}

funding_fits : (late short : Bool) (shortage : Shortage) (row : OutgoingRow) → row.state ≡ states.Funding → Fits row (cond late (answers.Failed QuoteExpired) (cond short (answers.Waiting shortage) answers.Funded))
funding_fits true short shortage row is = tt
funding_fits false true shortage row is = tt
funding_fits false false shortage row is = is

sending_fits : (may lacks all : Bool) (shortage : Shortage) (row : OutgoingRow) → row.state ≡ states.Sending → (next_sent row == row.terms.source) ≡ all → Fits row (cond (not may) (answers.Failed ReceiverClosed) (cond lacks (answers.Waiting shortage) (cond all answers.Completed answers.Sent)))
sending_fits false lacks all shortage row is last = tt
sending_fits true true all shortage row is last = tt
sending_fits true false true shortage row is last = (is, last)
sending_fits true false false shortage row is last = (is, last)

state_fits : (state : PaymentState) (ledger : LedgerValue) (incomings : List Incoming) (row : OutgoingRow) (t : ℕ) → row.state ≡ state → Fits row (state_answer ledger incomings row t state)
state_fits states.Funding ledger incomings row t is =
    funding_fits (nat_le row.expiry t) (nat_lt (available_in ledger (Wallet row.terms.payer)) row.terms.debit) _ row is
state_fits states.Sending ledger incomings row t is =
    sending_fits (row_is (is_open_at t) incomings row.terms.incoming) (not (is_within_one_asset ledger row) && nat_lt (available_in ledger (Pool (asset_in ledger (Wallet row.terms.payee)))) (next_delivered row - row.delivered)) (next_sent row == row.terms.source) _ row is refl
state_fits states.Completed ledger incomings row t is = tt
state_fits states.Failed ledger incomings row t is = tt

number_fits : (now : Bool) (ledger : LedgerValue) (incomings : List Incoming) (row : OutgoingRow) (t : ℕ) → Fits row (cond now (state_answer ledger incomings row t row.state) (answers.Stale row.step))
number_fits true ledger incomings row t = state_fits row.state ledger incomings row t refl
number_fits false ledger incomings row t = tt

fits : (row : OutgoingRow) (k : ℕ) (answer : StepAnswer) → IsAnswered row k answer → Fits row answer
fits row k answer is = subst (Fits row) (sym is.3) (number_fits (k == row.step) is.0 is.1 row is.2)

-- ---- one more entry

same_self : (p : ℕ) → (p == p) ≡ true
same_self p = grind (arith, nat_tests)

swapped : (k p : ℕ) → (k == p) ≡ false → (p == k) ≡ false
swapped k p h = grind (arith, nat_tests)

or_none : (b : Bool) → (b || false) ≡ b
or_none true = refl
or_none false = refl

or_true : (b : Bool) → (b || true) ≡ true
or_true true = refl
or_true false = refl

or_assoc : (a b c : Bool) → ((a || b) || c) ≡ (a || (b || c))
or_assoc true b c = refl
or_assoc false b c = refl

add_nothing : (n : ℕ) → n + 0 ≡ n
add_nothing n = omega arith

any_next : (test : Entry → Bool) (history : List Entry) (e : Entry) → list_any test (history ++ e ∷ []) ≡ (list_any test history || test e)
any_next test [] e = or_none (test e)
any_next test (f ∷ fs) e = ap (λ b. test f || b) (any_next test fs e) ∙ sym (or_assoc (test f) (list_any test fs) (test e))

reasons_next : (history : List Entry) (e : Entry) (p : ℕ) → failure p e.act ≡ None → fail_reason (history ++ e ∷ []) p ≡ fail_reason history p
reasons_next history e p none =
    ap last (collected-next (λ f. failure p f.act) history e ∙ ap (λ o. filter_map (λ f. failure p f.act) history ++ option_to_list o) none ∙ append-nil (filter_map (λ f. failure p f.act) history))

reason_next : (history : List Entry) (e : Entry) (p : ℕ) (reason : FailReason) → failure p e.act ≡ Some reason → fail_reason (history ++ e ∷ []) p ≡ Some reason
reason_next history e p reason some =
    ap last (collected-next (λ f. failure p f.act) history e ∙ ap (λ o. filter_map (λ f. failure p f.act) history ++ option_to_list o) some) ∙ last-next (filter_map (λ f. failure p f.act) history) reason

-- the state, from what was found in a history
abbrev state_by : Bool → Bool → Bool → PaymentState
state_by failed finished funded = cond failed states.Failed (cond finished states.Completed (cond funded states.Sending states.Funding))

record IsSendingBy (failed finished funded : Bool) : Type 0 where
  failed_not : failed ≡ false
  finished_not : finished ≡ false
  funded_is : funded ≡ true

sending_by : (failed finished funded : Bool) → state_by failed finished funded ≡ states.Sending → IsSendingBy failed finished funded
sending_by true finished funded h = absurd (let no : states.Failed ≡ states.Sending = h in cc)
sending_by false true funded h = absurd (let no : states.Completed ≡ states.Sending = h in cc)
sending_by false false true h = record { failed_not = refl; finished_not = refl; funded_is = refl }
sending_by false false false h = absurd (let no : states.Funding ≡ states.Sending = h in cc)

record IsFundingBy (failed finished funded : Bool) : Type 0 where
  failed_not : failed ≡ false
  finished_not : finished ≡ false
  funded_not : funded ≡ false

funding_by : (failed finished funded : Bool) → state_by failed finished funded ≡ states.Funding → IsFundingBy failed finished funded
funding_by true finished funded h = absurd (let no : states.Failed ≡ states.Funding = h in cc)
funding_by false true funded h = absurd (let no : states.Completed ≡ states.Funding = h in cc)
funding_by false false true h = absurd (let no : states.Sending ≡ states.Funding = h in cc)
funding_by false false false h = record { failed_not = refl; finished_not = refl; funded_not = refl }

state_next : (history : List Entry) (e : Entry) (p : ℕ) (failed finished funded : Bool) → is_some (fail_reason (history ++ e ∷ []) p) ≡ failed → (list_any (λ f. is_last_piece p f.act) history || is_last_piece p e.act) ≡ finished → (list_any (λ f. is_funding p f.act) history || is_funding p e.act) ≡ funded → state_of (history ++ e ∷ []) p ≡ state_by failed finished funded
state_next history e p failed finished funded a b c =
    ap (λ x. state_by x (list_any (λ f. is_last_piece p f.act) (history ++ e ∷ [])) (list_any (λ f. is_funding p f.act) (history ++ e ∷ []))) a
    ∙ ap (λ x. state_by failed x (list_any (λ f. is_funding p f.act) (history ++ e ∷ []))) (any_next (λ f. is_last_piece p f.act) history e ∙ b)
    ∙ ap (λ x. state_by failed finished x) (any_next (λ f. is_funding p f.act) history e ∙ c)

-- ---- the rows

same_fields : (row : OutgoingRow) (s s' : PaymentState) (k k' a a' b b' c c' r r' : ℕ) → s ≡ s' → k ≡ k' → a ≡ a' → b ≡ b' → c ≡ c' → r ≡ r' → record row { state = s; step = k; sent = a; fee = b; delivered = c; reason = r } ≡ record row { state = s'; step = k'; sent = a'; fee = b'; delivered = c'; reason = r' }
same_fields row s s' k k' a a' b b' c c' r r' e f g h i j = cc

-- a step that sends nothing
still_sent : (history : List Entry) (e : Entry) (p : ℕ) → is_piece p e.act ≡ false → pieces_sent (history ++ e ∷ []) p ≡ pieces_sent history p
still_sent history e p none = let more = pieces_sent-next history e p in more ∙ ap (λ b. pieces_sent history p + cond b 1 0) none ∙ add_nothing (pieces_sent history p)

one_step : (history : List Entry) (e : Entry) (p : ℕ) → is_step p e.act ≡ true → step_number (history ++ e ∷ []) p ≡ step_number history p + 1
one_step history e p is = step_number-next history e p ∙ ap (λ b. step_number history p + cond b 1 0) is

one_piece : (history : List Entry) (e : Entry) (p : ℕ) → is_piece p e.act ≡ true → pieces_sent (history ++ e ∷ []) p ≡ pieces_sent history p + 1
one_piece history e p is = pieces_sent-next history e p ∙ ap (λ b. pieces_sent history p + cond b 1 0) is

-- funded
funded_next : (history : List Entry) (p k t : ℕ) (m : PaymentMade) → state_of history p ≡ states.Funding → let e : Entry = record { at = t; act = acts.OutgoingFunded p k } in payment_so_far (history ++ e ∷ []) (p, m) ≡ funded_row (payment_so_far history (p, m))
funded_next history p k t m is =
    let e : Entry = record { at = t; act = acts.OutgoingFunded p k } in
    let terms = m.terms in
    let was = funding_by (is_some (fail_reason history p)) (list_any (λ f. is_last_piece p f.act) history) (list_any (λ f. is_funding p f.act) history) is in
    let reasons : fail_reason (history ++ e ∷ []) p ≡ fail_reason history p = reasons_next history e p refl in
    let pieces : pieces_sent (history ++ e ∷ []) p ≡ pieces_sent history p = still_sent history e p refl in
    let steps : step_number (history ++ e ∷ []) p ≡ step_number history p + 1 = one_step history e p (ap (λ b. b || false) (same_self p)) in
    let state : state_of (history ++ e ∷ []) p ≡ states.Sending = state_next history e p false false true (ap is_some reasons ∙ was.failed_not) (or_none (list_any (λ f. is_last_piece p f.act) history) ∙ was.finished_not) (ap (λ b. list_any (λ f. is_funding p f.act) history || b) (same_self p) ∙ or_true (list_any (λ f. is_funding p f.act) history)) in
    same_fields (payment_so_far history (p, m)) _ _ _ _ _ _ _ _ _ _ _ _ state steps (ap (sent_after terms) pieces) (ap (fee_after terms) pieces) (ap (delivered_after terms) pieces) (ap reason_number reasons)

-- a piece, and the state behind it
abbrev pieced : PaymentState → OutgoingRow → OutgoingRow
pieced state row = record row { state = state; step = row.step + 1; sent = next_sent row; fee = next_fee row; delivered = next_delivered row }

sent_next : (history : List Entry) (p k t : ℕ) (m : PaymentMade) → state_of history p ≡ states.Sending → let e : Entry = record { at = t; act = acts.OutgoingSent p k } in payment_so_far (history ++ e ∷ []) (p, m) ≡ pieced states.Sending (payment_so_far history (p, m))
sent_next history p k t m is =
    let e : Entry = record { at = t; act = acts.OutgoingSent p k } in
    let terms = m.terms in
    let n = pieces_sent history p in
    let was = sending_by (is_some (fail_reason history p)) (list_any (λ f. is_last_piece p f.act) history) (list_any (λ f. is_funding p f.act) history) is in
    let reasons : fail_reason (history ++ e ∷ []) p ≡ fail_reason history p = reasons_next history e p refl in
    let pieces : pieces_sent (history ++ e ∷ []) p ≡ n + 1 = one_piece history e p (same_self p) in
    let steps : step_number (history ++ e ∷ []) p ≡ step_number history p + 1 = one_step history e p (ap (λ b. b || false) (same_self p)) in
    let state : state_of (history ++ e ∷ []) p ≡ states.Sending = state_next history e p false false true (ap is_some reasons ∙ was.failed_not) (or_none (list_any (λ f. is_last_piece p f.act) history) ∙ was.finished_not) (or_none (list_any (λ f. is_funding p f.act) history) ∙ was.funded_is) in
    let sent = ap (sent_after terms) pieces ∙ sent_after-next terms n in
    same_fields (payment_so_far history (p, m)) _ _ _ _ _ _ _ _ _ _ _ _ state steps sent (ap (λ s. share terms.fee s terms.source) sent) (ap (λ s. floor_mul s terms.num terms.den) sent) (ap reason_number reasons)

completed_next : (history : List Entry) (p k t : ℕ) (m : PaymentMade) → state_of history p ≡ states.Sending → let e : Entry = record { at = t; act = acts.OutgoingCompleted p k } in payment_so_far (history ++ e ∷ []) (p, m) ≡ pieced states.Completed (payment_so_far history (p, m))
completed_next history p k t m is =
    let e : Entry = record { at = t; act = acts.OutgoingCompleted p k } in
    let terms = m.terms in
    let n = pieces_sent history p in
    let was = sending_by (is_some (fail_reason history p)) (list_any (λ f. is_last_piece p f.act) history) (list_any (λ f. is_funding p f.act) history) is in
    let reasons : fail_reason (history ++ e ∷ []) p ≡ fail_reason history p = reasons_next history e p refl in
    let pieces : pieces_sent (history ++ e ∷ []) p ≡ n + 1 = one_piece history e p (same_self p) in
    let steps : step_number (history ++ e ∷ []) p ≡ step_number history p + 1 = one_step history e p (ap (λ b. b || false) (same_self p)) in
    let state : state_of (history ++ e ∷ []) p ≡ states.Completed = state_next history e p false true true (ap is_some reasons ∙ was.failed_not) (ap (λ b. list_any (λ f. is_last_piece p f.act) history || b) (same_self p) ∙ or_true (list_any (λ f. is_last_piece p f.act) history)) (or_none (list_any (λ f. is_funding p f.act) history) ∙ was.funded_is) in
    let sent = ap (sent_after terms) pieces ∙ sent_after-next terms n in
    same_fields (payment_so_far history (p, m)) _ _ _ _ _ _ _ _ _ _ _ _ state steps sent (ap (λ s. share terms.fee s terms.source) sent) (ap (λ s. floor_mul s terms.num terms.den) sent) (ap reason_number reasons)

failed_next : (history : List Entry) (p k t : ℕ) (reason : FailReason) (m : PaymentMade) → let e : Entry = record { at = t; act = acts.OutgoingFailed p k reason } in payment_so_far (history ++ e ∷ []) (p, m) ≡ ended_as reason (payment_so_far history (p, m))
failed_next history p k t reason m =
    let e : Entry = record { at = t; act = acts.OutgoingFailed p k reason } in
    let terms = m.terms in
    let says : failure p e.act ≡ Some reason = ap (λ b. cond b (Some reason) None) (same_self p) in
    let reasons : fail_reason (history ++ e ∷ []) p ≡ Some reason = reason_next history e p reason says in
    let pieces : pieces_sent (history ++ e ∷ []) p ≡ pieces_sent history p = still_sent history e p refl in
    let steps : step_number (history ++ e ∷ []) p ≡ step_number history p + 1 = one_step history e p (ap is_some says) in
    let state : state_of (history ++ e ∷ []) p ≡ states.Failed = state_next history e p true _ _ (ap is_some reasons) refl refl in
    same_fields (payment_so_far history (p, m)) _ _ _ _ _ _ _ _ _ _ _ _ state steps (ap (sent_after terms) pieces) (ap (fee_after terms) pieces) (ap (delivered_after terms) pieces) (ap reason_number reasons)

-- ---- all rows

other_piece : (k p : ℕ) → (k == p) ≡ false → ((p == k) || false) ≡ false
other_piece k p h = ap (λ b. b || false) (swapped k p h)

funded_rows : (history : List Entry) (p k t : ℕ) → state_of history p ≡ states.Funding → outgoings (history ++ record { at = t; act = acts.OutgoingFunded p k } ∷ []) ≡ with_item funded_row (outgoings history) p
funded_rows history p k t is =
    outgoings_step history (record { at = t; act = acts.OutgoingFunded p k }) p funded_row refl (λ j h. other_piece j p h) (λ m. funded_next history p k t m is)

sent_rows : (history : List Entry) (p k t : ℕ) → state_of history p ≡ states.Sending → outgoings (history ++ record { at = t; act = acts.OutgoingSent p k } ∷ []) ≡ with_item (pieced states.Sending) (outgoings history) p
sent_rows history p k t is =
    outgoings_step history (record { at = t; act = acts.OutgoingSent p k }) p (pieced states.Sending) refl (λ j h. other_piece j p h) (λ m. sent_next history p k t m is)

completed_rows : (history : List Entry) (p k t : ℕ) → state_of history p ≡ states.Sending → outgoings (history ++ record { at = t; act = acts.OutgoingCompleted p k } ∷ []) ≡ with_item (pieced states.Completed) (outgoings history) p
completed_rows history p k t is =
    outgoings_step history (record { at = t; act = acts.OutgoingCompleted p k }) p (pieced states.Completed) refl (λ j h. other_piece j p h) (λ m. completed_next history p k t m is)

-- also that of a cancelling
failed_rows : (history : List Entry) (p k t : ℕ) (reason : FailReason) → outgoings (history ++ record { at = t; act = acts.OutgoingFailed p k reason } ∷ []) ≡ with_item (ended_as reason) (outgoings history) p
failed_rows history p k t reason =
    outgoings_step history (record { at = t; act = acts.OutgoingFailed p k reason }) p (ended_as reason) refl
    (λ j h. ap (λ b. is_some (cond b (Some reason) None)) (swapped j p h))
    (λ m. failed_next history p k t reason m)

this_act : (act made : Act) → Some made ≡ Some act → made ≡ act
this_act act made h = cc

state_at : (history : List Entry) (p : ℕ) (row : OutgoingRow) (state : PaymentState) → outgoing_row history p ≡ Some row → row.state ≡ state → state_of history p ≡ state
state_at history p row state found is =
    let at = row_at (payment_so_far history) (payments_made history) p row found in
    sym (ap (λ (r : OutgoingRow). r.state) at.is) ∙ is

piece_state : (all : Bool) (row : OutgoingRow) → (next_sent row == row.terms.source) ≡ all → pieced (cond all states.Completed states.Sending) row ≡ with_next_piece row
piece_state all row h = ap (λ b. pieced (cond b states.Completed states.Sending) row) (sym h)

behind_answer : (answer : StepAnswer) (history : List Entry) (p k t : ℕ) (row : OutgoingRow) (act : Act) → outgoing_row history p ≡ Some row → Fits row answer → step_act p k answer ≡ Some act → outgoings (history ++ record { at = t; act = act } ∷ []) ≡ with_item (stepped_row answer) (outgoings history) p
behind_answer answers.Funded history p k t row act found fit is =
    subst (λ a. outgoings (history ++ record { at = t; act = a } ∷ []) ≡ with_item funded_row (outgoings history) p) (this_act act (acts.OutgoingFunded p k) is) (funded_rows history p k t (state_at history p row states.Funding found fit))
behind_answer answers.Sent history p k t row act found fit is =
    subst (λ a. outgoings (history ++ record { at = t; act = a } ∷ []) ≡ with_item with_next_piece (outgoings history) p) (this_act act (acts.OutgoingSent p k) is)
    (sent_rows history p k t (state_at history p row states.Sending found fit.0) ∙ with_item-agree (pieced states.Sending) with_next_piece (outgoings history) p row found (piece_state false row fit.1))
behind_answer answers.Completed history p k t row act found fit is =
    subst (λ a. outgoings (history ++ record { at = t; act = a } ∷ []) ≡ with_item with_next_piece (outgoings history) p) (this_act act (acts.OutgoingCompleted p k) is)
    (completed_rows history p k t (state_at history p row states.Sending found fit.0) ∙ with_item-agree (pieced states.Completed) with_next_piece (outgoings history) p row found (piece_state true row fit.1))
behind_answer (answers.Failed reason) history p k t row act found fit is =
    subst (λ a. outgoings (history ++ record { at = t; act = a } ∷ []) ≡ with_item (ended_as reason) (outgoings history) p) (this_act act (acts.OutgoingFailed p k reason) is) (failed_rows history p k t reason)
behind_answer (answers.Stale now) history p k t row act found fit is = absurd (let no : None ≡ Some act = is in cc)
behind_answer answers.Ended history p k t row act found fit is = absurd (let no : None ≡ Some act = is in cc)
behind_answer (answers.Waiting shortage) history p k t row act found fit is = absurd (let no : None ≡ Some act = is in cc)

pub rows_are_defined : RowsAreDefined
rows_are_defined = record {
  made = made_rows;
  direct = direct_rows;
  stepped = λ history p k t row answer act found answered is. behind_answer answer history p k t row act found (fits row k answer answered) is;
  cancelled = λ history p k t. failed_rows history p k t Cancelled;
}
