-- A payment keeps to its terms, step by step.
use Rattle.std.proofs.Common.{◌≡◌, refl, sym, ap, subst, ◌∙◌, ◌⊎◌, inl, inr, ℕ, ◌+◌, ◌-◌, ◌<◌, ◌≤◌, Bool, true, false, cond, List, [], ◌∷◌, ◌++◌, length, arith}
use Rattle.std.specs.Prelude.{◌==◌, ◌&&◌, not, nat_lt, nat_le}
use Rattle.std.specs.List.{range_with_len}
use Rattle.std.proofs.lemmas.Bool.Decides.{nat_tests}
use Rattle.op_amount.specs.Rates.{share, floor_mul}
use Rattle.op_incoming.specs.Rows.{row_is, is_open_at}
use Rattle.op_incoming.specs.declared.incoming.Incoming.{Incoming}
use Rattle.op_ledger.specs.Balances.{LedgerValue, available_in, asset_in}
use Rattle.op_ledger.specs.Pieces.{taken}
use Rattle.op_model.specs.declared.act.Account.TheVariants.{Pool, Wallet}
use Rattle.op_model.specs.declared.act.FailReason.{FailReason}
use Rattle.op_model.specs.declared.act.FailReason.TheVariants.{QuoteExpired, ReceiverClosed, Cancelled}
use Rattle.op_model.specs.declared.reply.Shortage.{Shortage}
use Rattle.op_model.specs.declared.reply.StepAnswer.TheVariants as answers
use Rattle.op_model.specs.declared.row.OutgoingRow.{OutgoingRow}
use Rattle.op_model.specs.declared.row.PaymentState.{PaymentState}
use Rattle.op_model.specs.declared.row.PaymentState.TheVariants as states
use Rattle.op_outgoing.specs.Answers.{state_answer, is_within_one_asset}
use Rattle.op_outgoing.specs.Pieces.{next_sent, next_fee, next_delivered, next_piece}
use Rattle.op_outgoing.specs.Runs.{Taken, Stepped, CancelMade, row_behind, row_at_end, CanBeTaken, AreTaken, number_used, numbers_used, debited_by, delivered_by, debited, delivered, PaymentsKeepTheirTerms}
use Rattle.op_outgoing.specs.Sound.{IsAsFarAs, IsSoundRow}
use Rattle.op_outgoing.specs.Steps.{funded_row, with_next_piece, ended_as}
use Rattle.op_outgoing.specs.Value.{fresh_row}
use Rattle.op_outgoing.proofs.Floors.{delivered_grows}
use Rattle.op_outgoing.proofs.Holding.{share-le, share_whole}
use Rattle.op_outgoing.proofs.Quotes.{sound_fresh}

-- ---- soundness of the rows behind each answer

sound_failed : (row : OutgoingRow) (reason : FailReason) → IsSoundRow row → IsSoundRow (ended_as reason row)
sound_failed row reason sound = record { priced = sound.priced; sent = sound.sent; fee = sound.fee; delivered = sound.delivered; far = tt }

sound_funded : (row : OutgoingRow) → IsSoundRow row → row.state ≡ states.Funding → IsSoundRow (funded_row row)
sound_funded row sound is =
    let far = subst (λ state. IsAsFarAs state row) is sound.far in
    record {
      priced = sound.priced;
      sent = sound.sent;
      fee = sound.fee;
      delivered = sound.delivered;
      far = (omega (arith, far.0, sound.priced.some), omega (arith, far.1));
    }

same_number : (m n : ℕ) → (m == n) ≡ true → m ≡ n
same_number m n h = grind (arith, nat_tests)

other_number : (m n : ℕ) → (m == n) ≡ false → m ≤ n → m < n
other_number m n h le = grind (arith, nat_tests)

far_step : (t : Bool) (row : OutgoingRow) → (next_sent row == row.terms.source) ≡ t → IsSoundRow row → row.state ≡ states.Sending → IsAsFarAs (cond t states.Completed states.Sending) (with_next_piece row)
far_step true row h sound is = same_number (next_sent row) row.terms.source h
far_step false row h sound is =
    let far = subst (λ state. IsAsFarAs state row) is sound.far in
    let below : next_sent row < row.terms.source = other_number (next_sent row) row.terms.source h (omega arith) in
    (below, omega (arith, far.0, far.1, sound.priced.piece.0))

sound_next : (row : OutgoingRow) → IsSoundRow row → row.state ≡ states.Sending → IsSoundRow (with_next_piece row)
sound_next row sound is = record {
  priced = sound.priced;
  sent = omega arith;
  fee = refl;
  delivered = refl;
  far = far_step (next_sent row == row.terms.source) row refl sound is;
}

-- ---- one step

-- a step number is used and raised, or neither
abbrev Uses : OutgoingRow → Taken → Type 0
Uses row s =
    ((number_used row s ≡ []) × ((row_behind row s).step ≡ row.step)) ⊎ ((number_used row s ≡ row.step ∷ []) × ((row_behind row s).step ≡ row.step + 1))

record Keeps (row : OutgoingRow) (s : Taken) : Type 0 where
  sound : IsSoundRow (row_behind row s)
  uses : Uses row s
  terms : (row_behind row s).terms ≡ row.terms
  debits : debited_by row s + (row.sent + row.fee) ≡ (row_behind row s).sent + (row_behind row s).fee
  delivers : delivered_by row s + row.delivered ≡ (row_behind row s).delivered

keeps_stale : (row : OutgoingRow) (k : ℕ) → IsSoundRow row → Keeps row (Stepped k (answers.Stale row.step))
keeps_stale row k sound = record { sound = sound; uses = inl (refl, refl); terms = refl; debits = omega arith; delivers = omega arith }

keeps_ended : (row : OutgoingRow) (k : ℕ) → IsSoundRow row → Keeps row (Stepped k answers.Ended)
keeps_ended row k sound = record { sound = sound; uses = inl (refl, refl); terms = refl; debits = omega arith; delivers = omega arith }

keeps_waiting : (row : OutgoingRow) (k : ℕ) (shortage : Shortage) → IsSoundRow row → Keeps row (Stepped k (answers.Waiting shortage))
keeps_waiting row k shortage sound = record { sound = sound; uses = inl (refl, refl); terms = refl; debits = omega arith; delivers = omega arith }

keeps_funded : (row : OutgoingRow) (k : ℕ) → k ≡ row.step → IsSoundRow row → row.state ≡ states.Funding → Keeps row (Stepped k answers.Funded)
keeps_funded row k number sound is = record {
  sound = sound_funded row sound is;
  uses = inr (ap (λ n. n ∷ []) number, refl);
  terms = refl;
  debits = omega arith;
  delivers = omega arith;
}

keeps_failed : (row : OutgoingRow) (k : ℕ) (reason : FailReason) → k ≡ row.step → IsSoundRow row → Keeps row (Stepped k (answers.Failed reason))
keeps_failed row k reason number sound = record {
  sound = sound_failed row reason sound;
  uses = inr (ap (λ n. n ∷ []) number, refl);
  terms = refl;
  debits = omega arith;
  delivers = omega arith;
}

piece_debits : (row : OutgoingRow) → IsSoundRow row → taken (next_piece row) + (row.sent + row.fee) ≡ next_sent row + next_fee row
piece_debits row sound =
    let more : row.sent ≤ next_sent row = omega (arith, sound.sent) in
    let fee : row.fee ≤ next_fee row = omega (arith, sound.fee, share-le row.terms.fee row.sent (next_sent row) row.terms.source more sound.priced.some) in
    omega (arith, more, fee)

piece_delivers : (row : OutgoingRow) → IsSoundRow row → (next_piece row).delivered + row.delivered ≡ next_delivered row
piece_delivers row sound = omega (arith, (delivered_grows row sound).0)

keeps_sent : (row : OutgoingRow) (k : ℕ) → k ≡ row.step → IsSoundRow row → row.state ≡ states.Sending → Keeps row (Stepped k answers.Sent)
keeps_sent row k number sound is = record {
  sound = sound_next row sound is;
  uses = inr (ap (λ n. n ∷ []) number, refl);
  terms = refl;
  debits = piece_debits row sound;
  delivers = piece_delivers row sound;
}

keeps_completed : (row : OutgoingRow) (k : ℕ) → k ≡ row.step → IsSoundRow row → row.state ≡ states.Sending → Keeps row (Stepped k answers.Completed)
keeps_completed row k number sound is = record {
  sound = sound_next row sound is;
  uses = inr (ap (λ n. n ∷ []) number, refl);
  terms = refl;
  debits = piece_debits row sound;
  delivers = piece_delivers row sound;
}

-- ---- the table

funding_case : (late short : Bool) (shortage : Shortage) (row : OutgoingRow) (k : ℕ) → k ≡ row.step → IsSoundRow row → row.state ≡ states.Funding → Keeps row (Stepped k (cond late (answers.Failed QuoteExpired) (cond short (answers.Waiting shortage) answers.Funded)))
funding_case true short shortage row k number sound is = keeps_failed row k QuoteExpired number sound
funding_case false true shortage row k number sound is = keeps_waiting row k shortage sound
funding_case false false shortage row k number sound is = keeps_funded row k number sound is

sending_case : (may lacks all : Bool) (shortage : Shortage) (row : OutgoingRow) (k : ℕ) → k ≡ row.step → IsSoundRow row → row.state ≡ states.Sending → Keeps row (Stepped k (cond (not may) (answers.Failed ReceiverClosed) (cond lacks (answers.Waiting shortage) (cond all answers.Completed answers.Sent))))
sending_case false lacks all shortage row k number sound is = keeps_failed row k ReceiverClosed number sound
sending_case true true all shortage row k number sound is = keeps_waiting row k shortage sound
sending_case true false true shortage row k number sound is = keeps_completed row k number sound is
sending_case true false false shortage row k number sound is = keeps_sent row k number sound is

state_case : (state : PaymentState) (ledger : LedgerValue) (incomings : List Incoming) (row : OutgoingRow) (k t : ℕ) → k ≡ row.step → IsSoundRow row → row.state ≡ state → Keeps row (Stepped k (state_answer ledger incomings row t state))
state_case states.Funding ledger incomings row k t number sound is =
    funding_case (nat_le row.expiry t) (nat_lt (available_in ledger (Wallet row.terms.payer)) row.terms.debit) _ row k number sound is
state_case states.Sending ledger incomings row k t number sound is =
    sending_case (row_is (is_open_at t) incomings row.terms.incoming) (not (is_within_one_asset ledger row) && nat_lt (available_in ledger (Pool (asset_in ledger (Wallet row.terms.payee)))) (next_delivered row - row.delivered)) (next_sent row == row.terms.source) _ row k number sound is
state_case states.Completed ledger incomings row k t number sound is = keeps_ended row k sound
state_case states.Failed ledger incomings row k t number sound is = keeps_ended row k sound

number_case : (now : Bool) (ledger : LedgerValue) (incomings : List Incoming) (row : OutgoingRow) (k t : ℕ) → (k == row.step) ≡ now → IsSoundRow row → Keeps row (Stepped k (cond now (state_answer ledger incomings row t row.state) (answers.Stale row.step)))
number_case true ledger incomings row k t is sound = state_case row.state ledger incomings row k t (same_number k row.step is) sound refl
number_case false ledger incomings row k t is sound = keeps_stale row k sound

keeps : (row : OutgoingRow) (s : Taken) → IsSoundRow row → CanBeTaken row s → Keeps row s
keeps row (Stepped k answer) sound can =
    subst (λ a. Keeps row (Stepped k a)) (sym can.3) (number_case (k == row.step) can.0 can.1 row k can.2 refl sound)
keeps row CancelMade sound can = record {
  sound = sound_failed row Cancelled sound;
  uses = inr (refl, refl);
  terms = refl;
  debits = omega arith;
  delivers = omega arith;
}

-- ---- any list of steps

record KeepsAll (row : OutgoingRow) (steps : List Taken) : Type 0 where
  sound : IsSoundRow (row_at_end row steps)
  terms : (row_at_end row steps).terms ≡ row.terms
  numbers : numbers_used row steps ≡ range_with_len row.step (length (numbers_used row steps))
  debits : debited row steps + (row.sent + row.fee) ≡ (row_at_end row steps).sent + (row_at_end row steps).fee
  delivers : delivered row steps + row.delivered ≡ (row_at_end row steps).delivered

count_on : (used later : List ℕ) (now next : ℕ) → ((used ≡ []) × (next ≡ now)) ⊎ ((used ≡ now ∷ []) × (next ≡ now + 1)) → later ≡ range_with_len next (length later) → used ++ later ≡ range_with_len now (length (used ++ later))
count_on used later now next (inl h) rest =
    rw h.0 (rest ∙ ap (λ n. range_with_len n (length later)) h.1)
count_on used later now next (inr h) rest =
    rw h.0 (ap (λ xs. now ∷ xs) (rest ∙ ap (λ n. range_with_len n (length later)) h.1))

keeps_all : (steps : List Taken) (row : OutgoingRow) → IsSoundRow row → AreTaken row steps → KeepsAll row steps
keeps_all [] row sound are = record { sound = sound; terms = refl; numbers = refl; debits = omega arith; delivers = omega arith }
keeps_all (s ∷ ss) row sound are =
    let one = keeps row s sound are.0 in
    let rest = keeps_all ss (row_behind row s) one.sound are.1 in
    record {
      sound = rest.sound;
      terms = rest.terms ∙ one.terms;
      numbers = count_on (number_used row s) (numbers_used (row_behind row s) ss) row.step (row_behind row s).step one.uses rest.numbers;
      debits = omega (arith, one.debits, rest.debits);
      delivers = omega (arith, one.delivers, rest.delivers);
    }

completed_sends_all : (row : OutgoingRow) → IsSoundRow row → row.state ≡ states.Completed → row.sent ≡ row.terms.source
completed_sends_all row sound is = subst (λ state. IsAsFarAs state row) is sound.far

all_debited : (row : OutgoingRow) → IsSoundRow row → row.state ≡ states.Completed → row.sent + row.fee ≡ row.terms.source + row.terms.fee
all_debited row sound is =
    let all = completed_sends_all row sound is in
    let fee : row.fee ≡ row.terms.fee = sound.fee ∙ ap (λ s. share row.terms.fee s row.terms.source) all ∙ share_whole row.terms.fee row.terms.source sound.priced.some in
    omega (arith, all, fee)

all_delivered : (row : OutgoingRow) → IsSoundRow row → row.state ≡ states.Completed → row.delivered ≡ row.terms.receive
all_delivered row sound is =
    sound.delivered ∙ ap (λ s. floor_mul s row.terms.num row.terms.den) (completed_sends_all row sound is) ∙ sym sound.priced.receive

pub payments_keep_their_terms : PaymentsKeepTheirTerms
payments_keep_their_terms = λ made priced steps are.
    let row = fresh_row made in
    let end = row_at_end row steps in
    let all = keeps_all steps row (sound_fresh made priced) are in
    let debits : debited row steps ≡ end.sent + end.fee = omega (arith, all.debits) in
    let delivers : delivered row steps ≡ end.delivered = omega (arith, all.delivers) in
    record {
      numbers = all.numbers;
      debits = debits ∙ ap (λ fee. end.sent + fee) all.sound.fee;
      delivers = delivers ∙ all.sound.delivered;
      completes = λ is. (
        debits ∙ all_debited end all.sound is ∙ ap (λ terms. terms.source + terms.fee) all.terms,
        delivers ∙ all_delivered end all.sound is ∙ ap (λ terms. terms.receive) all.terms,
      );
    }
