-- A payment from its making on: what any list of steps and cancellings uses, debits and delivers.
use Rattle.std.specs.Prelude.{ℕ, ◌≡◌, ◌+◌, true, if◌then◌else◌, List, [], ◌∷◌, ◌++◌, length}
use Rattle.std.specs.List.{range_with_len}
use Rattle.op_amount.specs.Rates.{share, floor_mul}
use Rattle.op_incoming.specs.declared.incoming.Incoming.{Incoming}
use Rattle.op_ledger.specs.Balances.{LedgerValue}
use Rattle.op_ledger.specs.Pieces.{taken}
use Rattle.op_model.specs.Payments.{PaymentMade}
use Rattle.op_model.specs.declared.act.FailReason.TheVariants.{Cancelled}
use Rattle.op_model.specs.declared.reply.StepAnswer.{StepAnswer}
use Rattle.op_model.specs.declared.reply.StepAnswer.TheVariants as answers
use Rattle.op_model.specs.declared.row.OutgoingRow.{OutgoingRow}
use Rattle.op_model.specs.declared.row.PaymentState.TheVariants as states
use Rattle.op_outgoing.specs.Answers.{row_answer}
use Rattle.op_outgoing.specs.Pieces.{next_piece}
use Rattle.op_outgoing.specs.Progress.{is_alive}
use Rattle.op_outgoing.specs.Sound.{ArePriced}
use Rattle.op_outgoing.specs.Steps.{stepped_row, ended_as, is_idle}
use Rattle.op_outgoing.specs.Value.{fresh_row}

-- a step with its answer, or a cancelling
pub data Taken : Type 0 where
  Stepped : (k : ℕ) (answer : StepAnswer) → Taken
  CancelMade : Taken

-- the payment behind it, as the calls' contracts have it
abbrev pub row_behind : OutgoingRow → Taken → OutgoingRow
row_behind row (Stepped k answer) = stepped_row answer row
row_behind row CancelMade = ended_as Cancelled row

abbrev pub row_at_end : OutgoingRow → List Taken → OutgoingRow
row_at_end row [] = row
row_at_end row (s ∷ ss) = row_at_end (row_behind row s) ss

-- the answer is the one of the table, on some ledger and some incoming payments, at some moment
abbrev pub IsAnswered : OutgoingRow → ℕ → StepAnswer → Type 0
IsAnswered row k answer = (ledger : LedgerValue) × (incomings : List Incoming) × (t : ℕ) × (answer ≡ row_answer ledger incomings k t row)

abbrev pub CanBeTaken : OutgoingRow → Taken → Type 0
CanBeTaken row (Stepped k answer) = IsAnswered row k answer
CanBeTaken row CancelMade = is_alive row ≡ true

-- one after another; a refused cancelling changes nothing, so it stands in no such list
abbrev pub AreTaken : OutgoingRow → List Taken → Type 0
AreTaken row [] = Unit {0}
AreTaken row (s ∷ ss) = CanBeTaken row s × AreTaken (row_behind row s) ss

-- the step number that is used: that of each step that changes something, and the current one of a cancelling
abbrev pub number_used : OutgoingRow → Taken → List ℕ
number_used row (Stepped k answer) = if is_idle answer then [] else k ∷ []
number_used row CancelMade = row.step ∷ []

abbrev pub numbers_used : OutgoingRow → List Taken → List ℕ
numbers_used row [] = []
numbers_used row (s ∷ ss) = number_used row s ++ numbers_used (row_behind row s) ss

-- what is posted from the payer's wallet, and what is delivered
abbrev pub debited_by : OutgoingRow → Taken → ℕ
debited_by row (Stepped k answers.Sent) = taken (next_piece row)
debited_by row (Stepped k answers.Completed) = taken (next_piece row)
debited_by row _ = 0

abbrev pub delivered_by : OutgoingRow → Taken → ℕ
delivered_by row (Stepped k answers.Sent) = (next_piece row).delivered
delivered_by row (Stepped k answers.Completed) = (next_piece row).delivered
delivered_by row _ = 0

abbrev pub debited : OutgoingRow → List Taken → ℕ
debited row [] = 0
debited row (s ∷ ss) = debited_by row s + debited (row_behind row s) ss

abbrev pub delivered : OutgoingRow → List Taken → ℕ
delivered row [] = 0
delivered row (s ∷ ss) = delivered_by row s + delivered (row_behind row s) ss

-- What a payment's pieces moved: what was sent, and the floors of its fee and of its delivery. The step numbers that
-- were used are 0, 1, 2 and so on, each once.
pub record KeepsTerms (row : OutgoingRow) (steps : List Taken) : Type 0 where
  pub numbers : numbers_used row steps ≡ range_with_len 0 (length (numbers_used row steps))
  pub debits :
      debited row steps ≡ (row_at_end row steps).sent + share (row_at_end row steps).terms.fee (row_at_end row steps).sent (row_at_end row steps).terms.source
  pub delivers :
      delivered row steps ≡ floor_mul (row_at_end row steps).sent (row_at_end row steps).terms.num (row_at_end row steps).terms.den
  pub completes :
      (row_at_end row steps).state ≡ states.Completed →
      (debited row steps ≡ row.terms.source + row.terms.fee) × (delivered row steps ≡ row.terms.receive)

abbrev pub PaymentsKeepTheirTerms : Type 0
PaymentsKeepTheirTerms =
    (made : PaymentMade) → ArePriced made.terms →
    (steps : List Taken) → AreTaken (fresh_row made) steps → KeepsTerms (fresh_row made) steps
