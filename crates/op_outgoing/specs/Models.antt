-- Payments are what the wallet's definitions say, which speak of a history.
use Rattle.std.specs.Prelude.{ℕ, ◌≡◌, ◌+◌, ◌-◌, ◌++◌, List, [], ◌∷◌, length, map, take, Some}
use Rattle.std.specs.declared.option.Option.{Option}
use Rattle.op_amount.specs.declared.Priced.{Priced}
use Rattle.op_incoming.specs.Rows.{row_is, is_open_at}
use Rattle.op_incoming.specs.declared.incoming.Incoming.{Incoming}
use Rattle.op_ledger.specs.Balances.{LedgerValue, available_in, asset_in}
use Rattle.op_model.specs.Balances.{available, held}
use Rattle.op_model.specs.History.{address_asset, with_item}
use Rattle.op_model.specs.PaymentAnswers.{direct_act}
use Rattle.op_model.specs.Payments.{outgoings, outgoing_row, quote_row, payments_made, step_number, made_from_quote, made_directly, terms_at}
use Rattle.op_model.specs.Steps.{is_receiver_open, step_answer, step_act}
use Rattle.op_model.specs.Work.{due, expiring, expiry_limit, work_limit}
use Rattle.op_model.specs.declared.act.Account.{Account}
use Rattle.op_model.specs.declared.act.Account.TheVariants.{Pool, Wallet}
use Rattle.op_model.specs.declared.act.Act.{Act}
use Rattle.op_model.specs.declared.act.Act.TheVariants.{OutgoingFailed, OutgoingMade}
use Rattle.op_model.specs.declared.act.Entry.{Entry}
use Rattle.op_model.specs.declared.act.FailReason.TheVariants.{Cancelled}
use Rattle.op_model.specs.declared.reply.StepAnswer.{StepAnswer}
use Rattle.op_model.specs.declared.request.Task.TheVariants.{Expire}
use Rattle.op_model.specs.declared.row.OutgoingRow.{OutgoingRow}
use Rattle.op_model.specs.declared.row.QuoteRow.{QuoteRow}
use Rattle.op_outgoing.specs.Answers.{row_answer}
use Rattle.op_outgoing.specs.Held.{left_of}
use Rattle.op_outgoing.specs.Runs.{IsAnswered}
use Rattle.op_outgoing.specs.Steps.{stepped_row, ended_as}
use Rattle.op_outgoing.specs.Value.{fresh_row}
use Rattle.op_outgoing.specs.Work.{due_steps, next_cursor}

-- a ledger and incoming payments are as a history has them, as far as a step of a payment at t looks at them
pub record StandAs (history : List Entry) (t : ℕ) (row : OutgoingRow) (ledger : LedgerValue) (incomings : List Incoming) : Type 0 where
  pub payer_asset : asset_in ledger (Wallet row.terms.payer) ≡ address_asset history row.terms.payer
  pub payee_asset : asset_in ledger (Wallet row.terms.payee) ≡ address_asset history row.terms.payee
  pub payer : available_in ledger (Wallet row.terms.payer) ≡ available history (Wallet row.terms.payer)
  pub pool : available_in ledger (Pool (address_asset history row.terms.payee)) ≡ available history (Pool (address_asset history row.terms.payee))
  pub receiver : row_is (is_open_at t) incomings row.terms.incoming ≡ is_receiver_open history row t

-- the expiries of a work round, and the room that they leave for steps
abbrev pub first_expiries : List Entry → ℕ → List ℕ
first_expiries history t = take expiry_limit (expiring history t)

abbrev pub room_left : List Entry → ℕ → ℕ
room_left history t = work_limit - length (first_expiries history t)

abbrev pub AnswersAreDefined : Type 0
AnswersAreDefined =
    (history : List Entry) (ledger : LedgerValue) (incomings : List Incoming) (p k t : ℕ) (row : OutgoingRow) →
    outgoing_row history p ≡ Some row → StandAs history t row ledger incomings →
    row_answer ledger incomings k t row ≡ step_answer history p row k t

-- no step was taken of the payment that is made next
abbrev pub IsNextUnstepped : List Entry → Type 0
IsNextUnstepped history = step_number history (1 + length (payments_made history)) ≡ 0

-- The entries that make payments, that of a step, and that of a cancelling, change the payments of a history as the calls
-- change those that they are given.
pub record RowsAreDefined : Type 0 where
  pub made :
      (history : List Entry) (t q grant : ℕ) (metadata : Option (List ℕ)) (quote : QuoteRow) →
      quote_row history q ≡ Some quote → IsNextUnstepped history →
      outgoings (history ++ record { at = t; act = OutgoingMade grant q metadata } ∷ []) ≡ outgoings history ++ fresh_row (made_from_quote t grant q metadata quote) ∷ []
  pub direct :
      (history : List Entry) (t grant address incoming : ℕ) (metadata : Option (List ℕ)) (price : Priced) → IsNextUnstepped history →
      outgoings (history ++ record { at = t; act = direct_act grant address incoming price metadata } ∷ [])
      ≡ outgoings history ++ fresh_row (made_directly t grant metadata (terms_at history address incoming price)) ∷ []
  pub stepped :
      (history : List Entry) (p k t : ℕ) (row : OutgoingRow) (answer : StepAnswer) (act : Act) →
      outgoing_row history p ≡ Some row → IsAnswered row k answer → step_act p k answer ≡ Some act →
      outgoings (history ++ record { at = t; act = act } ∷ []) ≡ with_item (stepped_row answer) (outgoings history) p
  pub cancelled :
      (history : List Entry) (p k t : ℕ) →
      outgoings (history ++ record { at = t; act = OutgoingFailed p k Cancelled } ∷ []) ≡ with_item (ended_as Cancelled) (outgoings history) p

-- The answers are those of the definitions, and so are what they make of payments, what is held and the work of a round:
-- first the expiries, and then steps in the room that these leave.
pub record PaymentsAreDefined : Type 0 where
  pub answers : AnswersAreDefined
  pub rows : RowsAreDefined
  pub held : (history : List Entry) (account : Account) → left_of (outgoings history) account ≡ held history account
  pub tasks :
      (history : List Entry) (t cursor : ℕ) →
      (due history t cursor).tasks ≡ map Expire (first_expiries history t) ++ due_steps (outgoings history) cursor (room_left history t)
  pub cursor : (history : List Entry) (t cursor : ℕ) → (due history t cursor).cursor ≡ next_cursor (outgoings history) cursor (room_left history t)
