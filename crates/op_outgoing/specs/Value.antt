-- Quotes and outgoing payments by number.
use Rattle.std.specs.Prelude.{ℕ, Bool, false, ◌==◌, List, [], ◌∷◌, ◌++◌, Some}
use Rattle.std.specs.List.{list_any}
use Rattle.std.specs.Option.{option_map_or, is_some}
use Rattle.std.specs.declared.option.Option.{Option}
use Rattle.op_incoming.specs.declared.incoming.Incoming.{Incoming}
use Rattle.op_ledger.specs.Balances.{LedgerValue}
use Rattle.op_model.specs.History.{nth, with_item}
use Rattle.op_model.specs.Payments.{PaymentMade, made_from_quote, made_directly}
use Rattle.op_model.specs.declared.reply.StepAnswer.{StepAnswer}
use Rattle.op_model.specs.declared.reply.StepAnswer.TheVariants as answers
use Rattle.op_model.specs.declared.row.OutgoingRow.{OutgoingRow}
use Rattle.op_model.specs.declared.row.PaymentState.TheVariants as states
use Rattle.op_model.specs.declared.row.QuoteRow.{QuoteRow}
use Rattle.op_model.specs.declared.row.Terms.{Terms}
use Rattle.op_outgoing.specs.Answers.{row_answer}
use Rattle.op_outgoing.specs.Steps.{stepped_ledger, stepped_incomings, voided}
use Rattle.op_outgoing.specs.declared.outgoings.OutgoingFault.{OutgoingFault}
use Rattle.op_outgoing.specs.declared.outgoings.OutgoingFault.TheVariants as faults

pub record OutgoingsValue : Type 0 where
  pub quotes : List QuoteRow
  pub rows : List OutgoingRow

abbrev pub has_quote : OutgoingsValue → ℕ → Bool
has_quote value q = is_some (nth value.quotes q)

abbrev pub has_payment : OutgoingsValue → ℕ → Bool
has_payment value p = is_some (nth value.rows p)

-- a test of payment p
abbrev pub payment_is : (OutgoingRow → Bool) → OutgoingsValue → ℕ → Bool
payment_is test value p = option_map_or test (nth value.rows p) false

-- ---- quotes

-- a payment was made from quote q
abbrev pub is_from : ℕ → OutgoingRow → Bool
is_from q row = option_map_or (λ n. n == q) row.quote false

abbrev pub is_paid_in : List OutgoingRow → ℕ → Bool
is_paid_in rows q = list_any (is_from q) rows

-- when quote q expires
abbrev pub quote_expiry : OutgoingsValue → ℕ → ℕ
quote_expiry value q = option_map_or (λ row. row.expiry) (nth value.quotes q) 0

abbrev pub with_quote : OutgoingsValue → QuoteRow → OutgoingsValue
with_quote value row = record value { quotes = value.quotes ++ row ∷ [] }

-- ---- payments

-- a payment as it is made, before its first step
abbrev pub fresh_row : PaymentMade → OutgoingRow
fresh_row made =
    record {
      grant = made.grant;
      quote = made.quote;
      made = made.made;
      expiry = made.expiry;
      terms = made.terms;
      metadata = made.metadata;
      state = states.Funding;
      step = 0;
      sent = 0;
      fee = 0;
      delivered = 0;
      reason = 0;
    }

-- with one more payment
abbrev pub with_made : OutgoingsValue → PaymentMade → OutgoingsValue
with_made value made = record value { rows = value.rows ++ fresh_row made ∷ [] }

-- made from quote q
abbrev pub with_fresh : OutgoingsValue → (t q grant : ℕ) → Option (List ℕ) → OutgoingsValue
with_fresh value t q grant metadata =
    option_map_or (λ quote. with_made value (made_from_quote t grant q metadata quote)) (nth value.quotes q) value

-- made without a quote
abbrev pub with_direct : OutgoingsValue → (t : ℕ) → Terms → (grant : ℕ) → Option (List ℕ) → OutgoingsValue
with_direct value t terms grant metadata = with_made value (made_directly t grant metadata terms)

abbrev pub with_payment : (OutgoingRow → OutgoingRow) → OutgoingsValue → ℕ → OutgoingsValue
with_payment change value p = record value { rows = with_item change value.rows p }

-- why a payment is not made
abbrev pub IsMakingFault : OutgoingFault → Type 0
IsMakingFault faults.QuoteUsed = Unit {0}
IsMakingFault faults.QuoteExpired = Unit {0}
IsMakingFault faults.Memory = Unit {0}
IsMakingFault faults.AlreadyEnded = ⊥

-- ---- one step of payment p

abbrev pub answer_in : OutgoingsValue → LedgerValue → List Incoming → (p k t : ℕ) → StepAnswer
answer_in value ledger incomings p k t = option_map_or (row_answer ledger incomings k t) (nth value.rows p) answers.Ended

abbrev pub ledger_behind : OutgoingsValue → LedgerValue → ℕ → StepAnswer → LedgerValue
ledger_behind value ledger p answer = option_map_or (stepped_ledger ledger answer) (nth value.rows p) ledger

abbrev pub incomings_behind : OutgoingsValue → List Incoming → ℕ → StepAnswer → List Incoming
incomings_behind value incomings p answer = option_map_or (stepped_incomings incomings answer) (nth value.rows p) incomings

-- the ledger with nothing held any more for payment p
abbrev pub voided_in : OutgoingsValue → LedgerValue → ℕ → LedgerValue
voided_in value ledger p = option_map_or (voided ledger) (nth value.rows p) ledger
