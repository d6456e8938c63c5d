-- A step of a payment that acts, on a ledger that stands as a history says.
use Rattle.std.specs.Prelude.{ℕ, ◌≡◌, ◌≤◌, List, IsTrue, Some}
use Rattle.op_incoming.specs.declared.incoming.Incoming.{Incoming}
use Rattle.op_ledger.specs.Balances.{LedgerValue, held_in}
use Rattle.op_model.specs.Payments.{outgoing_row}
use Rattle.op_model.specs.Steps.{step_act}
use Rattle.op_model.specs.declared.act.Account.TheVariants.{Wallet}
use Rattle.op_model.specs.declared.act.Act.{Act}
use Rattle.op_model.specs.declared.act.Entry.{Entry}
use Rattle.op_model.specs.declared.reply.StepAnswer.{StepAnswer}
use Rattle.op_model.specs.declared.row.OutgoingRow.{OutgoingRow}
use Rattle.op_outgoing.specs.Answers.{row_answer}
use Rattle.op_outgoing.specs.Held.{are_accounts_there}
use Rattle.op_outgoing.specs.Sound.{IsSoundRow}
use Rattle.op_outgoing.specs.Steps.{to_hold}
use Rattle.op_paying.specs.Ledgers.{StandsAs}

-- step k of payment p at t, with what a step asks for and answers
pub record IsStep (history : List Entry) (v : LedgerValue) (incomings : List Incoming) (p k t : ℕ) (row : OutgoingRow) (reply : StepAnswer) (act : Act) : Type 0 where
  pub stands : StandsAs history v
  pub there : outgoing_row history p ≡ Some row
  pub sound : IsSoundRow row
  pub accounts : IsTrue (are_accounts_there v row)
  pub covered : to_hold row ≤ held_in v (Wallet row.terms.payer)
  pub answer : reply ≡ row_answer v incomings k t row
  pub made : step_act p k reply ≡ Some act
