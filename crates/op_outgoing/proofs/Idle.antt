-- An answer that changes nothing.
use Rattle.std.proofs.Common.{◌≡◌, refl, true, false, List, IsTrue}
use Rattle.op_incoming.specs.declared.incoming.Incoming.{Incoming}
use Rattle.op_ledger.specs.Balances.{LedgerValue}
use Rattle.op_model.specs.declared.reply.StepAnswer.{StepAnswer}
use Rattle.op_model.specs.declared.reply.StepAnswer.TheVariants as answers
use Rattle.op_model.specs.declared.row.OutgoingRow.{OutgoingRow}
use Rattle.op_outgoing.specs.Steps.{stepped_row, stepped_ledger, stepped_incomings, is_idle}

pub record ChangesNothing (answer : StepAnswer) (row : OutgoingRow) (ledger : LedgerValue) (incomings : List Incoming) : Type 0 where
  pub row_stays : stepped_row answer row ≡ row
  pub ledger_stays : stepped_ledger ledger answer row ≡ ledger
  pub incomings_stay : stepped_incomings incomings answer row ≡ incomings

pub idle_changes_nothing : (answer : StepAnswer) (row : OutgoingRow) (ledger : LedgerValue) (incomings : List Incoming) → IsTrue (is_idle answer) → ChangesNothing answer row ledger incomings
idle_changes_nothing (answers.Stale now) row ledger incomings idle = record { row_stays = refl; ledger_stays = refl; incomings_stay = refl }
idle_changes_nothing answers.Ended row ledger incomings idle = record { row_stays = refl; ledger_stays = refl; incomings_stay = refl }
idle_changes_nothing (answers.Waiting shortage) row ledger incomings idle = record { row_stays = refl; ledger_stays = refl; incomings_stay = refl }
idle_changes_nothing answers.Funded row ledger incomings idle = absurd (let no : false ≡ true = idle in cc)
idle_changes_nothing answers.Sent row ledger incomings idle = absurd (let no : false ≡ true = idle in cc)
idle_changes_nothing answers.Completed row ledger incomings idle = absurd (let no : false ≡ true = idle in cc)
idle_changes_nothing (answers.Failed reason) row ledger incomings idle = absurd (let no : false ≡ true = idle in cc)
