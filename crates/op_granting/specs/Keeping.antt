-- Grants of a history, and what they are behind one more entry.
use Rattle.std.specs.Prelude.{ℕ, ◌≡◌, List, Some, IsSome, IfSome}
use Rattle.op_model.specs.Grants.{grants}
use Rattle.op_model.specs.Legal.{IsLegal, IsNext}
use Rattle.op_model.specs.Payments.{outgoing_row}
use Rattle.op_model.specs.declared.act.Act.{Act}
use Rattle.op_model.specs.declared.act.Act.TheVariants.{OutgoingFailed}
use Rattle.op_model.specs.declared.act.Entry.{Entry}
use Rattle.op_model.specs.declared.act.FailReason.{FailReason}
use Rattle.op_model.specs.declared.row.OutgoingRow.{OutgoingRow}
use Rattle.op_grant.specs.Value.{GrantsValue, interval_in, counter_of}
use Rattle.op_granting.specs.Drawn.{WordsAreDrawn}
use Rattle.op_granting.specs.Models.{behind, next_place}
use Rattle.op_granting.specs.Spending.{SpendsAs, paid_by}
use Rattle.op_granting.specs.declared.next.NextEntry.{NextEntry}
use Rattle.op_granting.specs.declared.next.PaidUnder.{PaidUnder}

-- The value has the grants of a history and what was spent under them, and each word that was drawn is sixteen bytes.
pub record IsGrantsOf (history : List Entry) (value : GrantsValue) : Type 0 where
  pub rows : value.rows ≡ grants history
  pub spends : SpendsAs value history
  pub words : WordsAreDrawn history

-- the history, whose grants the value has, may go on by an act at the next entry's place
pub record IsEntryOf (history : List Entry) (value : GrantsValue) (next : NextEntry) (act : Act) : Type 0 where
  pub legal : IsLegal history
  pub are : IsGrantsOf history value
  pub follows : IsNext history (record { at = next.at; act = act })
  pub place : next.place ≡ next_place history

-- ---- an act on a grant

-- some history, whose grants these are, may go on so
abbrev pub MayTake : GrantsValue → NextEntry → Act → Type 0
MayTake value next act = (history : List Entry) × IsEntryOf history value next act

-- each such history has the new grants behind the act
abbrev pub Takes : (old new : GrantsValue) → NextEntry → Act → Type 0
Takes old new next act = (history : List Entry) → IsEntryOf history old next act → IsGrantsOf (behind history next.at act) new

-- ---- a payment that is made

-- some act that pays so may follow
pub record MayPay (value : GrantsValue) (next : NextEntry) (paid : PaidUnder) : Type 0 where
  pub history : List Entry
  pub act : Act
  pub entry : IsEntryOf history value next act
  pub pays : paid_by history act ≡ Some paid

abbrev pub Pays : (old new : GrantsValue) → NextEntry → PaidUnder → Type 0
Pays old new next paid =
    (history : List Entry) (act : Act) → IsEntryOf history old next act → paid_by history act ≡ Some paid
    → IsGrantsOf (behind history next.at act) new

-- what is counted in the interval of a moment has its place
abbrev pub HasRoom : GrantsValue → (n t : ℕ) → Type 0
HasRoom value n t = IfSome (interval_in value n t) (λ j. IsSome (counter_of value n j))

-- ---- a payment that fails

-- the payment of this row may fail
pub record MayFail (value : GrantsValue) (next : NextEntry) (row : OutgoingRow) : Type 0 where
  pub history : List Entry
  pub payment : ℕ
  pub step : ℕ
  pub reason : FailReason
  pub entry : IsEntryOf history value next (OutgoingFailed payment step reason)
  pub there : outgoing_row history payment ≡ Some row

abbrev pub Fails : (old new : GrantsValue) → NextEntry → OutgoingRow → Type 0
Fails old new next row =
    (history : List Entry) (payment step : ℕ) (reason : FailReason) → IsEntryOf history old next (OutgoingFailed payment step reason)
    → outgoing_row history payment ≡ Some row → IsGrantsOf (behind history next.at (OutgoingFailed payment step reason)) new
