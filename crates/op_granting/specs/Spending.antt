-- What was spent under grants is what the wallet's definitions say, which speak of a history.
use Rattle.std.specs.Prelude.{ℕ, ◌≡◌, ◌-◌, ◌≤◌, true, false, ◌==◌, if◌then◌else◌, List, Some, None}
use Rattle.std.specs.Option.{option_map, option_map_or}
use Rattle.std.specs.declared.option.Option.{Option}
use Rattle.op_model.specs.Grants.{grants, items_of, interval_at, lies_within, spent}
use Rattle.op_model.specs.Legal.{IsLegal, IsNext}
use Rattle.op_model.specs.Payments.{quote_row, outgoing_row, left_to_post}
use Rattle.op_model.specs.declared.act.Act.{Act}
use Rattle.op_model.specs.declared.act.Act.TheVariants.{OutgoingMade, OutgoingDirect, OutgoingFailed}
use Rattle.op_model.specs.declared.act.Entry.{Entry}
use Rattle.op_model.specs.declared.act.FailReason.{FailReason}
use Rattle.op_model.specs.declared.grant.Cap.{Cap}
use Rattle.op_model.specs.declared.grant.Item.{Item}
use Rattle.op_model.specs.declared.row.OutgoingRow.{OutgoingRow}
use Rattle.op_grant.specs.Limits.{covers_spending}
use Rattle.op_grant.specs.Value.{GrantsValue, has_row, cap_in, counted_under, spent_in, spent_more, spent_less}
use Rattle.op_granting.specs.Kinds.{is_on_spending}
use Rattle.op_granting.specs.Models.{behind}
use Rattle.op_granting.specs.declared.next.PaidUnder.{PaidUnder}

-- what was spent is counted as a history has it
abbrev pub SpendsAs : GrantsValue → List Entry → Type 0
SpendsAs value history = (g j : ℕ) → spent_in value g j ≡ spent history g j

-- ---- a payment that is made

abbrev pub under : (grant debit receive : ℕ) → PaidUnder
under grant debit receive = record { grant = grant; debit = debit; receive = receive }

-- what an act pays, if it makes a payment
abbrev pub paid_by : List Entry → Act → Option PaidUnder
paid_by history (OutgoingMade grant quote metadata) = option_map (λ row. under grant row.terms.debit row.terms.receive) (quote_row history quote)
paid_by history (OutgoingDirect grant address incoming debit source fee receive num den metadata) = Some (under grant debit receive)
paid_by history _ = None

-- what it counts under the cap of its grant
abbrev pub counted_in : GrantsValue → PaidUnder → ℕ
counted_in value paid = counted_under paid.debit paid.receive (cap_in value paid.grant)

-- ---- a payment that fails

-- what it gives back: what it counted and did not use; nothing where there is no cap
abbrev pub given_back : Option Cap → OutgoingRow → ℕ
given_back None row = 0
given_back (Some cap) row = if cap.debit then left_to_post row else row.terms.receive - row.delivered

-- what was spent behind a payment that fails, where its moment lay in interval j
pub record IsGivenBack (value : GrantsValue) (after : List Entry) (g j v : ℕ) : Type 0 where
  pub covered : v ≤ spent_in value g j
  pub spends : SpendsAs (spent_less value g j v) after

-- ---- all acts

pub record SpendingFollows : Type 0 where
  -- a moment lies in the interval that is looked up, and in no other
  pub interval : (items : List Item) (t j : ℕ) → lies_within items t j ≡ option_map_or (λ k. k == j) (interval_at items t) false
  pub other :
      (history : List Entry) (t : ℕ) (act : Act) (g j : ℕ) → IsLegal history → IsNext history (record { at = t; act = act }) →
      is_on_spending act ≡ false → spent (behind history t act) g j ≡ spent history g j
  pub made :
      (value : GrantsValue) (history : List Entry) (t j : ℕ) (act : Act) (paid : PaidUnder) →
      IsLegal history → value.rows ≡ grants history → SpendsAs value history → paid_by history act ≡ Some paid →
      interval_at (items_of history paid.grant) t ≡ Some j →
      SpendsAs (spent_more value paid.grant j (counted_in value paid)) (behind history t act)
  pub failed :
      (value : GrantsValue) (history : List Entry) (t payment step j : ℕ) (reason : FailReason) (row : OutgoingRow) →
      IsLegal history → IsNext history (record { at = t; act = OutgoingFailed payment step reason }) →
      value.rows ≡ grants history → SpendsAs value history → outgoing_row history payment ≡ Some row →
      interval_at (items_of history row.grant) row.made ≡ Some j →
      IsGivenBack value (behind history t (OutgoingFailed payment step reason)) row.grant j (given_back (cap_in value row.grant) row)

-- the interval in which a payment may spend, where the cap covers it
pub record HasCover (value : GrantsValue) (history : List Entry) (t : ℕ) (paid : PaidUnder) : Type 0 where
  pub there : has_row value paid.grant ≡ true
  pub interval : ℕ
  pub lies : interval_at (items_of history paid.grant) t ≡ Some interval
  pub covers : covers_spending value paid.grant interval (counted_in value paid) ≡ true

-- a payment that may be made spends in an interval, and its grant's cap covers it
abbrev pub SpendingFits : Type 0
SpendingFits =
    (value : GrantsValue) (history : List Entry) (t : ℕ) (act : Act) (paid : PaidUnder) →
    value.rows ≡ grants history → SpendsAs value history → paid_by history act ≡ Some paid →
    IsNext history (record { at = t; act = act }) → HasCover value history t paid

-- each payment of a legal history was made in an interval of its grant
abbrev pub PaymentsLie : Type 0
PaymentsLie =
    (history : List Entry) (payment : ℕ) (row : OutgoingRow) → IsLegal history → outgoing_row history payment ≡ Some row →
    (j : ℕ) × (interval_at (items_of history row.grant) row.made ≡ Some j)
