-- The limits of spending under a grant (Open Payments, limits of outgoing payments).
use Rattle.std.specs.Prelude.{ℕ, ◌+◌, Bool, true, false, not, nat_lt, if◌then◌else◌, List, Some, Ok, Err}
use Rattle.std.specs.List.{list_all}
use Rattle.std.specs.Option.{option_map, option_map_or, option_and_then, is_some}
use Rattle.std.specs.declared.option.Option.{Option}
use Rattle.std.specs.declared.result.Result.{Result}
use Rattle.op_time.specs.Texts.{interval_of}
use Rattle.op_model.specs.Grants.{cap_of, limits_of, interval_at}
use Rattle.op_model.specs.Access.{differ}
use Rattle.op_model.specs.declared.grant.Cap.{Cap}
use Rattle.op_model.specs.declared.grant.Item.{Item}
use Rattle.op_model.specs.declared.grant.Sum.{Sum}
use Rattle.op_model.specs.declared.row.GrantRow.{GrantRow}
use Rattle.op_grant.specs.Value.{GrantsValue, spent_in, cap_in}
use Rattle.op_grant.specs.declared.fault.GrantFault.{GrantFault}
use Rattle.op_grant.specs.declared.fault.GrantFault.TheVariants as faults
use Rattle.op_grant.specs.declared.limits.Spending.{Spending}

-- The asset that a cap looks at, and the value that it counts, where they are there: a debit cap counts what is debited,
-- and a receive cap what is received.
abbrev pub counted_asset : Spending → Cap → Option ℕ
counted_asset asked cap = if cap.debit then option_map (λ sum. sum.asset) asked.debit else Some asked.receive_asset

abbrev pub counted_value : Spending → Cap → Option ℕ
counted_value asked cap = if cap.debit then option_map (λ sum. sum.value) asked.debit else asked.receive

abbrev pub is_other_receiver : List Item → ℕ → Bool
is_other_receiver items receiver = differ (option_and_then (λ limits. limits.receiver) (limits_of items)) (Some receiver)

abbrev pub is_other_asset : Spending → Cap → Bool
is_other_asset asked cap = differ (Some cap.sum.asset) (counted_asset asked cap)

-- so much more would pass the cap; what is not there passes none
abbrev pub passes_cap : (spent v : ℕ) → Cap → Bool
passes_cap spent v cap = nat_lt cap.sum.value (spent + v)

abbrev pub is_over : (spent : ℕ) → Spending → Cap → Bool
is_over spent asked cap = option_map_or (λ v. passes_cap spent v cap) (counted_value asked cap) false

abbrev pub within_cap : GrantsValue → ℕ → Spending → List Item → ℕ → Result ℕ GrantFault
within_cap value n asked items j =
    if option_map_or (is_over (spent_in value n j) asked) (cap_of items) false then Err (faults.OverLimit (spent_in value n j)) else Ok j

-- the interval in which a payment may spend, or the first limit that it breaks: the receiver, the asset, the interval,
-- the cap
abbrev pub may_pay_answer : GrantsValue → (n t : ℕ) → Spending → GrantRow → Result ℕ GrantFault
may_pay_answer value n t asked row =
    if is_other_receiver row.items asked.receiver then Err faults.LimitReceiver
    else (if option_map_or (is_other_asset asked) (cap_of row.items) false then Err faults.LimitAsset
    else option_map_or (within_cap value n asked row.items) (interval_at row.items t) (Err faults.OutsideInterval))

-- a payment of which all is there
abbrev pub whole_spending : (receiver : ℕ) → (debit receive : Sum) → Spending
whole_spending receiver debit receive =
    record { receiver = receiver; debit = Some debit; receive_asset = receive.asset; receive = Some receive.value }

abbrev pub may_spend_answer : GrantsValue → (n t receiver : ℕ) → (debit receive : Sum) → GrantRow → Result ℕ GrantFault
may_spend_answer value n t receiver debit receive row = may_pay_answer value n t (whole_spending receiver debit receive) row

-- the cap of grant n, if it has one, covers v more in interval j
abbrev pub covers_spending : GrantsValue → (n j v : ℕ) → Bool
covers_spending value n j v = option_map_or (λ cap. not (passes_cap (spent_in value n j) v cap)) (cap_in value n) true

-- ---- what may be asked for

-- a text that is read as an interval
abbrev pub is_readable : List ℕ → Bool
is_readable text = is_some (interval_of text)

abbrev pub has_readable_limits : Item → Bool
has_readable_limits item = option_map_or (λ limits. option_map_or is_readable limits.interval true) item.limits true

-- each interval in the limits can be read
abbrev pub are_readable : List Item → Bool
are_readable items = list_all has_readable_limits items
