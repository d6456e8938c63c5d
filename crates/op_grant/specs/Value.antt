-- Grants by number, and what was spent under each in each interval of its limits.
use Rattle.std.specs.Prelude.{ℕ, ◌+◌, ◌-◌, Bool, if◌then◌else◌, List, [], ◌∷◌, ◌++◌, unwrap_or}
use Rattle.std.specs.Option.{option_map_or, option_and_then, is_some}
use Rattle.std.specs.Ordering.{ordering_then, nat_cmp}
use Rattle.std.specs.declared.cmp.Ordering.{Ordering}
use Rattle.std.specs.Map.{lookup, set_value}
use Rattle.std.specs.BTreeMap.{insert_entry, is_at}
use Rattle.std.specs.declared.option.Option.{Option}
use Rattle.op_model.specs.History.{nth, with_item}
use Rattle.op_model.specs.Grants.{cap_of, interval_at}
use Rattle.op_model.specs.declared.grant.Cap.{Cap}
use Rattle.op_model.specs.declared.row.GrantRow.{GrantRow}

-- the grants, and what was spent under a grant in an interval, by grant and then by interval
pub record GrantsValue : Type 0 where
  pub rows : List GrantRow
  pub spent : List ((ℕ × ℕ) × ℕ)

abbrev pub no_grants : GrantsValue
no_grants = record { rows = []; spent = [] }

abbrev pub has_row : GrantsValue → ℕ → Bool
has_row value n = is_some (nth value.rows n)

-- with one more grant
abbrev pub with_grant : GrantsValue → GrantRow → GrantsValue
with_grant value row = record value { rows = value.rows ++ row ∷ [] }

-- with row n changed
abbrev pub with_row : (GrantRow → GrantRow) → GrantsValue → ℕ → GrantsValue
with_row change value n = record value { rows = with_item change value.rows n }

-- ---- what was spent

-- by grant, and then by interval
abbrev pub by_grant : ℕ × ℕ → ℕ × ℕ → Ordering
by_grant a b = ordering_then (nat_cmp a.0 b.0) (nat_cmp a.1 b.1)

-- what was spent under grant n in interval j, if anything was
abbrev pub counter_of : GrantsValue → (n j : ℕ) → Option ℕ
counter_of value n j = lookup (is_at (by_grant (n, j))) value.spent

abbrev pub spent_in : GrantsValue → (n j : ℕ) → ℕ
spent_in value n j = unwrap_or (counter_of value n j) 0

-- with so much spent under grant n in interval j
abbrev pub with_spent : GrantsValue → (n j v : ℕ) → GrantsValue
with_spent value n j v = record value { spent = insert_entry by_grant value.spent (n, j) v }

abbrev pub cap_in : GrantsValue → ℕ → Option Cap
cap_in value n = option_and_then (λ row. cap_of row.items) (nth value.rows n)

-- the interval of grant n in which a moment lies
abbrev pub interval_in : GrantsValue → (n t : ℕ) → Option ℕ
interval_in value n t = option_and_then (λ row. interval_at row.items t) (nth value.rows n)

-- what a payment counts under a cap: what is debited, or what is received
abbrev pub counted_under : (debit receive : ℕ) → Option Cap → ℕ
counted_under debit receive cap = option_map_or (λ c. if c.debit then debit else receive) cap 0

-- with v more spent under grant n in interval j; without a cap nothing is counted
abbrev pub spent_more : GrantsValue → (n j v : ℕ) → GrantsValue
spent_more value n j v = option_map_or (λ cap. with_spent value n j (spent_in value n j + v)) (cap_in value n) value

-- with a counter for grant n in interval j, which has what it had
abbrev pub with_counter : GrantsValue → (n j : ℕ) → GrantsValue
with_counter value n j = with_spent value n j (spent_in value n j)

-- with v of it given back
abbrev pub spent_less : GrantsValue → (n j v : ℕ) → GrantsValue
spent_less value n j v = record value { spent = set_value (is_at (by_grant (n, j))) value.spent (spent_in value n j - v) }
