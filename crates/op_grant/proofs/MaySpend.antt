-- Whether a payment may spend.
use Rattle.std.proofs.Common.{◌≡◌, ℕ, ◌-◌, Bool, true, false, cond, List, [], ◌∷◌, refl, sym, ap, ◌∙◌, Ok, Err}
use Rattle.std.specs.Prelude.{Some, None, not, if◌then◌else◌, unwrap_or}
use Rattle.std.specs.Option.{option_map_or, option_and_then}
use Rattle.std.specs.Map.{lookup, set_value}
use Rattle.std.specs.BTreeMap.{is_at}
use Rattle.std.specs.declared.option.Option.{Option}
use Rattle.std.specs.declared.result.Result.{Result}
use Rattle.op_model.specs.History.{nth}
use Rattle.op_model.specs.Grants.{cap_of, interval_at}
use Rattle.op_model.specs.declared.grant.Cap.{Cap}
use Rattle.op_model.specs.declared.grant.Item.{Item}
use Rattle.op_model.specs.declared.row.GrantRow.{GrantRow}
use Rattle.op_grant.specs.Value.{GrantsValue, by_grant, cap_in, spent_in, spent_less}
use Rattle.op_grant.specs.Limits.{counted_value, is_other_receiver, is_other_asset, passes_cap, is_over, within_cap, may_pay_answer, covers_spending}
use Rattle.op_grant.specs.declared.fault.GrantFault.{GrantFault}
use Rattle.op_grant.specs.declared.fault.GrantFault.TheVariants as faults
use Rattle.op_grant.specs.declared.limits.Spending.{Spending}
use Rattle.op_grant.proofs.Changes.{grants_of}

abbrev Answer : Type 0
Answer = Result ℕ GrantFault

-- what is left to look at, where receiver and asset are those of the limits
pub left_is : (value : GrantsValue) (n t : ℕ) (asked : Spending) (row : GrantRow) (items : List Item) (cap : Option Cap) (o : Option ℕ)
    → items ≡ row.items → false ≡ is_other_receiver items asked.receiver → cap ≡ cap_of items → false ≡ option_map_or (is_other_asset asked) cap false → o ≡ interval_at items t
    → option_map_or (within_cap value n asked items) o (Err faults.OutsideInterval) ≡ may_pay_answer value n t asked row
left_is value n t asked row items cap o same other is asset at =
    let interval : Option ℕ → Answer = λ p. option_map_or (within_cap value n asked items) p (Err faults.OutsideInterval) in
    let by_asset : Bool → Answer = λ b. if b then Err faults.LimitAsset else interval (interval_at items t) in
    let by_receiver : Bool → Answer = λ b. if b then Err faults.LimitReceiver else by_asset (option_map_or (is_other_asset asked) (cap_of items) false) in
    let asset_of = asset ∙ ap (λ c. option_map_or (is_other_asset asked) c false) is in
    ap interval at ∙ ap by_asset asset_of ∙ ap by_receiver other ∙ ap (λ xs. may_pay_answer value n t asked (record row { items = xs })) same

-- another asset, where the receiver is that of the limits
pub other_asset_is : (value : GrantsValue) (n t : ℕ) (asked : Spending) (row : GrantRow) (items : List Item) (cap : Option Cap)
    → items ≡ row.items → false ≡ is_other_receiver items asked.receiver → cap ≡ cap_of items → true ≡ option_map_or (is_other_asset asked) cap false
    → Err faults.LimitAsset ≡ may_pay_answer value n t asked row
other_asset_is value n t asked row items cap same other is asset =
    let rest : Answer = option_map_or (within_cap value n asked items) (interval_at items t) (Err faults.OutsideInterval) in
    let by_asset : Bool → Answer = λ b. if b then Err faults.LimitAsset else rest in
    let by_receiver : Bool → Answer = λ b. if b then Err faults.LimitReceiver else by_asset (option_map_or (is_other_asset asked) (cap_of items) false) in
    let asset_of = asset ∙ ap (λ c. option_map_or (is_other_asset asked) c false) is in
    ap by_asset asset_of ∙ ap by_receiver other ∙ ap (λ xs. may_pay_answer value n t asked (record row { items = xs })) same

-- the last rule
pub within_is : (value : GrantsValue) (n j spent : ℕ) (asked : Spending) (items : List Item) (cap : Option Cap) (b : Bool)
    → spent ≡ spent_in value n j → cap ≡ cap_of items → b ≡ option_map_or (λ c. is_over spent asked c) cap false
    → (if b then Err (faults.OverLimit spent) else Ok j) ≡ within_cap value n asked items j
within_is value n j spent asked items cap b is caps passes =
    let by_cap : Bool → Answer = λ c. if c then Err (faults.OverLimit spent) else Ok j in
    ap by_cap (passes ∙ ap (λ c. option_map_or (λ k. is_over spent asked k) c false) caps)
    ∙ ap (λ s. if option_map_or (λ k. is_over s asked k) (cap_of items) false then Err (faults.OverLimit s) else Ok j) is

-- ---- giving back

abbrev pub Counters : Type 0
Counters = List ((ℕ × ℕ) × ℕ)

pub given_back_is : (value : GrantsValue) (rows : List GrantRow) (counters after : Counters) (n j v s : ℕ) → grants_of rows counters ≡ value
    → Some s ≡ lookup (is_at (by_grant (n, j))) counters → after ≡ set_value (is_at (by_grant (n, j))) counters (s - v) → grants_of rows after ≡ spent_less value n j v
given_back_is value rows counters after n j v s view found is =
    ap (grants_of rows) (is ∙ ap (λ o. set_value (is_at (by_grant (n, j))) counters (unwrap_or o 0 - v)) found) ∙ ap (λ w. spent_less w n j v) view

unset_step : (b : Bool) (e : (ℕ × ℕ) × ℕ) (o : Option ℕ) (ys zs es : Counters) → cond b (Some e.1) o ≡ None → (o ≡ None → zs ≡ es) → cond b ys (e ∷ zs) ≡ e ∷ es
unset_step true e o ys zs es h k = absurd (let f : Some e.1 ≡ None = h in cc)
unset_step false e o ys zs es h k = ap (λ xs. e ∷ xs) (k h)

pub set_value_none : (test : ℕ × ℕ → Bool) (es : Counters) (w : ℕ) → lookup test es ≡ None → set_value test es w ≡ es
set_value_none test [] w h = refl
set_value_none test (e ∷ es) w h =
    unset_step (test e.0) e (lookup test es) ((e.0, w) ∷ es) (set_value test es w) es h (set_value_none test es w)

pub nothing_given_back : (value : GrantsValue) (rows : List GrantRow) (counters after : Counters) (n j v : ℕ) → grants_of rows counters ≡ value
    → None ≡ lookup (is_at (by_grant (n, j))) counters → after ≡ counters → grants_of rows after ≡ spent_less value n j v
nothing_given_back value rows counters after n j v view found is =
    ap (grants_of rows) (is ∙ sym (set_value_none (is_at (by_grant (n, j))) counters (spent_in (grants_of rows counters) n j - v) (sym found))) ∙ ap (λ w. spent_less w n j v) view

-- ---- what may be spent is covered

taken_step : (b : Bool) (fault : GrantFault) (rest : Answer) (j : ℕ) → (if b then Err fault else rest) ≡ Ok j → rest ≡ Ok j
taken_step true fault rest j h = absurd (let e : Err fault ≡ Ok j = h in cc)
taken_step false fault rest j h = h

within_step : (b : Bool) (spent k j : ℕ) → (if b then Err (faults.OverLimit spent) else Ok k) ≡ Ok j → (b ≡ false) × (k ≡ j)
within_step true spent k j h = absurd (let e : Err (faults.OverLimit spent) ≡ Ok j = h in cc)
within_step false spent k j h = (refl, let e : Ok k ≡ Ok j = h in cc)

inside_step : (value : GrantsValue) (n j : ℕ) (asked : Spending) (items : List Item) (cap : Cap) (o : Option ℕ) → cap_of items ≡ Some cap
    → option_map_or (within_cap value n asked items) o (Err faults.OutsideInterval) ≡ Ok j → is_over (spent_in value n j) asked cap ≡ false
inside_step value n j asked items cap None is h = absurd (let e : Err faults.OutsideInterval ≡ Ok j = h in cc)
inside_step value n j asked items cap (Some k) is h =
    let parts = within_step (option_map_or (λ c. is_over (spent_in value n k) asked c) (cap_of items) false) (spent_in value n k) k j h in
    ap (λ i. is_over (spent_in value n i) asked cap) (sym parts.1)
    ∙ ap (λ o. option_map_or (λ c. is_over (spent_in value n k) asked c) o false) (sym is) ∙ parts.0

covered_step : (value : GrantsValue) (n j v : ℕ) (cap : Cap) (o : Option Cap) → o ≡ Some cap → passes_cap (spent_in value n j) v cap ≡ false → option_map_or (λ c. not (passes_cap (spent_in value n j) v c)) o true ≡ true
covered_step value n j v cap o is h = ap (λ p. option_map_or (λ c. not (passes_cap (spent_in value n j) v c)) p true) is ∙ ap not h

-- where a payment may spend, the cap covers what it counts
pub may_be_spent : (value : GrantsValue) (n t j v : ℕ) (asked : Spending) (row : GrantRow) (cap : Cap) → nth value.rows n ≡ Some row → cap_of row.items ≡ Some cap
    → may_pay_answer value n t asked row ≡ Ok j → counted_value asked cap ≡ Some v → covers_spending value n j v ≡ true
may_be_spent value n t j v asked row cap there is may counts =
    let rest = taken_step (is_other_receiver row.items asked.receiver) faults.LimitReceiver _ j may in
    let last = taken_step (option_map_or (is_other_asset asked) (cap_of row.items) false) faults.LimitAsset _ j rest in
    covered_step value n j v cap (cap_in value n) (ap (option_and_then (λ r. cap_of r.items)) there ∙ is)
    (sym (ap (λ o. option_map_or (λ w. passes_cap (spent_in value n j) w cap) o false) counts) ∙ inside_step value n j asked row.items cap (interval_at row.items t) is last)
