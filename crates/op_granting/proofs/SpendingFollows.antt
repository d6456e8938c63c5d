-- What was spent behind each act, and that a payment that may be made is covered.
use Rattle.std.proofs.Common.{◌≡◌, ℕ, ◌+◌, ◌≤◌, true, false, cond, List, [], refl, ◌∙◌, sym, ap, subst, arith, Some, None, Option}
use Rattle.std.proofs.lemmas.Bool.Decides.{nat_tests}
use Rattle.std.specs.Prelude.{is_some, not, nat_lt, MatchOption}
use Rattle.std.specs.Option.{option_map_or}
use Rattle.op_model.specs.Access.{spent_at}
use Rattle.op_model.specs.Grants.{grants, items_of, cap_of, interval_at, spent}
use Rattle.op_model.specs.History.{nth}
use Rattle.op_model.specs.declared.act.Entry.{Entry}
use Rattle.op_model.specs.declared.grant.Cap.{Cap}
use Rattle.op_model.specs.declared.grant.Item.{Item}
use Rattle.op_model.specs.declared.row.GrantRow.{GrantRow}
use Rattle.op_grant.specs.Limits.{passes_cap}
use Rattle.op_grant.specs.Value.{GrantsValue, cap_in, counted_under, spent_in}
use Rattle.op_granting.specs.declared.next.PaidUnder.{PaidUnder}
use Rattle.op_granting.specs.Spending.{SpendsAs, HasCover, SpendingFollows, SpendingFits}
use Rattle.op_granting.proofs.Counting.{cap_is, made}
use Rattle.op_granting.proofs.Failing.{failed}
use Rattle.op_granting.proofs.Intervals.{lies_within_is}
use Rattle.op_granting.proofs.Paying.{IsPaid, is_paid_by}
use Rattle.op_granting.proofs.Standing.{other}

pub follows : SpendingFollows
follows = record { interval = lies_within_is; other = other; made = made; failed = failed }

some_of : (o : Option ℕ) → is_some o ≡ true → (j : ℕ) × (o ≡ Some j)
some_of None h = absurd (let e : false ≡ true = h in cc)
some_of (Some j) h = (j, refl)

not_passed : (spent v top : ℕ) → spent + v ≤ top → not (nat_lt top (spent + v)) ≡ true
not_passed spent v top h = let e : nat_lt top (spent + v) ≡ false = grind (arith, nat_tests) in ap not e

covers_by : (cap : Option Cap) (debit receive before counted : ℕ) → counted ≡ before → MatchOption cap (Unit {0}) (λ c. before + cond c.debit debit receive ≤ c.sum.value)
    → option_map_or (λ (c : Cap). not (passes_cap counted (counted_under debit receive cap) c)) cap true ≡ true
covers_by None debit receive before counted same h = refl
covers_by (Some c) debit receive before counted same h =
    not_passed counted (cond c.debit debit receive) c.sum.value (omega (arith, same, h))

covered : (value : GrantsValue) (history : List Entry) (t : ℕ) (paid : PaidUnder) → value.rows ≡ grants history → SpendsAs value history → IsPaid history t paid → HasCover value history t paid
covered value history t paid rows spends is =
    let g = paid.grant in
    let row = is.pays.granted in
    let items : items_of history g ≡ row.items = ap (λ (o : Option GrantRow). option_map_or (λ r. r.items) o []) is.pays.grant_is in
    let at = some_of (interval_at (items_of history g) t) is.lies in
    let here : spent_at history g row.items t ≡ spent history g at.0 = ap (λ (o : Option ℕ). option_map_or (spent history g) o 0) (ap (λ (i : List Item). interval_at i t) (sym items) ∙ at.1) in
    let cap : cap_of row.items ≡ cap_in value g = ap cap_of (sym items) ∙ sym (cap_is value history g rows) in
    let capped : MatchOption (cap_in value g) (Unit {0}) (λ c. spent history g at.0 + cond c.debit paid.debit paid.receive ≤ c.sum.value) =
    subst (λ (o : Option Cap). MatchOption o (Unit {0}) (λ c. spent history g at.0 + cond c.debit paid.debit paid.receive ≤ c.sum.value)) cap
    (subst (λ n. MatchOption (cap_of row.items) (Unit {0}) (λ c. n + cond c.debit paid.debit paid.receive ≤ c.sum.value)) here is.pays.capped) in
    record {
      there = ap is_some (ap (λ (l : List GrantRow). nth l g) rows ∙ is.pays.grant_is);
      interval = at.0;
      lies = at.1;
      covers = covers_by (cap_in value g) paid.debit paid.receive (spent history g at.0) (spent_in value g at.0) (spends g at.0) capped;
    }

pub fits : SpendingFits
fits value history t act paid rows spends is next = covered value history t paid rows spends (is_paid_by history t act paid is next)
