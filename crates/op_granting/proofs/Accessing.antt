-- The refusal of an access is the model's.
use Rattle.std.proofs.Common.{◌≡◌, ℕ, ◌+◌, Bool, true, false, List, [], ◌∷◌, refl, ◌∙◌, sym, ap, subst, Some, None, Ok, Err, Option}
use Rattle.std.specs.Prelude.{◌==◌, nat_lt, is_none, if◌then◌else◌}
use Rattle.std.specs.List.{position_from}
use Rattle.std.specs.Option.{option_map, option_map_or, option_and_then}
use Rattle.std.specs.declared.result.Result.{Result}
use Rattle.op_access.specs.Rules.{AreFactsOf, decision, limit_broken, rule_of}
use Rattle.op_access.specs.declared.rules.Decision.{Decision}
use Rattle.op_access.specs.declared.rules.Decision.TheVariants.{Pass, Denied}
use Rattle.op_access.specs.declared.rules.SpendFault.{SpendFault}
use Rattle.op_grant.specs.Limits.{counted_asset, counted_value, is_other_receiver, is_other_asset, is_over, passes_cap, may_pay_answer}
use Rattle.op_grant.specs.Rows.{at_row}
use Rattle.op_grant.specs.Value.{GrantsValue, interval_in, spent_in}
use Rattle.op_grant.specs.declared.fault.GrantFault.{GrantFault}
use Rattle.op_grant.specs.declared.fault.GrantFault.TheVariants as faults
use Rattle.op_grant.specs.declared.limits.Spending.{Spending}
use Rattle.op_model.specs.Access.{Looked, PaymentLooked, differ, capped_asset, capped_value, spent_at, breaks_cap, failures, first_failure, denial}
use Rattle.op_model.specs.Grants.{grant_row, cap_of, interval_at, item_of, spent}
use Rattle.op_model.specs.History.{nth, address_asset}
use Rattle.op_model.specs.declared.act.Entry.{Entry}
use Rattle.op_model.specs.declared.grant.Cap.{Cap}
use Rattle.op_model.specs.declared.grant.Item.{Item}
use Rattle.op_model.specs.declared.grant.Sum.{Sum}
use Rattle.op_model.specs.declared.reply.Refusal.{Refusal}
use Rattle.op_model.specs.declared.reply.Refusal.TheVariants.{AccessDenied}
use Rattle.op_model.specs.declared.row.GrantRow.{GrantRow}
use Rattle.op_access.specs.declared.rules.AccessFacts.{AccessFacts}
use Rattle.op_granting.specs.Access.{limit_of, limit_broken_by, spent_before, spending_of, facts_of, AreLooksOf, IsRefusalOf}
use Rattle.op_granting.specs.Keeping.{IsGrantsOf}
use Rattle.op_granting.specs.declared.access.Looks.{Looks}

-- ---- what a cap looks at

asset_where : (history : List Entry) (payer : Option ℕ) (payee debit : ℕ) (b : Bool)
    → (if b then option_map (λ (sum : Sum). sum.asset) (option_map (λ p. record { asset = address_asset history p; value = debit }) payer) else Some (address_asset history payee)) ≡ option_map (address_asset history) (if b then payer else Some payee)
asset_where history None payee debit true = refl
asset_where history (Some p) payee debit true = refl
asset_where history payer payee debit false = refl

asset_is : (history : List Entry) (payment : PaymentLooked) (cap : Cap) → counted_asset (spending_of history payment) cap ≡ capped_asset history cap payment
asset_is history payment cap = asset_where history payment.payer payment.payee payment.debit cap.debit

value_where : (history : List Entry) (payer receive : Option ℕ) (debit : ℕ) (b : Bool)
    → (if b then option_map (λ (sum : Sum). sum.value) (option_map (λ p. record { asset = address_asset history p; value = debit }) payer) else receive) ≡ (if b then option_map (λ p. debit) payer else receive)
value_where history None receive debit true = refl
value_where history (Some p) receive debit true = refl
value_where history payer receive debit false = refl

value_is : (history : List Entry) (payment : PaymentLooked) (cap : Cap) → counted_value (spending_of history payment) cap ≡ capped_value cap payment
value_is history payment cap = value_where history payment.payer payment.receive payment.debit cap.debit

-- ---- the limits

-- the third and the fourth limit
last_limits : (over : ℕ → Bool) (spent_of : ℕ → ℕ) (last : Bool) (o : Option ℕ) → ((j : ℕ) → o ≡ Some j → over j ≡ last)
    → option_map rule_of (limit_of (option_map_or (λ j. if over j then Err (faults.OverLimit (spent_of j)) else Ok j) o (Err faults.OutsideInterval))) ≡ option_map (λ n. n + 5) (position_from (λ f. f) 3 (is_none o ∷ last ∷ []))
last_limits over spent_of last None same = refl
last_limits over spent_of last (Some j) same = by_test (over j) last (same j refl)
  where
    by_test : (b c : Bool) → b ≡ c → option_map rule_of (limit_of (if b then Err (faults.OverLimit (spent_of j)) else Ok j)) ≡ option_map (λ n. n + 5) (position_from (λ f. f) 3 (false ∷ c ∷ []))
    by_test true true h = refl
    by_test false false h = refl
    by_test true false h = absurd (let e : true ≡ false = h in cc)
    by_test false true h = absurd (let e : false ≡ true = h in cc)

all_limits : (a b : Bool) (rest : Result ℕ GrantFault) (left : List Bool) → option_map rule_of (limit_of rest) ≡ option_map (λ n. n + 5) (position_from (λ f. f) 3 left)
    → option_map rule_of (limit_of (if a then Err faults.LimitReceiver else (if b then Err faults.LimitAsset else rest))) ≡ option_map (λ n. n + 5) (position_from (λ f. f) 1 (a ∷ b ∷ left))
all_limits true b rest left h = refl
all_limits false true rest left h = refl
all_limits false false rest left h = h

cap_same : {X : Type 0} (f g : Cap → X) (o : Option Cap) (x : X) → ((c : Cap) → f c ≡ g c) → option_map_or f o x ≡ option_map_or g o x
cap_same f g None x same = refl
cap_same f g (Some c) x same = same c

limit_is : (history : List Entry) (value : GrantsValue) (g t : ℕ) (row : GrantRow) (payment : PaymentLooked) → IsGrantsOf history value
    → option_map rule_of (limit_of (may_pay_answer value g t (spending_of history payment) row)) ≡ limit_broken history t g row.items payment
limit_is history value g t row payment are =
    let items = row.items in
    let asked = spending_of history payment in
    let over : ℕ → Bool = λ j. option_map_or (is_over (spent_in value g j) asked) (cap_of items) false in
    let last : Bool = option_map_or (breaks_cap history t g items payment) (cap_of items) false in
    let asset : option_map_or (is_other_asset asked) (cap_of items) false ≡ option_map_or (λ cap. differ (Some cap.sum.asset) (capped_asset history cap payment)) (cap_of items) false =
    cap_same (is_other_asset asked) (λ cap. differ (Some cap.sum.asset) (capped_asset history cap payment)) (cap_of items) false (λ cap. ap (differ (Some cap.sum.asset)) (asset_is history payment cap)) in
    let caps : (j : ℕ) → interval_at items t ≡ Some j → over j ≡ last = λ j at.
    cap_same (is_over (spent_in value g j) asked) (breaks_cap history t g items payment) (cap_of items) false
    (λ cap.
    ap (λ o. option_map_or (λ v. passes_cap (spent_in value g j) v cap) o false) (value_is history payment cap)
    ∙ ap (λ n. option_map_or (λ v. nat_lt cap.sum.value (n + v)) (capped_value cap payment) false) (are.spends g j ∙ ap (λ (o : Option ℕ). option_map_or (spent history g) o 0) (sym at))) in
    all_limits (is_other_receiver items asked.receiver) (option_map_or (is_other_asset asked) (cap_of items) false) _ (is_none (interval_at items t) ∷ last ∷ [])
    (last_limits over (spent_in value g) last (interval_at items t) caps)
    ∙ ap (λ b. option_map (λ n. n + 5) (position_from (λ f. f) 1 (is_other_receiver items asked.receiver ∷ b ∷ is_none (interval_at items t) ∷ last ∷ []))) asset

-- the limit that an access breaks, where it makes a payment
spend_where : (history : List Entry) (value : GrantsValue) (g t : ℕ) (row : GrantRow) (payment : Option PaymentLooked) → IsGrantsOf history value → grant_row history g ≡ Some row
    → option_map rule_of (option_and_then (λ asked. limit_of (at_row (may_pay_answer value g t asked) value g)) (option_map (spending_of history) payment)) ≡ option_and_then (limit_broken history t g row.items) payment
spend_where history value g t row None are found = refl
spend_where history value g t row (Some payment) are found =
    let there : nth value.rows g ≡ Some row = ap (λ (rows : List GrantRow). nth rows g) are.rows ∙ found in
    ap (λ (o : Option GrantRow). option_map rule_of (limit_of (option_map_or (may_pay_answer value g t (spending_of history payment)) o (Err faults.Memory)))) there
    ∙ limit_is history value g t row payment are

-- the facts are those of the access
facts_are : (history : List Entry) (value : GrantsValue) (g t : ℕ) (row : GrantRow) (client : Option (List ℕ)) (looks : Looks) (looked : Looked) (spend : Option SpendFault) → IsGrantsOf history value → grant_row history g ≡ Some row → AreLooksOf looks history client looked
    → spend ≡ option_and_then (λ asked. limit_of (at_row (may_pay_answer value g t asked) value g)) looks.payment → AreFactsOf (facts_of row client looks spend) history t client g row looked
facts_are history value g t row client looks looked spend are found is spends = record {
  same_client = refl;
  actions = ap (λ k. option_map (λ (i : Item). i.actions) (item_of k row.items)) is.kind;
  need = is.need;
  all = is.all;
  identifier = ap (λ k. option_and_then (λ (i : Item). i.identifier) (item_of k row.items)) is.kind;
  address = is.address;
  own = is.own;
  spend =
      ap (option_map rule_of) spends
      ∙ ap (λ (o : Option Spending). option_map rule_of (option_and_then (λ asked. limit_of (at_row (may_pay_answer value g t asked) value g)) o)) is.payment
      ∙ spend_where history value g t row looked.payment are found;
}

-- ---- the refusal

-- what a decision refuses
abbrev pub refusal_by : Decision → ℕ → Option Refusal
refusal_by Pass spent = None
refusal_by (Denied rule) spent = Some (AccessDenied rule (if rule == 9 then Some spent else None))

refused : (history : List Entry) (t g : ℕ) (row : GrantRow) (failed : Option ℕ) → refusal_by (decision failed) (spent_at history g row.items t) ≡ option_map (denial history t g row) failed
refused history t g row None = refl
refused history t g row (Some rule) = refl

spent_is : (history : List Entry) (value : GrantsValue) (g t : ℕ) (row : GrantRow) (o : Option ℕ) → IsGrantsOf history value → option_map_or (spent_in value g) o 0 ≡ option_map_or (spent history g) o 0
spent_is history value g t row None are = refl
spent_is history value g t row (Some j) are = are.spends g j

pub refusal_is : (value : GrantsValue) (n t : ℕ) (client : Option (List ℕ)) (looks : Looks) (facts : AccessFacts) (made : Decision) → ((row : GrantRow) → nth value.rows n ≡ Some row → facts ≡ facts_of row client looks (limit_broken_by value n t looks.payment))
    → ((history : List Entry) (t : ℕ) (client : Option (List ℕ)) (g : ℕ) (grant : GrantRow) (looked : Looked) → AreFactsOf facts history t client g grant looked → made ≡ decision (first_failure (failures history t client g grant looked)))
    → IsRefusalOf (refusal_by made (spent_before value n t)) value n t client looks
refusal_is value n t client looks facts made facts_is by_history history row looked are found is =
    let rows : nth value.rows n ≡ Some row = ap (λ (rows : List GrantRow). nth rows n) are.rows ∙ found in
    let spend = limit_broken_by value n t looks.payment in
    let of_row : AreFactsOf facts history t client n row looked =
    subst (λ (f : AccessFacts). AreFactsOf f history t client n row looked) (sym (facts_is row rows)) (facts_are history value n t row client looks looked spend are found is refl) in
    let decided = by_history history t client n row looked of_row in
    let at : interval_in value n t ≡ interval_at row.items t = ap (λ (o : Option GrantRow). option_and_then (λ r. interval_at r.items t) o) rows in
    let counted : spent_before value n t ≡ spent_at history n row.items t = ap (λ (o : Option ℕ). option_map_or (spent_in value n) o 0) at ∙ spent_is history value n t row (interval_at row.items t) are in
    ap (λ s. refusal_by made s) counted ∙ ap (λ d. refusal_by d (spent_at history n row.items t)) decided ∙ refused history t n row (first_failure (failures history t client n row looked))
