-- Facts of a history are denied by the rule that denies the access itself.
use Rattle.std.proofs.Common.{◌≡◌, ℕ, ◌+◌, Bool, true, false, not, List, [], ◌∷◌, ◌++◌, Some, None, refl, ap, ◌∙◌, ◌&&◌, ◌==◌}
use Rattle.std.specs.Option.{option_map, option_map_or, option_and_then, is_none}
use Rattle.std.specs.List.{position_from}
use Rattle.std.specs.declared.option.Option.{Option}
use Rattle.op_model.specs.Access.{Looked, PaymentLooked, failures, limit_failures, first_failure, is_same_client, has_action, differ}
use Rattle.op_model.specs.Grants.{item_of}
use Rattle.op_model.specs.declared.act.Entry.{Entry}
use Rattle.op_model.specs.declared.row.GrantRow.{GrantRow}
use Rattle.op_access.specs.Rules.{AreFactsOf, fact_rules, limit_broken, rule_of, decision, decision_of}
use Rattle.op_access.specs.declared.rules.Decision.{Decision}
use Rattle.op_access.specs.declared.rules.AccessFacts.{AccessFacts}
use Rattle.op_access.specs.declared.rules.SpendFault.{SpendFault}
use Rattle.op_access.specs.declared.rules.SpendFault.TheVariants.{LimitReceiver, LimitAsset, OutsideInterval, OverLimit}

abbrev test : Bool → Bool
test fails = fails

-- the rules 6 to 9 of a fault
abbrev broken : Option SpendFault → List Bool
broken spend =
    option_map_or (λ fault. rule_of fault == 6) spend false ∷ option_map_or (λ fault. rule_of fault == 7) spend false
    ∷ option_map_or (λ fault. rule_of fault == 8) spend false ∷ option_map_or (λ fault. rule_of fault == 9) spend false ∷ []

first_broken : (spend : Option SpendFault) → position_from test 6 (broken spend) ≡ option_map rule_of spend
first_broken None = refl
first_broken (Some LimitReceiver) = refl
first_broken (Some LimitAsset) = refl
first_broken (Some OutsideInterval) = refl
first_broken (Some OverLimit) = refl

-- four rules counted from 6, and from 1
four_later : (a b c d : Bool) → option_map (λ n. n + 5) (position_from test 1 (a ∷ b ∷ c ∷ d ∷ [])) ≡ position_from test 6 (a ∷ b ∷ c ∷ d ∷ [])
four_later true b c d = refl
four_later false true c d = refl
four_later false false true d = refl
four_later false false false true = refl
four_later false false false false = refl

abbrev limits_at : List Entry → ℕ → ℕ → GrantRow → Option PaymentLooked → List Bool
limits_at history t g grant payment = option_map_or (limit_failures history t g grant.items) payment []

limits_later : (history : List Entry) (t g : ℕ) (grant : GrantRow) (payment : Option PaymentLooked)
    → option_and_then (limit_broken history t g grant.items) payment ≡ position_from test 6 (limits_at history t g grant payment)
limits_later history t g grant None = refl
limits_later history t g grant (Some payment) = four_later _ _ _ _

-- five rules first, and then others
five_first : (a b c d e : Bool) (one other : List Bool) → position_from test 6 one ≡ position_from test 6 other
    → position_from test 1 (a ∷ b ∷ c ∷ d ∷ e ∷ one) ≡ position_from test 1 ((a ∷ b ∷ c ∷ d ∷ e ∷ []) ++ other)
five_first true b c d e one other same = refl
five_first false true c d e one other same = refl
five_first false false true d e one other same = refl
five_first false false false true e one other same = refl
five_first false false false false true one other same = refl
five_first false false false false false one other same = same

none_left : {X Y : Type 0} (f : X → Y) (x : Option X) → is_none (option_map f x) ≡ is_none x
none_left f None = refl
none_left f (Some x) = refl

-- a test of what an item tells, told or not
tested : {X : Type 0} (f : X → ℕ) (bits : ℕ) (x : Option X)
    → option_map_or (λ actions. has_action actions bits) (option_map f x) false ≡ has_action (option_map_or f x 0) bits
tested f bits None = refl
tested f bits (Some x) = refl

strange : {X : Type 0} (test : X → Bool) (x : Option X) → option_map_or not (option_map test x) false ≡ option_map_or (λ y. not (test y)) x false
strange test None = refl
strange test (Some x) = refl

five_same : (a b c d e a' b' c' d' e' : Bool) (one other : List Bool) → a ≡ a' → b ≡ b' → c ≡ c' → d ≡ d' → e ≡ e'
    → position_from test 6 one ≡ position_from test 6 other
    → position_from test 1 (a ∷ b ∷ c ∷ d ∷ e ∷ one) ≡ position_from test 1 ((a' ∷ b' ∷ c' ∷ d' ∷ e' ∷ []) ++ other)
five_same a b c d e a' b' c' d' e' one other sa sb sc sd se same = five_first a b c d e one other same ∙ (rw sa rw sb rw sc rw sd rw se refl)

pub same_rule : (facts : AccessFacts) (history : List Entry) (t : ℕ) (client : Option (List ℕ)) (g : ℕ) (grant : GrantRow) (looked : Looked)
    → AreFactsOf facts history t client g grant looked → first_failure (fact_rules facts) ≡ first_failure (failures history t client g grant looked)
same_rule facts history t client g grant looked are =
    let item = item_of looked.kind grant.items in
    let reach : (bits : ℕ) → option_map_or (λ a. has_action a bits) facts.actions false ≡ has_action (option_map_or (λ i. i.actions) item 0) bits
    = λ bits. ap (λ actions. option_map_or (λ a. has_action a bits) actions false) are.actions ∙ tested (λ i. i.actions) bits item in
    let owns : option_map_or not facts.own false ≡ option_map_or (λ owner. not (is_same_client client owner)) looked.owner false
    = ap (λ own. option_map_or not own false) are.own ∙ strange (is_same_client client) looked.owner in
    five_same _ _ _ _ _ _ _ _ _ _ (broken facts.spend) (limits_at history t g grant looked.payment)
    (ap not are.same_client)
    (ap is_none are.actions ∙ none_left (λ i. i.actions) item)
    (ap not (reach facts.need) ∙ ap (λ bits. not (has_action (option_map_or (λ i. i.actions) item 0) bits)) are.need)
    (ap (λ x. differ x facts.address) are.identifier ∙ ap (λ x. differ (option_and_then (λ i. i.identifier) item) x) are.address)
    (ap (λ x. x && not (option_map_or (λ a. has_action a facts.all) facts.actions false)) owns
    ∙ ap (λ x. option_map_or (λ owner. not (is_same_client client owner)) looked.owner false && not x) (reach facts.all)
    ∙ ap (λ x. option_map_or (λ owner. not (is_same_client client owner)) looked.owner false && not (has_action (option_map_or (λ i. i.actions) item 0) x)) are.all)
    (first_broken facts.spend ∙ are.spend ∙ limits_later history t g grant looked.payment)

pub same_decision : (facts : AccessFacts) (made : Decision) → made ≡ decision_of facts
    → (history : List Entry) (t : ℕ) (client : Option (List ℕ)) (g : ℕ) (grant : GrantRow) (looked : Looked)
    → AreFactsOf facts history t client g grant looked → made ≡ decision (first_failure (failures history t client g grant looked))
same_decision facts made is history t client g grant looked are = is ∙ ap decision (same_rule facts history t client g grant looked are)
