-- The nine rules of access, on the facts that they look at. They are this project's own, on the access of grants that
-- Open Payments describes (incoming payments, quotes and outgoing payments, their actions and limits).
use Rattle.std.specs.Prelude.{◌≡◌, ℕ, ◌+◌, Bool, false, not, ◌&&◌, ◌==◌, List, [], ◌∷◌, Some, None}
use Rattle.std.specs.Option.{option_map, option_map_or, option_and_then, is_none}
use Rattle.std.specs.declared.option.Option.{Option}
use Rattle.op_model.specs.Access.{Looked, PaymentLooked, has_action, is_same_client, differ, first_failure, limit_failures}
use Rattle.op_model.specs.Grants.{item_of}
use Rattle.op_model.specs.declared.act.Entry.{Entry}
use Rattle.op_model.specs.declared.grant.Item.{Item}
use Rattle.op_model.specs.declared.row.GrantRow.{GrantRow}
use Rattle.op_access.specs.declared.rules.AccessFacts.{AccessFacts}
use Rattle.op_access.specs.declared.rules.Decision.{Decision}
use Rattle.op_access.specs.declared.rules.Decision.TheVariants.{Pass, Denied}
use Rattle.op_access.specs.declared.rules.SpendFault.{SpendFault}
use Rattle.op_access.specs.declared.rules.SpendFault.TheVariants.{LimitReceiver, LimitAsset, OutsideInterval, OverLimit}

-- the number of the rule that a spending breaks
abbrev pub rule_of : SpendFault → ℕ
rule_of LimitReceiver = 6
rule_of LimitAsset = 7
rule_of OutsideInterval = 8
rule_of OverLimit = 9

-- the spending breaks rule n
abbrev pub breaks : ℕ → AccessFacts → Bool
breaks n facts = option_map_or (λ fault. rule_of fault == n) facts.spend false

-- the item has one of these actions; where there is no item, none
abbrev pub has_any : AccessFacts → ℕ → Bool
has_any facts bits = option_map_or (λ actions. has_action actions bits) facts.actions false

-- whether each rule fails, in order
abbrev pub fact_rules : AccessFacts → List Bool
fact_rules facts =
    not facts.same_client
    ∷ is_none facts.actions
    ∷ not (has_any facts facts.need)
    ∷ differ facts.identifier facts.address
    ∷ (option_map_or not facts.own false && not (has_any facts facts.all))
    ∷ breaks 6 facts ∷ breaks 7 facts ∷ breaks 8 facts ∷ breaks 9 facts ∷ []

-- pass, or denied by a rule
abbrev pub decision : Option ℕ → Decision
decision None = Pass
decision (Some rule) = Denied rule

-- denied by the first rule that fails
abbrev pub decision_of : AccessFacts → Decision
decision_of facts = decision (first_failure (fact_rules facts))

-- ---- facts of a history

-- the number of the first of the rules 6 to 9 that this payment breaks
abbrev pub limit_broken : List Entry → ℕ → ℕ → List Item → PaymentLooked → Option ℕ
limit_broken history t g items payment = option_map (λ n. n + 5) (first_failure (limit_failures history t g items payment))

-- the facts are those of a client's access under grant g, at t
pub record AreFactsOf (facts : AccessFacts) (history : List Entry) (t : ℕ) (client : Option (List ℕ)) (g : ℕ) (grant : GrantRow) (looked : Looked) : Type 0 where
  pub same_client : facts.same_client ≡ is_same_client client grant.client
  pub actions : facts.actions ≡ option_map (λ item. item.actions) (item_of looked.kind grant.items)
  pub need : facts.need ≡ looked.need
  pub all : facts.all ≡ looked.all
  pub identifier : facts.identifier ≡ option_and_then (λ item. item.identifier) (item_of looked.kind grant.items)
  pub address : facts.address ≡ looked.address
  pub own : facts.own ≡ option_map (is_same_client client) looked.owner
  pub spend : option_map rule_of facts.spend ≡ option_and_then (limit_broken history t g grant.items) looked.payment
