-- What an act of a kind leaves.
use Rattle.std.proofs.Common.{◌≡◌, ℕ, true, false, List, refl, Option}
use Rattle.op_granting.specs.Kinds.{is_on_grants, is_on_spending}
use Rattle.op_model.specs.declared.act.Act.{Act}
use Rattle.op_model.specs.declared.act.Act.TheVariants as acts
use Rattle.op_model.specs.declared.act.FailReason.{FailReason}
use Rattle.op_naming.specs.Added.{adds_name}
use Rattle.op_paying.specs.Taking.{leaves_money}

-- an act that adds a name touches no grant
pub record LeavesGrants (act : Act) : Type 0 where
  pub on : is_on_grants act ≡ false
  pub quiet : is_on_spending act ≡ false

pub name_leaves : (act : Act) → adds_name act ≡ true → LeavesGrants act
name_leaves (acts.OriginSet origin) h = record { on = refl; quiet = refl }
name_leaves (acts.AssetAdded code scale pieces) h = record { on = refl; quiet = refl }
name_leaves (acts.AddressAdded path asset name) h = record { on = refl; quiet = refl }
name_leaves (acts.Deposited transfer account value) h = record { on = refl; quiet = refl }
name_leaves (acts.Withdrawn transfer account value) h = record { on = refl; quiet = refl }
name_leaves (acts.RateSet source target num den) h = record { on = refl; quiet = refl }
name_leaves _ h = absurd (let e : false ≡ true = h in cc)

-- an act on a grant adds no name, leaves all money, and what was spent
pub record IsOnGrantAlone (act : Act) : Type 0 where
  pub unnamed : adds_name act ≡ false
  pub unpaid : leaves_money act ≡ true
  pub quiet : is_on_spending act ≡ false

pub grant_alone : (act : Act) → is_on_grants act ≡ true → IsOnGrantAlone act
grant_alone (acts.GrantAsked client items finish word) h = record { unnamed = refl; unpaid = refl; quiet = refl }
grant_alone (acts.GrantAccepted grant word) h = record { unnamed = refl; unpaid = refl; quiet = refl }
grant_alone (acts.GrantRejected grant word) h = record { unnamed = refl; unpaid = refl; quiet = refl }
grant_alone (acts.GrantPolled grant) h = record { unnamed = refl; unpaid = refl; quiet = refl }
grant_alone (acts.GrantContinued grant word) h = record { unnamed = refl; unpaid = refl; quiet = refl }
grant_alone (acts.GrantCancelled grant) h = record { unnamed = refl; unpaid = refl; quiet = refl }
grant_alone (acts.TokenRotated grant word) h = record { unnamed = refl; unpaid = refl; quiet = refl }
grant_alone (acts.TokenRevoked grant) h = record { unnamed = refl; unpaid = refl; quiet = refl }
grant_alone _ h = absurd (let e : false ≡ true = h in cc)

-- an act on what was spent is one of three
pub no_spending : {P : Type 0} (act : Act) → is_on_spending act ≡ true → ((grant quote : ℕ) (metadata : Option (List ℕ)) → act ≡ acts.OutgoingMade grant quote metadata → ⊥)
    → ((grant address incoming debit source fee receive num den : ℕ) (metadata : Option (List ℕ)) → act ≡ acts.OutgoingDirect grant address incoming debit source fee receive num den metadata → ⊥)
    → ((payment step : ℕ) (reason : FailReason) → act ≡ acts.OutgoingFailed payment step reason → ⊥) → P
no_spending (acts.OutgoingMade grant quote metadata) h a b c = absurd (a grant quote metadata refl)
no_spending (acts.OutgoingDirect grant address incoming debit source fee receive num den metadata) h a b c = absurd (b grant address incoming debit source fee receive num den metadata refl)
no_spending (acts.OutgoingFailed payment step reason) h a b c = absurd (c payment step reason refl)
no_spending _ h a b c = absurd (let e : false ≡ true = h in cc)
