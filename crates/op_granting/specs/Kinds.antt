-- The acts that touch grants.
use Rattle.std.specs.Prelude.{Bool, true, false}
use Rattle.op_model.specs.declared.act.Act.{Act}
use Rattle.op_model.specs.declared.act.Act.TheVariants as acts

-- a grant is asked for, or one that is there changes
abbrev pub is_on_grants : Act → Bool
is_on_grants (acts.GrantAsked client items finish word) = true
is_on_grants (acts.GrantAccepted grant word) = true
is_on_grants (acts.GrantRejected grant word) = true
is_on_grants (acts.GrantPolled grant) = true
is_on_grants (acts.GrantContinued grant word) = true
is_on_grants (acts.GrantCancelled grant) = true
is_on_grants (acts.TokenRotated grant word) = true
is_on_grants (acts.TokenRevoked grant) = true
is_on_grants _ = false

-- what was spent under a grant changes: a payment is made, from a quote or without one, or fails
abbrev pub is_on_spending : Act → Bool
is_on_spending (acts.OutgoingMade grant quote metadata) = true
is_on_spending (acts.OutgoingDirect grant address incoming debit source fee receive num den metadata) = true
is_on_spending (acts.OutgoingFailed payment step reason) = true
is_on_spending _ = false
