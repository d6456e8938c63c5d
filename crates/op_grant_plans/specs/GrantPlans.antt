-- What is to come of a request on grants.
use Rattle.std.specs.Prelude.{◌≡◌, ℕ, Bool, true, false, List, Some}
use Rattle.std.specs.declared.option.Option.{Option}
use Rattle.op_grant.specs.declared.fault.Proceeded.{Proceeded}
use Rattle.op_grant_plans.specs.Callers.{IsCountOf}
use Rattle.op_grant_plans.specs.declared.parts.Context.{Context}
use Rattle.op_grant_plans.specs.declared.parts.Parts.{Parts}
use Rattle.op_granting.specs.Keeping.{IsGrantsOf}
use Rattle.op_granting.specs.Models.{behind, next_place, proceeded_act}
use Rattle.op_model.specs.Answer.{told_of, continued_body}
use Rattle.op_model.specs.Grants.{grant_row}
use Rattle.op_model.specs.Legal.{IsLegal}
use Rattle.op_model.specs.declared.act.Entry.{Entry}
use Rattle.op_model.specs.declared.request.Request.{Request}
use Rattle.op_model.specs.declared.request.Request.TheVariants as requests
use Rattle.op_naming.specs.Names.{AreNames}
use Rattle.op_plans.specs.Plans.{IsPlan}
use Rattle.op_plans.specs.declared.plan.Plan.{Plan}
use Rattle.op_plans.specs.declared.plan.Plan.TheVariants.{Acts}

-- the requests on grants
abbrev pub is_grant_request : Request → Bool
is_grant_request (requests.AcceptGrant grant) = true
is_grant_request (requests.RejectGrant grant) = true
is_grant_request (requests.AskGrant items client interact) = true
is_grant_request (requests.ContinueGrant grant reference) = true
is_grant_request (requests.CancelGrant grant) = true
is_grant_request (requests.RotateToken grant) = true
is_grant_request (requests.RevokeToken grant) = true
is_grant_request _ = false

-- the request that accepts or rejects a grant
abbrev pub decision : Bool → Option ℕ → Request
decision true grant = requests.AcceptGrant grant
decision false grant = requests.RejectGrant grant

-- the parts are those of a legal history, and the next entry has this place
pub record ArePartsOf (history : List Entry) (parts : Parts) (place : ℕ) : Type 0 where
  pub legal : IsLegal history
  pub grants_are : IsGrantsOf history parts.grants.now
  pub names_are : AreNames history parts.names.now
  pub incomings_are : IsCountOf history parts.incomings
  pub place_is : place ≡ next_place history

-- the plan is right on each history whose parts these are, whatever the fee
abbrev pub IsGrantPlan : Parts → Context → Request → Plan → Type 0
IsGrantPlan parts context request plan =
    (history : List Entry) (fee : ℕ) → ArePartsOf history parts context.next.place
    → IsPlan history context.next.at context.word.now fee request context.verdict.now plan

-- the plan of a continuation that is answered so: its act, and the reply behind it
abbrev pub IsContinuation : Parts → Context → ℕ → Proceeded → Plan → Type 0
IsContinuation parts context n answer plan =
    (history : List Entry) → ArePartsOf history parts context.next.place →
    (let act = proceeded_act answer n context.word.now in
    let after = behind history context.next.at act in
    plan ≡ Acts act (told_of (grant_row after) (continued_body after) (Some n)))
