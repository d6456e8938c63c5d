-- The plan of a request, on the parts of a wallet.
use Rattle.std.specs.Prelude.{◌≡◌, ℕ, List}
use Rattle.op_grant_plans.specs.declared.parts.Context.{Context}
use Rattle.op_granting.specs.Models.{next_place}
use Rattle.op_model.specs.declared.act.Entry.{Entry}
use Rattle.op_model.specs.declared.request.Request.{Request}
use Rattle.op_parts.specs.Parts.{AreParts}
use Rattle.op_parts.specs.declared.parts.Parts.{Parts}
use Rattle.op_plans.specs.Plans.{IsPlan}
use Rattle.op_plans.specs.declared.plan.Plan.{Plan}

-- the plan is the definitions' on each history whose parts these are and whose next entry has the context's place, whatever
-- the fee
abbrev pub IsPlanOn : Parts → Context → Request → Plan → Type 0
IsPlanOn parts context request plan =
    (history : List Entry) (fee : ℕ) → AreParts history parts → context.next.place ≡ next_place history
    → IsPlan history context.next.at context.word.now fee request context.verdict.now plan
