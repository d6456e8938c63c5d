-- What is to come of asking for a grant that is not refused.
use Rattle.std.specs.Prelude.{◌≡◌, ℕ, List}
use Rattle.std.specs.List.{AllByRecursion}
use Rattle.op_grant.specs.Rows.{asked_row}
use Rattle.op_grant_plans.specs.declared.parts.Context.{Context}
use Rattle.op_granting.specs.Models.{asked_act}
use Rattle.op_legal.specs.Numbers.{ItemNamesMade}
use Rattle.op_model.specs.Answer.{asked_body}
use Rattle.op_model.specs.declared.act.Entry.{Entry}
use Rattle.op_model.specs.declared.grant.Asked.{Asked}
use Rattle.op_naming.specs.Names.{AreNames}
use Rattle.op_naming.specs.declared.names.Names.{Names}
use Rattle.op_plans.specs.declared.plan.Plan.{Plan}
use Rattle.op_plans.specs.declared.plan.Plan.TheVariants.{Acts}

-- the act asks for the grant, and the reply tells its row under its number
abbrev pub new_plan : List Entry → ℕ → Context → Asked → Plan
new_plan history number context asked =
    Acts (asked_act asked context.word.now) (asked_body history (number, asked_row context.next.at context.word.now context.next.place asked))

-- the plan is this one on each history that has these names and what the items name
abbrev pub IsNewGrant : Names → ℕ → Context → Asked → Plan → Type 0
IsNewGrant names number context asked plan =
    (history : List Entry) → AreNames history names → AllByRecursion (ItemNamesMade history) asked.items → plan ≡ new_plan history number context asked
