-- A plan that is what a route answers.
use Rattle.std.specs.Prelude.{◌≡◌, ℕ, List, [], ◌∷◌, ◌++◌, Some, None, Ok, Err}
use Rattle.std.specs.declared.option.Option.{Option}
use Rattle.std.specs.declared.result.Result.{Result}
use Rattle.op_model.specs.Answer.{body_for}
use Rattle.op_model.specs.declared.act.Act.{Act}
use Rattle.op_model.specs.declared.act.Entry.{Entry}
use Rattle.op_model.specs.declared.reply.Refusal.{Refusal}
use Rattle.op_model.specs.declared.request.Request.{Request}
use Rattle.op_model.specs.declared.request.Verdict.{Verdict}
use Rattle.op_plans.specs.declared.plan.Plan.{Plan}
use Rattle.op_plans.specs.declared.plan.Plan.TheVariants.{Refused, Told, Acts}

-- the refusal that is answered, or the reply, or the act that is answered and the reply behind it
abbrev pub IsAnswered : List Entry → (t : ℕ) → Request → Verdict → Result (Option Act) Refusal → Plan → Type 0
IsAnswered history t request verdict answer (Refused refusal) = answer ≡ Err refusal
IsAnswered history t request verdict answer (Told body) = (answer ≡ Ok None) × (body ≡ body_for history t request verdict)
IsAnswered history t request verdict answer (Acts act body) =
    (answer ≡ Ok (Some act)) × (body ≡ body_for (history ++ record { at = t; act = act } ∷ []) t request verdict)
