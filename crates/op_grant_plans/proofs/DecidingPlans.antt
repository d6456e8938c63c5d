-- What comes of the provider's decisions.
use Rattle.std.proofs.Common.{◌≡◌, ℕ, Bool, true, false, List, ◌∙◌, ap, Some, Option, Ok, Err}
use Rattle.op_grant.specs.Rows.{at_row, decide_answer, decided}
use Rattle.op_grant.specs.Value.{GrantsValue}
use Rattle.op_grant_plans.specs.GrantPlans.{IsGrantPlan, decision}
use Rattle.op_grant_plans.specs.declared.parts.Context.{Context}
use Rattle.op_grant_plans.specs.declared.parts.Parts.{Parts}
use Rattle.op_grant_plans.proofs.Rows.{row_behind, told_row}
use Rattle.op_granting.specs.Models.{behind, next_place, decided_act}
use Rattle.op_granting.proofs.Following.{follow}
use Rattle.op_model.specs.Answer.{told_of, grant_decided_body}
use Rattle.op_model.specs.GrantAnswers.{decide}
use Rattle.op_model.specs.Grants.{grants, grant_row}
use Rattle.op_model.specs.History.{nth}
use Rattle.op_model.specs.Shown.{redirect_of}
use Rattle.op_model.specs.declared.act.Act.{Act}
use Rattle.op_model.specs.declared.act.Act.TheVariants as acts
use Rattle.op_model.specs.declared.act.Entry.{Entry}
use Rattle.op_model.specs.declared.reply.Redirect.{Redirect}
use Rattle.op_model.specs.declared.reply.Refusal.{Refusal}
use Rattle.op_model.specs.declared.reply.ReplyBody.TheVariants as bodies
use Rattle.op_model.specs.declared.row.GrantRow.{GrantRow}
use Rattle.op_names.specs.Secrets.{secret_text}
use Rattle.op_names.specs.declared.Letter.TheVariants as letters
use Rattle.op_plans.specs.declared.plan.Plan.TheVariants.{Refused, Acts}

pub refused : (parts : Parts) (context : Context) (accept : Bool) (grant : Option ℕ) (refusal : Refusal) → ((history : List Entry) (act : ℕ → Act) → parts.grants.now.rows ≡ grants history → decide history act grant ≡ Err refusal) → IsGrantPlan parts context (decision accept grant) (Refused refusal)
refused parts context true grant refusal answer history fee are = answer history (λ g. acts.GrantAccepted g context.word.now) are.grants_are.rows
refused parts context false grant refusal answer history fee are = answer history (λ g. acts.GrantRejected g context.word.now) are.grants_are.rows

-- the reply on the history with the act
body_is : (history : List Entry) (value : GrantsValue) (t place n : ℕ) (grant : Option ℕ) (accept : Bool) (word : List ℕ) (row : GrantRow) (redirect : Option Redirect) → value.rows ≡ grants history → place ≡ next_place history → at_row decide_answer value n ≡ Ok tt → nth value.rows n ≡ Some row → grant ≡ Some n
    → redirect ≡ redirect_of (record row { reference = Some (secret_text letters.Interaction word place) })
    → bodies.GrantDecided redirect ≡ told_of (grant_row (behind history t (decided_act accept n word))) grant_decided_body grant
body_is history value t place n grant accept word row redirect same placed passes there named is =
    let after = behind history t (decided_act accept n word) in
    let change = decided accept word (next_place history) in
    ap (λ (r : Option Redirect). bodies.GrantDecided r) (is ∙ ap (λ (p : ℕ). redirect_of (record row { reference = Some (secret_text letters.Interaction word p) })) placed)
    ∙ told_row grant_decided_body after grant n (change row) named
    (row_behind change value history t n (decided_act accept n word) row (follow.decided value history t n accept word same passes) there)

pub planned : (parts : Parts) (context : Context) (accept : Bool) (grant : Option ℕ) (n : ℕ) (row : GrantRow) (redirect : Option Redirect) → ((history : List Entry) (act : ℕ → Act) → parts.grants.now.rows ≡ grants history → decide history act grant ≡ Ok (Some (act n)))
    → at_row decide_answer parts.grants.now n ≡ Ok tt → nth parts.grants.now.rows n ≡ Some row → grant ≡ Some n → redirect ≡ redirect_of (record row { reference = Some (secret_text letters.Interaction context.word.now context.next.place) })
    → IsGrantPlan parts context (decision accept grant) (Acts (decided_act accept n context.word.now) (bodies.GrantDecided redirect))
planned parts context true grant n row redirect answer passes there named is history fee are = (
  answer history (λ g. acts.GrantAccepted g context.word.now) are.grants_are.rows,
  body_is history parts.grants.now context.next.at context.next.place n grant true context.word.now row redirect are.grants_are.rows are.place_is passes there named is,
)
planned parts context false grant n row redirect answer passes there named is history fee are = (
  answer history (λ g. acts.GrantRejected g context.word.now) are.grants_are.rows,
  body_is history parts.grants.now context.next.at context.next.place n grant false context.word.now row redirect are.grants_are.rows are.place_is passes there named is,
)
