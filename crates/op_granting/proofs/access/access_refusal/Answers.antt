use Rattle.std.proofs.Common.{◌≡◌, sym, subst, ap, ◌∙◌, Some, None}
use Rattle.std.specs.Prelude.{◌==◌, if◌then◌else◌}
use Rattle.std.specs.Option.{option_copied}
use Rattle.op_access.specs.declared.rules.Decision.TheVariants.{Denied}
use Rattle.op_model.specs.declared.reply.Refusal.TheVariants.{AccessDenied}
use Rattle.op_granting.specs.Access.{IsRefusalOf, spent_before}
use Rattle.op_granting.proofs.Accessing.{refusal_is, refusal_by}
use Rattle.op_granting.proofs.access.access_refusal.Goals as goal

pub returns-in-Pass : goal.returns-in-Pass
returns-in-Pass c = refusal_is c.args.grants.now c.args.n c.args.t (option_copied c.args.client) c.args.looks.now c.facts_under-facts.result _ c.facts_under-facts.ensures c.in-Pass.ensures.by_history

pub returns-in-Denied : goal.returns-in-Denied
returns-in-Denied c =
    let value = c.args.grants.now in
    let rule = c.in-Denied.rule in
    let is : Some c.denied.result ≡ refusal_by (Denied rule) (spent_before value c.args.n c.args.t) =
    ap (λ r. Some r) (c.denied.ensures ∙ ap (λ s. AccessDenied rule (if rule == 9 then Some s else None)) c.spent_at.ensures) in
    subst (λ r. IsRefusalOf r value c.args.n c.args.t (option_copied c.args.client) c.args.looks.now) (sym is)
    (refusal_is value c.args.n c.args.t (option_copied c.args.client) c.args.looks.now c.facts_under-facts.result (Denied rule) c.facts_under-facts.ensures c.in-Denied.ensures.by_history)
