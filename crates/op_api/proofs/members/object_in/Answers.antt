use Rattle.std.proofs.Common.{rules, ◌∙◌, sym, refl}
use Rattle.serde_json.specs.View.{view}
use Rattle.op_api.proofs.Objects.{is_object, is_unread}
use Rattle.op_api.proofs.members.object_in.Goals as goal

pub returns-then-is_object-clause-object : goal.returns-then-is_object-clause-object
returns-then-is_object-clause-object c = is_object c.args.body.now (view c.in-Ok.value) c.in-Ok.ensures.ok.0 c.in-Ok.ensures.ok.1 (sym c.is_object.ensures ∙ c.if-is_object.true)

pub returns-else-is_memory-clause-object : goal.returns-else-is_memory-clause-object
returns-else-is_memory-clause-object c = (refl, is_unread c.args.body.now (λ u. c.in-Err.ensures.err (λ m. search rules) u))
