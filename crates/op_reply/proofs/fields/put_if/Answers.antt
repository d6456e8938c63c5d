use Rattle.std.proofs.Common.{ap, ◌∙◌}
use Rattle.std.proofs.lemmas.Result.{on_ok_weaker}
use Rattle.serde_json.specs.View.{view, members_view}
use Rattle.serde_json.specs.Written.{members_have_float}
use Rattle.op_reply.proofs.Tables.{plain_put}
use Rattle.op_reply.proofs.fields.put_if.Goals as goal

pub returns-in-Some-clause-plain : goal.returns-in-Some-clause-plain
returns-in-Some-clause-plain c =
    on_ok_weaker c.put.result
    (λ is. ap members_have_float is ∙ plain_put c.args.name.now (view c.in-Some.json.value) (members_view c.args.map.now.entries) c.in-Some.json.plain c.requires)
    c.put.ensures.ok
