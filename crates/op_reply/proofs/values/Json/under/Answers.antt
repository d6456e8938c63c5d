use Rattle.std.proofs.Common.{◌++◌, ap, ◌∙◌}
use Rattle.serde_json.specs.Data.{string}
use Rattle.op_reply.proofs.values.Json.under.Goals as goal

pub returns : goal.returns
returns c =
    c.from.ensures ∙ ap string (c.in_ok-format.ensures.ok ∙ (ap (λ x. x ++ c.utf8-path.result.now) c.utf8-origin.ensures ∙ ap (λ x. c.args.origin.now ++ x) c.utf8-path.ensures))
