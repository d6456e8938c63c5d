use Rattle.std.proofs.Common.{codes, ◌∙◌}
use Rattle.op_hooks.proofs.Joined.{three_parts}
use Rattle.op_hooks.proofs.messages.incoming_url.Goals as goal

pub returns : goal.returns
returns c =
    three_parts c.format.result c.args.origin.now (codes "/incoming-payments/") c.as_str-id.result.now _ c.format.ensures.ok (c.as_str-id.ensures.value ∙ c.in_ok-id.ensures)
