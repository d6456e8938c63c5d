use Rattle.std.proofs.Common.{◌≡◌, rules, true, arith}
use Rattle.std.specs.Prelude.{◌||◌, ◌==◌, not, is_some}
use Rattle.serde_json.specs.View.{view}
use Rattle.op_api.proofs.Items.{item_is}
use Rattle.op_api.proofs.access.item_of_kind.Goals as goal

pub returns-then-kind-ne-OUTGOING : goal.returns-then-kind-ne-OUTGOING
returns-then-kind-ne-OUTGOING c =
    let named : (is_some c.in-Some-2.identifier || not (c.args.kind == 3)) ≡ true = grind arith in
    item_is (view c.args.object.now) c.args.kind c.in-Some.actions c.in-Some-2.identifier c.in-Some-3.limits (search rules) (search rules) (search rules) (search rules) named
