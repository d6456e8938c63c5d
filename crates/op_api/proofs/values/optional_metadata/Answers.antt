use Rattle.std.proofs.Common.{◌≤◌, sym, codes, arith}
use Rattle.serde_json.specs.Data.{depth}
use Rattle.serde_json.specs.View.{view}
use Rattle.op_api.proofs.Depths.{depth-optional_in}
use Rattle.op_api.proofs.values.optional_metadata.Goals as goal

pub metadata_of-requires : goal.metadata_of-requires
metadata_of-requires c =
    let within : depth (view c.in-Some.value.now) ≤ depth (view c.args.object.now) = depth-optional_in (codes "metadata") (view c.args.object.now) (view c.in-Some.value.now) (sym c.in-Some.ensures) in
    omega (arith, c.requires)
