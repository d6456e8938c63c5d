use Rattle.std.proofs.Common.{◌∙◌, List, ap}
use Rattle.op_model.specs.History.{nth, assets}
use Rattle.op_naming.specs.Kept.{asset_kept}
use Rattle.op_naming.specs.declared.kept.AssetKept.{AssetKept}
use Rattle.op_naming.proofs.Lists.{nth_mapped}
use Rattle.op_naming.proofs.names.Names.asset.Goals as goal

pub returns : goal.returns
returns c history is =
    c.asset_at.ensures ∙ ap (λ (l : List AssetKept). nth l c.args.number) (c.deref.ensures.value ∙ is.assets_are)
    ∙ nth_mapped asset_kept (assets history) c.args.number
