use Rattle.std.proofs.Common.{◌∙◌, ◌∷◌, List, ℕ, ap}
use Rattle.op_naming.specs.Indexes.{number_in}
use Rattle.op_naming.proofs.Numbers.{asset_numbered}
use Rattle.op_naming.proofs.names.Names.find_asset.Goals as goal

pub returns : goal.returns
returns c history is =
    let asset = c.args.asset.now in
    let key = c.as_bytes.ensures ∙ c.new-key.ensures ∙ ap (λ (code : List ℕ). asset.scale ∷ code) c.of_code.ensures in
    c.find.ensures ∙ ap (number_in c.args.self.now.codes) key ∙ asset_numbered history c.args.self.now.codes asset is.codes_are
