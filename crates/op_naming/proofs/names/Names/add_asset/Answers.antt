use Rattle.std.proofs.Common.{◌∙◌, ◌∷◌, ◌++◌, [], List, ℕ, ap, subst, refl, map}
use Rattle.op_model.specs.History.{assets}
use Rattle.op_naming.specs.Indexes.{IsIndexOf, number_in}
use Rattle.op_naming.specs.Kept.{asset_key}
use Rattle.op_naming.proofs.NamesNext.{asset_next}
use Rattle.op_naming.proofs.Numbers.{asset_numbered}
use Rattle.op_naming.proofs.names.Names.add_asset.Goals as goal

pub returns : goal.returns
returns c history t is fresh =
    let old = c.args.self.now in
    let keys = map asset_key (assets history) in
    let asset = c.args.asset in
    let unused = ap (number_in old.codes) c.requires.key ∙ asset_numbered history old.codes asset is.codes_are ∙ fresh in
    let grown = subst (λ (k : List ℕ). IsIndexOf c.add.new.self (keys ++ k ∷ [])) c.requires.key (c.add.ensures keys is.codes_are unused) in
    asset_next history t asset c.args.pieces old (record old { codes = c.add.new.self; assets = c.push_reserved.new.self }) is (record {
      origin = refl;
      fixed = refl;
      rows = c.push_reserved.ensures.items;
      keys = grown;
      of_addresses = refl;
      of_paths = refl;
      of_transfers = refl;
      of_ids = refl;
      of_rates = refl;
    })
