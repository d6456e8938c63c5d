use Rattle.std.proofs.Common.{◌∙◌, ◌∷◌, ◌++◌, [], List, ℕ, ap, subst, refl, map}
use Rattle.op_model.specs.History.{addresses}
use Rattle.op_naming.specs.Indexes.{IsIndexOf, number_in}
use Rattle.op_naming.specs.Kept.{address_key}
use Rattle.op_naming.proofs.NamesNext.{address_next}
use Rattle.op_naming.proofs.Numbers.{path_numbered}
use Rattle.op_naming.proofs.names.Names.add_address.Goals as goal

pub returns : goal.returns
returns c history t is fresh =
    let old = c.args.self.now in
    let keys = map address_key (addresses history) in
    let row = c.args.address in
    let unused = ap (number_in old.paths) c.requires.key ∙ path_numbered history old.paths row.path is.paths_are ∙ fresh in
    let grown = subst (λ (k : List ℕ). IsIndexOf c.add.new.self (keys ++ k ∷ [])) c.requires.key (c.add.ensures keys is.paths_are unused) in
    address_next history t row old (record old { paths = c.add.new.self; addresses = c.push_reserved.new.self }) is (record {
      origin = refl;
      fixed = refl;
      of_assets = refl;
      of_codes = refl;
      rows = c.push_reserved.ensures.items;
      keys = grown;
      of_transfers = refl;
      of_ids = refl;
      of_rates = refl;
    })
