use Rattle.std.proofs.Common.{refl, map}
use Rattle.op_model.specs.AdminAnswers.{transfers}
use Rattle.op_naming.specs.Kept.{transfer_key}
use Rattle.op_naming.proofs.NamesNext.{transfer_next}
use Rattle.op_naming.proofs.Numbers.{no_transfer}
use Rattle.op_naming.proofs.names.Names.add_transfer.Goals as goal

pub returns : goal.returns
returns c history t is fresh =
    let old = c.args.self.now in
    let unused = no_transfer history old.ids c.args.id.items is.ids_are fresh in
    transfer_next history t c.args.id.items c.args.transfer old (record old { ids = c.add.new.self; transfers = c.push_reserved.new.self }) is (record {
      origin = refl;
      fixed = refl;
      of_assets = refl;
      of_codes = refl;
      of_addresses = refl;
      of_paths = refl;
      rows = c.push_reserved.ensures.items;
      keys = c.add.ensures (map transfer_key (transfers history)) is.ids_are unused;
      of_rates = refl;
    })
