-- What a legal entry tells of its record.
use Rattle.std.proofs.Common.{◌<◌, ◌^◌, List, length, arith}
use Rattle.op_model.specs.History.{asset_added, address_added}
use Rattle.op_model.specs.Legal.{IsLegal, IsNext}
use Rattle.op_model.specs.declared.act.Entry.{Entry}
use Rattle.op_legal.proofs.Recorded.{entries_have_records}
use Rattle.op_legal.specs.Records.{AreCounted, DrawsWord}
use Rattle.op_naming.proofs.Lists.{length_filter_map}
use Rattle.op_record.specs.Recordable.{IsWritable, FitsTypes}

counted : (history : List Entry) → length history < 2 ^ 31 → AreCounted history
counted history small = record {
  of_assets = let few = length_filter_map (λ (e : Entry). asset_added e.act) history in omega (arith, few, small);
  of_addresses = let few = length_filter_map (λ (e : Entry). address_added e.act) history in omega (arith, few, small);
  of_entries = omega (arith, small);
}

pub recorded : (history : List Entry) (e : Entry) → IsLegal history → IsNext history e → length history < 2 ^ 31 → DrawsWord e.act → IsWritable e × FitsTypes e
recorded history e legal next small draws = entries_have_records history e legal next (counted history small) draws
