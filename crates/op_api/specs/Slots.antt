-- The first item of each type.
use Rattle.std.specs.Prelude.{◌==◌, List, filter_map}
use Rattle.std.specs.declared.option.Option.{Option}
use Rattle.std.specs.List.{find}
use Rattle.op_model.specs.declared.request.AskedItem.{AskedItem}
use Rattle.op_api.specs.declared.access.Slots.{Slots}

abbrev pub first_of_each : List AskedItem → Slots
first_of_each items =
    record {
      incoming = find (λ item. item.kind == 1) items;
      quote = find (λ item. item.kind == 2) items;
      outgoing = find (λ item. item.kind == 3) items;
    }

-- the items that are there
abbrev pub in_slots : List (Option AskedItem) → List AskedItem
in_slots slots = filter_map (λ slot. slot) slots
