use Rattle.std.proofs.Common.{◌≡◌}
use Rattle.std.specs.Prelude.{◌==◌}
use Rattle.std.specs.List.{find}
use Rattle.std.specs.Option.{option_or}
use Rattle.op_api.proofs.access.first_of_each.Given as goal

abbrev pub invariant-loop-item : goal.invariant-loop-item
invariant-loop-item l =
    record {
      incoming : option_or l.slots.incoming (find (λ item. item.kind == 1) l.item-iterator.rest.items) ≡ find (λ item. item.kind == 1) l.fn.items.items;
      quote : option_or l.slots.quote (find (λ item. item.kind == 2) l.item-iterator.rest.items) ≡ find (λ item. item.kind == 2) l.fn.items.items;
      outgoing : option_or l.slots.outgoing (find (λ item. item.kind == 3) l.item-iterator.rest.items) ≡ find (λ item. item.kind == 3) l.fn.items.items;
    }
