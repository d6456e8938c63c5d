use Rattle.std.proofs.Common.{◌≡◌, List, map, take}
use Rattle.std.specs.List.{AllByRecursion}
use Rattle.op_legal.specs.Numbers.{ItemNamesMade}
use Rattle.op_model.specs.Shown.{item_shown}
use Rattle.op_model.specs.declared.act.Entry.{Entry}
use Rattle.op_naming.specs.Names.{AreNames}
use Rattle.op_grant_plans.proofs.shown.items_shown.Given as goal

abbrev pub invariant-loop-item : goal.invariant-loop-item
invariant-loop-item l =
    (history : List Entry) → AreNames history l.names → AllByRecursion (ItemNamesMade history) l.items → l.shown.items ≡ map (item_shown history) (take l.item-index l.items)
