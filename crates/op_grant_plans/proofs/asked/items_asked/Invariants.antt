use Rattle.std.proofs.Common.{◌≡◌, List, map, take}
use Rattle.op_model.specs.GrantAnswers.{item_asked}
use Rattle.op_model.specs.declared.act.Entry.{Entry}
use Rattle.op_naming.specs.Names.{AreNames}
use Rattle.op_grant_plans.proofs.asked.items_asked.Given as goal

abbrev pub invariant-loop-item : goal.invariant-loop-item
invariant-loop-item l = (history : List Entry) → AreNames history l.names → l.made.items ≡ map (item_asked history) (take l.item-index l.items)
