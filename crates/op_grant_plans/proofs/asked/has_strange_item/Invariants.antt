use Rattle.std.proofs.Common.{◌≡◌, false, List, length, take}
use Rattle.std.specs.List.{list_any}
use Rattle.op_model.specs.GrantAnswers.{is_strange_item}
use Rattle.op_model.specs.Payments.{incomings}
use Rattle.op_model.specs.declared.act.Entry.{Entry}
use Rattle.op_naming.specs.Names.{AreNames}
use Rattle.op_grant_plans.proofs.asked.has_strange_item.Given as goal

abbrev pub invariant-loop-item : goal.invariant-loop-item
invariant-loop-item l =
    (history : List Entry) → AreNames history l.names → l.incomings ≡ length (incomings history) → list_any (is_strange_item history) (take l.item-index l.items) ≡ false
