-- The parts of a wallet that a plan reads are those of a history.
use Rattle.std.specs.Prelude.{List}
use Rattle.op_granting.specs.Keeping.{IsGrantsOf}
use Rattle.op_model.specs.declared.act.Entry.{Entry}
use Rattle.op_naming.specs.Names.{AreNames}
use Rattle.op_paying.specs.Money.{IsMoneyOf}
use Rattle.op_token_plans.specs.declared.parts.Parts.{Parts}

pub record ArePartsOf (history : List Entry) (parts : Parts) : Type 0 where
  pub names_are : AreNames history parts.names.now
  pub money_is : IsMoneyOf history parts.money.now
  pub grants_are : IsGrantsOf history parts.grants.now
