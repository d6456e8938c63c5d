use Rattle.std.proofs.Common.{◌∙◌}
use Rattle.op_laws.proofs.Placed.{all_placed}
use Rattle.op_money_plans.proofs.TransferPlans.{stands_where, stands_nowhere}
use Rattle.op_money_plans.proofs.transfers.stands_in.Goals as goal

pub returns-in-Some : goal.returns-in-Some
returns-in-Some c history names_are is has =
    c.is_same.ensures
    ∙ stands_where history c.args.account c.args.asset.now c.asset_of.result c.in-Some.kept (c.asset_of.ensures history is) (c.in-Some.ensures history names_are)

pub returns-in-None : goal.returns-in-None
returns-in-None c history names_are is has =
    absurd (stands_nowhere history c.args.account c.asset_of.result c.asset.result (all_placed history is.legal) has (c.asset_of.ensures history is) (c.asset.ensures history names_are) c.in-None.is)
