use Rattle.std.proofs.Common.{◌∙◌, List, ap, Some, None}
use Rattle.op_model.specs.History.{nth}
use Rattle.op_naming.specs.declared.kept.TransferKept.{TransferKept}
use Rattle.op_naming.proofs.Numbers.{kept_transfer}
use Rattle.op_naming.proofs.names.Names.transfer.Goals as goal

pub returns-in-Some : goal.returns-in-Some
returns-in-Some c history is =
    c.transfer_at.ensures ∙ ap (λ (l : List TransferKept). nth l c.in-Some.number) c.deref.ensures.value
    ∙ kept_transfer history c.args.self.now.ids c.args.self.now.transfers.items c.args.id.now (Some c.in-Some.number) is.ids_are is.transfers_are c.in-Some.ensures

pub returns-in-None : goal.returns-in-None
returns-in-None c history is =
    kept_transfer history c.args.self.now.ids c.args.self.now.transfers.items c.args.id.now None is.ids_are is.transfers_are c.in-None.ensures
