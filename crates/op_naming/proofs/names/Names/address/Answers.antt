use Rattle.std.proofs.Common.{◌∙◌, List, ap}
use Rattle.op_model.specs.History.{nth, addresses}
use Rattle.op_naming.specs.Kept.{address_kept}
use Rattle.op_naming.specs.declared.kept.AddressKept.{AddressKept}
use Rattle.op_naming.proofs.Lists.{nth_mapped}
use Rattle.op_naming.proofs.names.Names.address.Goals as goal

pub returns : goal.returns
returns c history is =
    c.address_at.ensures ∙ ap (λ (l : List AddressKept). nth l c.args.number) (c.deref.ensures.value ∙ is.addresses_are)
    ∙ nth_mapped address_kept (addresses history) c.args.number
