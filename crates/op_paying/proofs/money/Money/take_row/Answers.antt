use Rattle.std.proofs.Common.{ℕ, List, Option, Some, ◌∙◌, sym, ap}
use Rattle.op_model.specs.Legal.{IsNext}
use Rattle.op_model.specs.Payments.{incoming_made}
use Rattle.op_model.specs.declared.act.Act.{Act}
use Rattle.op_model.specs.declared.act.Act.TheVariants as acts
use Rattle.op_model.specs.declared.row.IncomingRow.{IncomingRow}
use Rattle.op_paying.proofs.Acts.{with_act, makes_more}
use Rattle.op_paying.proofs.Facts.{incoming_fits}
use Rattle.op_paying.proofs.money.Money.take_row.Goals as goal

pub take_asset-requires-clause-is : goal.take_asset-requires-clause-is
take_asset-requires-clause-is c = (c.in-AssetAdded.code, c.in-AssetAdded.scale, c.in-AssetAdded.is)

pub take_address-requires-clause-is : goal.take_address-requires-clause-is
take_address-requires-clause-is c = (c.in-AddressAdded.path, c.in-AddressAdded.name, c.in-AddressAdded.is)

pub read_metadata-requires : goal.read_metadata-requires
read_metadata-requires c =
    let a = c.in-IncomingMade in
    let can = c.requires.can in
    (incoming_fits can.history c.args.entry.now.at a.grant a.address a.amount a.expiry a.metadata (with_act (IsNext can.history) c.args.entry.now (acts.IncomingMade a.grant a.address a.amount a.expiry a.metadata) a.is can.next)).formed

pub take_incoming-requires-clause-is : goal.take_incoming-requires-clause-is
take_incoming-requires-clause-is c =
    let a = c.in-IncomingMade in
    let t = c.args.entry.now.at in
    let row : Option (List ℕ) → IncomingRow = λ metadata. record { address = a.address; grant = a.grant; amount = a.amount; expiry = a.expiry; made = t; metadata = metadata } in
    ap (λ (act : Act). incoming_made t act) a.is ∙ ap (λ (metadata : Option (List ℕ)). Some (row metadata)) (sym c.in_ok-read_metadata-in-IncomingMade.ensures)

pub take_payment_row-requires-clause-makes : goal.take_payment_row-requires-clause-makes
take_payment_row-requires-clause-makes c =
    let d = c.in_default in
    makes_more c.args.entry.now.act c.requires.makes d.not-AssetAdded d.not-AddressAdded d.not-IncomingMade
