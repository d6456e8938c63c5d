use Rattle.std.proofs.Common.{◌≡◌, ap, sym, ◌∙◌}
use Rattle.std.specs.Prelude.{Err}
use Rattle.op_desk.specs.Faults.{of_wallet}
use Rattle.op_desk.specs.declared.fault.DeskFault.TheVariants.{Illegal}
use Rattle.op_desk.proofs.Payloads.{stops_here, illegal_from}
use Rattle.op_desk.proofs.payload.load_entries.Goals as goal

pub returns-in-Err-clause-illegal : goal.returns-in-Err-clause-illegal
returns-in-Err-clause-illegal c place is =
    let inv = c.loop-entry.invariant in
    let fault : of_wallet c.in-Err.fault ≡ Illegal place = sym c.from.ensures ∙ (cc) in
    let no = c.in-Err.ensures.illegal place (ap Err (illegal_from c.in-Err.fault place fault)) in
    stops_here c.args.wallet.now.history c.args.entries.now c.loop-entry.wallet.history c.loop-entry.entry-index place c.entry-item.result c.loop-entry-test.true c.entry-item.is inv.grown inv.sound no.1 no.0
