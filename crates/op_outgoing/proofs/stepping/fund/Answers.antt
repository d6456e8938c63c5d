use Rattle.std.proofs.Common.{sym, subst}
use Rattle.op_outgoing.specs.Held.{HoldsAlike}
use Rattle.op_outgoing.specs.Steps.{funded_row}
use Rattle.op_outgoing.proofs.Holding.{alike_funded}
use Rattle.op_outgoing.proofs.stepping.fund.Goals as goal

pub returns-in-Ok-clause-held : goal.returns-in-Ok-clause-held
returns-in-Ok-clause-held c =
    let ledger = c.args.ledger.now in
    let row = c.args.row.now in
    subst (λ after. HoldsAlike row (funded_row row) ledger after) (sym c.in-Ok.ensures.ok) (alike_funded ledger row c.requires.sound c.requires.funding c.requires.payer)
