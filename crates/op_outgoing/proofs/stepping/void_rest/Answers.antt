use Rattle.std.proofs.Common.{◌≡◌, ◌-◌, sym, subst, ap, ◌∙◌}
use Rattle.op_ledger.specs.Balances.{holding}
use Rattle.op_model.specs.Payments.{left_to_post}
use Rattle.op_model.specs.declared.act.Account.TheVariants.{Wallet}
use Rattle.op_outgoing.specs.Held.{HoldsAlike}
use Rattle.op_outgoing.specs.Steps.{ended_as}
use Rattle.op_outgoing.proofs.Holding.{alike_failed}
use Rattle.op_outgoing.proofs.stepping.void_rest.Goals as goal

pub returns-in-Sending-clause-held : goal.returns-in-Sending-clause-held
returns-in-Sending-clause-held c =
    let ledger = c.args.ledger.now in
    let row = c.args.row.now in
    let payer = Wallet row.terms.payer in
    let after : c.void.new.self ≡ holding ledger payer (λ h. h - left_to_post row) = c.void.ensures ∙ ap (λ n. holding ledger payer (λ h. h - n)) c.left_to_post.ensures in
    λ reason. subst (λ l. HoldsAlike row (ended_as reason row) ledger l) (sym after) (alike_failed ledger row reason c.in-Sending.is c.requires.payer c.requires.covered)
