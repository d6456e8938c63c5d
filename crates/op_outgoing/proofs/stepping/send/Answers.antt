use Rattle.std.proofs.Common.{◌≡◌, ℕ, ◌-◌, false, true, refl, sym, subst, ap, ◌∙◌, IsTrue}
use Rattle.op_ledger.specs.Balances.{is_there, asset_in, available_in}
use Rattle.op_ledger.specs.Pieces.{lacks_liquidity, with_piece}
use Rattle.op_model.specs.declared.act.Account.TheVariants.{Fees, Pool, Wallet}
use Rattle.op_ledger.specs.declared.values.LedgerFault.TheVariants.{Short}
use Rattle.op_model.specs.declared.reply.Shortage.TheVariants.{NoLiquidity}
use Rattle.op_model.specs.declared.reply.StepAnswer.TheVariants.{Waiting}
use Rattle.op_outgoing.specs.Pieces.{next_delivered, next_piece}
use Rattle.op_outgoing.specs.Held.{HoldsAlike}
use Rattle.op_outgoing.specs.Steps.{stepped_row}
use Rattle.op_model.specs.declared.act.FailReason.TheVariants.{ReceiverClosed}
use Rattle.op_outgoing.proofs.Sending.{fees_there, sending_goes, payer_there, sending_waits, sent_ledger, sent_row, not_lacking}
use Rattle.op_outgoing.proofs.Holding.{alike_sent}
use Rattle.op_outgoing.proofs.stepping.send.Goals as goal

available_is : (a b : ℕ) → Short a ≡ Short b → a ≡ b
available_is a b h = cc

pub post_part-requires-clause-fees : goal.post_part-requires-clause-fees
post_part-requires-clause-fees c =
    subst (λ piece. IsTrue (is_there c.args.ledger.now (Fees (asset_in c.args.ledger.now piece.payer)))) (sym c.next_piece-piece.ensures.value) (fees_there c.args.ledger.now c.args.row.now c.requires.accounts)

pub returns-in-Ok-clause-answer : goal.returns-in-Ok-clause-answer
returns-in-Ok-clause-answer c =
    let ledger = c.args.ledger.now in
    let row = c.args.row.now in
    let may = sym c.is_open.ensures ∙ c.if-not-is_open.false in
    let lacks : lacks_liquidity ledger c.next_piece-piece.result ≡ false = not_lacking (lacks_liquidity ledger c.next_piece-piece.result) (λ is. let no : false ≡ true = c.in-Ok.ensures.short.1 is in cc) in
    c.sent.ensures.answer ∙ sym (sending_goes ledger c.args.incomings.now row c.args.t may (ap (lacks_liquidity ledger) (sym c.next_piece-piece.ensures.value) ∙ lacks))

pub returns-in-Ok-clause-money : goal.returns-in-Ok-clause-money
returns-in-Ok-clause-money c =
    let ledger = c.args.ledger.now in
    c.in-Ok.ensures.ok ∙ ap (with_piece ledger) c.next_piece-piece.ensures.value ∙ sym (sent_ledger ledger c.args.row.now c.sent.result.answer c.sent.ensures.answer)

pub returns-in-Err-Short-clause-answer : goal.returns-in-Err-Short-clause-answer
returns-in-Err-Short-clause-answer c =
    let ledger = c.args.ledger.now in
    let row = c.args.row.now in
    let may = sym c.is_open.ensures ∙ c.if-not-is_open.false in
    let lacks = ap (lacks_liquidity ledger) (sym c.next_piece-piece.ensures.value) ∙ c.in-Err-Short.ensures.short.0 refl in
    let there : c.in-Err-Short.available ≡ available_in ledger (Pool (asset_in ledger (Wallet row.terms.payee))) = available_is _ _ (sym c.in-Err-Short.field-0-is ∙ c.in-Err-Short.ensures.err.0) ∙ ap (λ piece. available_in ledger (Pool (asset_in ledger piece.payee))) c.next_piece-piece.ensures.value in
    c.unchanged.ensures.answer ∙ ap (λ need. Waiting (NoLiquidity c.in-Err-Short.available need)) (ap (λ piece. piece.delivered) c.next_piece-piece.ensures.value)
    ∙ ap (λ available. Waiting (NoLiquidity available (next_delivered row - row.delivered))) there
    ∙ sym (sending_waits ledger c.args.incomings.now row c.args.t may lacks)

pub returns-then-not-is_open-clause-held : goal.returns-then-not-is_open-clause-held
returns-then-not-is_open-clause-held c =
    subst (λ answer. HoldsAlike c.args.row.now (stepped_row answer c.args.row.now) c.args.ledger.now c.void_rest.new.ledger) (sym c.failing.ensures.answer) (c.void_rest.ensures.held ReceiverClosed)

pub returns-in-Ok-clause-held : goal.returns-in-Ok-clause-held
returns-in-Ok-clause-held c =
    let ledger = c.args.ledger.now in
    let row = c.args.row.now in
    let after : c.post_part.new.self ≡ with_piece ledger (next_piece row) = c.in-Ok.ensures.ok ∙ ap (with_piece ledger) c.next_piece-piece.ensures.value in
    let new = sent_row row c.sent.result.answer c.sent.ensures.answer in
    let alike = alike_sent ledger row c.requires.sound c.requires.sending (payer_there ledger row c.requires.accounts) c.requires.covered in
    subst (λ l. HoldsAlike row (stepped_row c.sent.result.answer row) ledger l) (sym after) (subst (λ r. HoldsAlike row r ledger (with_piece ledger (next_piece row))) (sym new) alike)
