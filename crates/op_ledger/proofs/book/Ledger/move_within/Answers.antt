use Rattle.std.proofs.Common.{◌≡◌, ◌≤◌, subst, sym, ◌∙◌, ap, arith}
use Rattle.std.specs.Prelude.{IsTrue, ◌&&◌, not}
use Rattle.op_model.specs.declared.act.Account.TheVariants.{Fees}
use Rattle.op_ledger.specs.Balances.{available_in, asset_in, is_there, is_outside, moved, transfer_legs}
use Rattle.op_ledger.proofs.AccountTests.{left_of, not_of}
use Rattle.op_ledger.proofs.Transfers.{stays_there, same_asset, available_source, within_is}
use Rattle.op_ledger.proofs.book.Ledger.move_within.Goals as goal

pub transfer-requires-2-clause-source : goal.transfer-requires-2-clause-source
transfer-requires-2-clause-source c =
    let p = c.args.piece.now in
    subst (λ u. IsTrue (is_there u p.payer && not (is_outside p.payer))) (sym c.transfer.ensures)
    (stays_there c.args.self.now (transfer_legs p.payer (Fees c.args.asset) p.fee) p.payer c.requires.payer)

pub transfer-requires-2-clause-target : goal.transfer-requires-2-clause-target
transfer-requires-2-clause-target c =
    let p = c.args.piece.now in
    subst (λ u. IsTrue (is_there u p.payee && not (is_outside p.payee))) (sym c.transfer.ensures)
    (stays_there c.args.self.now (transfer_legs p.payer (Fees c.args.asset) p.fee) p.payee c.requires.payee)

pub transfer-requires-2-clause-one_asset : goal.transfer-requires-2-clause-one_asset
transfer-requires-2-clause-one_asset c =
    let p = c.args.piece.now in
    subst (λ u. asset_in u p.payer ≡ asset_in u p.payee) (sym c.transfer.ensures)
    (same_asset c.args.self.now (transfer_legs p.payer (Fees c.args.asset) p.fee) p.payer p.payee c.args.asset c.requires.payer_asset c.requires.payee_asset)

pub transfer-requires-2-clause-covered : goal.transfer-requires-2-clause-covered
transfer-requires-2-clause-covered c =
    let v = c.args.self.now in
    let p = c.args.piece.now in
    subst (λ u. p.sent ≤ available_in u p.payer) (sym c.transfer.ensures)
    (available_source v p.payer (Fees c.args.asset) p.fee p.sent (left_of (is_there v p.payer) _ c.requires.payer) (not_of (is_there v p.payer) (is_outside p.payer) c.requires.payer) c.requires.covered)

pub returns : goal.returns
returns c =
    let v = c.args.self.now in
    let p = c.args.piece.now in
    c.transfer-2.ensures
    ∙ ap (λ u. moved u (transfer_legs p.payer p.payee p.sent)) c.transfer.ensures
    ∙ within_is v c.args.asset p c.requires.distinct (left_of (is_there v p.payer) _ c.requires.payer) (omega (arith, c.requires.covered))
