use Rattle.std.proofs.Common.{◌≡◌, ◌≤◌, false, refl, subst, sym, ◌∙◌, ap, arith}
use Rattle.std.specs.Prelude.{IsTrue, ◌&&◌, not}
use Rattle.op_model.specs.Balances.{is_same_account}
use Rattle.op_model.specs.declared.act.Account.TheVariants.{Fees, Pool}
use Rattle.op_ledger.specs.Balances.{available_in, asset_in, is_there, is_outside, moved, transfer_legs}
use Rattle.op_ledger.proofs.AccountTests.{left_of, not_of, with_inside}
use Rattle.op_ledger.proofs.Transfers.{stays_there, same_asset, there-moved, asset-moved, available_source, available_other, apart_assets, between_is}
use Rattle.op_ledger.proofs.book.Ledger.move_between.Goals as goal

pub transfer-requires-2-clause-source : goal.transfer-requires-2-clause-source
transfer-requires-2-clause-source c =
    let p = c.args.piece.now in
    subst (λ u. IsTrue (is_there u p.payer && not (is_outside p.payer))) (sym c.transfer.ensures)
    (stays_there c.args.self.now (transfer_legs p.payer (Fees c.args.source) p.fee) p.payer c.requires.payer)

pub transfer-requires-2-clause-target : goal.transfer-requires-2-clause-target
transfer-requires-2-clause-target c =
    let p = c.args.piece.now in
    subst (λ u. IsTrue (is_there u (Pool c.args.source) && not (is_outside (Pool c.args.source)))) (sym c.transfer.ensures)
    (stays_there c.args.self.now (transfer_legs p.payer (Fees c.args.source) p.fee) (Pool c.args.source) (with_inside _ c.requires.source_pool))

pub transfer-requires-2-clause-one_asset : goal.transfer-requires-2-clause-one_asset
transfer-requires-2-clause-one_asset c =
    let p = c.args.piece.now in
    subst (λ u. asset_in u p.payer ≡ asset_in u (Pool c.args.source)) (sym c.transfer.ensures)
    (same_asset c.args.self.now (transfer_legs p.payer (Fees c.args.source) p.fee) p.payer (Pool c.args.source) c.args.source c.requires.payer_asset c.requires.source_pool_asset)

pub transfer-requires-2-clause-covered : goal.transfer-requires-2-clause-covered
transfer-requires-2-clause-covered c =
    let v = c.args.self.now in
    let p = c.args.piece.now in
    subst (λ u. p.sent ≤ available_in u p.payer) (sym c.transfer.ensures)
    (available_source v p.payer (Fees c.args.source) p.fee p.sent (left_of (is_there v p.payer) _ c.requires.payer) (not_of (is_there v p.payer) (is_outside p.payer) c.requires.payer) c.requires.covered)

pub transfer-requires-3-clause-source : goal.transfer-requires-3-clause-source
transfer-requires-3-clause-source c =
    let v = c.args.self.now in
    let p = c.args.piece.now in
    let fee = transfer_legs p.payer (Fees c.args.source) p.fee in
    let pay = transfer_legs p.payer (Pool c.args.source) p.sent in
    let after : c.transfer-2.new.self ≡ moved (moved v fee) pay = c.transfer-2.ensures ∙ ap (λ u. moved u pay) c.transfer.ensures in
    subst (λ u. IsTrue (is_there u (Pool c.args.target) && not (is_outside (Pool c.args.target)))) (sym after)
    (stays_there (moved v fee) pay (Pool c.args.target) (stays_there v fee (Pool c.args.target) (with_inside _ c.requires.target_pool)))

pub transfer-requires-3-clause-target : goal.transfer-requires-3-clause-target
transfer-requires-3-clause-target c =
    let v = c.args.self.now in
    let p = c.args.piece.now in
    let fee = transfer_legs p.payer (Fees c.args.source) p.fee in
    let pay = transfer_legs p.payer (Pool c.args.source) p.sent in
    let after : c.transfer-2.new.self ≡ moved (moved v fee) pay = c.transfer-2.ensures ∙ ap (λ u. moved u pay) c.transfer.ensures in
    subst (λ u. IsTrue (is_there u p.payee && not (is_outside p.payee))) (sym after)
    (stays_there (moved v fee) pay p.payee (stays_there v fee p.payee c.requires.payee))

pub transfer-requires-3-clause-one_asset : goal.transfer-requires-3-clause-one_asset
transfer-requires-3-clause-one_asset c =
    let v = c.args.self.now in
    let p = c.args.piece.now in
    let fee = transfer_legs p.payer (Fees c.args.source) p.fee in
    let pay = transfer_legs p.payer (Pool c.args.source) p.sent in
    let after : c.transfer-2.new.self ≡ moved (moved v fee) pay = c.transfer-2.ensures ∙ ap (λ u. moved u pay) c.transfer.ensures in
    subst (λ u. asset_in u (Pool c.args.target) ≡ asset_in u p.payee) (sym after)
    (same_asset (moved v fee) pay (Pool c.args.target) p.payee c.args.target (asset-moved v fee (Pool c.args.target) ∙ c.requires.target_pool_asset) (asset-moved v fee p.payee ∙ c.requires.payee_asset))

pub transfer-requires-3-clause-covered : goal.transfer-requires-3-clause-covered
transfer-requires-3-clause-covered c =
    let v = c.args.self.now in
    let p = c.args.piece.now in
    let pool = Pool c.args.target in
    let fee = transfer_legs p.payer (Fees c.args.source) p.fee in
    let pay = transfer_legs p.payer (Pool c.args.source) p.sent in
    let after : c.transfer-2.new.self ≡ moved (moved v fee) pay = c.transfer-2.ensures ∙ ap (λ u. moved u pay) c.transfer.ensures in
    let apart : is_same_account p.payer pool ≡ false = apart_assets v p.payer pool (λ e. c.requires.two_assets (sym c.requires.payer_asset ∙ e ∙ c.requires.target_pool_asset)) in
    subst (λ u. p.delivered ≤ available_in u pool) (sym after)
    (omega (
      arith,
      c.requires.liquid,
      available_other v p.payer (Fees c.args.source) pool p.fee c.requires.target_pool refl apart,
      available_other (moved v fee) p.payer (Pool c.args.source) pool p.sent (there-moved v fee pool ∙ c.requires.target_pool) refl apart,
    ))

pub returns : goal.returns
returns c =
    let v = c.args.self.now in
    let p = c.args.piece.now in
    let fee = transfer_legs p.payer (Fees c.args.source) p.fee in
    let pay = transfer_legs p.payer (Pool c.args.source) p.sent in
    let give = transfer_legs (Pool c.args.target) p.payee p.delivered in
    c.transfer-3.ensures
    ∙ ap (λ u. moved u give) (c.transfer-2.ensures ∙ ap (λ u. moved u pay) c.transfer.ensures)
    ∙ between_is v c.args.source c.args.target p c.requires.distinct (left_of (is_there v p.payer) _ c.requires.payer) (omega (arith, c.requires.covered))
