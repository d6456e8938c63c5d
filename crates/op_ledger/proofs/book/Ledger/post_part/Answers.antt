use Rattle.std.proofs.Common.{◌≡◌, ◌≤◌, subst, sym, ◌∙◌, ap, arith}
use Rattle.std.specs.Option.{option_map_or}
use Rattle.op_model.specs.declared.act.Account.TheVariants.{Pool}
use Rattle.op_ledger.specs.Balances.{available_in, asset_in}
use Rattle.op_ledger.specs.Pieces.{CanMoveWithin, CanMoveBetween}
use Rattle.op_ledger.proofs.Posting.{can_move_within, can_move_between}
use Rattle.op_ledger.proofs.book.Ledger.post_part.Goals as goal

pub move_within-requires : goal.move_within-requires
move_within-requires c =
    let v = c.args.self.now in
    let p = c.args.piece.now in
    let source = c.balance-payer.result.asset in
    let payer_asset : asset_in v p.payer ≡ source = ap (λ o. option_map_or (λ b. b.asset) o 0) c.balance-payer.ensures.found in
    let payee_asset : asset_in v p.payee ≡ c.balance-target.result.asset = ap (λ o. option_map_or (λ b. b.asset) o 0) c.balance-target.ensures.found in
    subst (λ u. CanMoveWithin u source p) (sym c.void.ensures)
    (can_move_within v source p c.balance-payer.ensures.sound c.requires.payer c.requires.payee c.requires.fees c.requires.covered payer_asset (payee_asset ∙ sym c.if-source-target.true))

pub move_between-requires : goal.move_between-requires
move_between-requires c =
    let v = c.args.self.now in
    let p = c.args.piece.now in
    let source = c.balance-payer.result.asset in
    let target = c.balance-target.result.asset in
    let payer_asset : asset_in v p.payer ≡ source = ap (λ o. option_map_or (λ b. b.asset) o 0) c.balance-payer.ensures.found in
    let payee_asset : asset_in v p.payee ≡ target = ap (λ o. option_map_or (λ b. b.asset) o 0) c.balance-target.ensures.found in
    let liquid : p.delivered ≤ available_in v (Pool target) = omega arith in
    subst (λ u. CanMoveBetween u source target p) (sym c.void-2.ensures)
    (can_move_between v source target p c.balance-payer.ensures.sound c.requires.payer c.requires.payee c.requires.fees c.requires.pools c.requires.covered payer_asset payee_asset c.if-source-target.false liquid)
