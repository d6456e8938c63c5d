use Rattle.std.proofs.Common.{◌≡◌, ℕ, ◌+◌, ◌∷◌, ◌++◌, [], List, length, refl, ◌∙◌, ap, subst, arith}
use Rattle.op_model.specs.History.{assets}
use Rattle.op_model.specs.Legal.{IsNext}
use Rattle.op_model.specs.declared.act.Act.TheVariants as acts
use Rattle.op_model.specs.declared.act.Entry.{Entry}
use Rattle.op_paying.specs.Ledgers.{AreOpen}
use Rattle.op_paying.specs.Money.{IsMoneyOf}
use Rattle.op_paying.specs.declared.money.Money.{Money}
use Rattle.op_paying.proofs.Acts.{with_act, of_act}
use Rattle.op_paying.proofs.AccountMoney.{asset_money}
use Rattle.op_paying.proofs.Kept.{count_pieces}
use Rattle.op_paying.proofs.Opening.{on_err}
use Rattle.op_paying.proofs.money.Money.take_asset.Goals as goal

pub returns-in_err-open_asset-clause-err : goal.returns-in_err-open_asset-clause-err
returns-in_err-open_asset-clause-err c =
    on_err c.from_residual-in_err-open_asset.result _
    (λ history is. record {
      legal = is.legal;
      stands = c.open_asset.ensures.stands history is.stands;
      received = is.received;
      payments_are = is.payments_are;
      quotes_are = is.quotes_are;
      pieces_are = c.reserve.ensures.items ∙ is.pieces_are;
      counted = is.counted;
    })

pub returns-clause-ok : goal.returns-clause-ok
returns-clause-ok c history is next =
    let old = c.args.self.now in
    let e = c.args.entry.now in
    let code = c.requires.is.0 in
    let scale = c.requires.is.1 in
    let pieces = c.args.pieces in
    let act = acts.AssetAdded code scale pieces in
    let ledger = c.open_asset.new.ledger in
    let new : Money = record { ledger = ledger; incomings = old.incomings; outgoings = old.outgoings; pieces = c.push_reserved.new.self; addresses = old.addresses } in
    let counted : length old.pieces.items ≡ length (assets history) = ap (λ (l : List ℕ). length l) is.pieces_are ∙ count_pieces (assets history) in
    let open_now : AreOpen ledger (1 + length (assets history)) = subst (AreOpen ledger) (omega (arith, c.len.ensures, c.reserve.ensures.len, old.pieces.ok.0, counted)) c.in_ok-open_asset.ensures.ok in
    of_act (λ (x : Entry). IsMoneyOf (history ++ x ∷ []) new) e act c.requires.is.2
    (asset_money history e.at code scale pieces old new ledger is (with_act (IsNext history) e act c.requires.is.2 next) (c.open_asset.ensures.stands history is.stands) open_now refl
    (record { incomings_are = refl; outgoings_are = refl }) (c.push_reserved.ensures.items ∙ ap (λ l. l ++ pieces ∷ []) c.reserve.ensures.items) refl)
