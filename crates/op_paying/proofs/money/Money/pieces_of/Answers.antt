use Rattle.std.proofs.Common.{◌≤◌, ◌∙◌, sym, subst, ap}
use Rattle.op_model.specs.History.{nth, address_asset}
use Rattle.op_paying.proofs.Kept.{pieces_there, pieces_none}
use Rattle.op_paying.proofs.Prices.{has_pieces}
use Rattle.op_paying.proofs.money.Money.pieces_of.Goals as goal

pub returns-in-Some-clause-value : goal.returns-in-Some-clause-value
returns-in-Some-clause-value c history is =
    let kept = c.args.self.now.pieces.items in
    c.from.ensures
    ∙ pieces_there history c.args.self.now c.args.address _ is (ap (nth kept) (sym c.asset_of.ensures) ∙ sym c.pieces_at.ensures ∙ c.in-Some.is)

pub returns-in-Some-clause-some : goal.returns-in-Some-clause-some
returns-in-Some-clause-some c =
    let history = c.requires.0 in
    let is = c.requires.1 in
    let kept = c.args.self.now.pieces.items in
    let value = c.from.ensures ∙ pieces_there history c.args.self.now c.args.address _ is (ap (nth kept) (sym c.asset_of.ensures) ∙ sym c.pieces_at.ensures ∙ c.in-Some.is) in
    subst (λ n. 1 ≤ n) (sym value) (has_pieces history (address_asset history c.args.address) is.legal)

pub returns-in-None-clause-value : goal.returns-in-None-clause-value
returns-in-None-clause-value c history is =
    let kept = c.args.self.now.pieces.items in
    pieces_none history c.args.self.now c.args.address is (ap (nth kept) (sym c.asset_of.ensures) ∙ sym c.pieces_at.ensures ∙ c.in-None.is)
