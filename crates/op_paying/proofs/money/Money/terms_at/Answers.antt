use Rattle.std.proofs.Common.{ℕ, ◌∙◌, ap}
use Rattle.op_amount.specs.Rates.{ceil_div}
use Rattle.op_amount.proofs.Ceilings.{div_ceil_is}
use Rattle.op_model.specs.Payments.{payee_of}
use Rattle.op_model.specs.declared.row.Terms.{Terms}
use Rattle.op_paying.proofs.money.Money.terms_at.Goals as goal

pub returns : goal.returns
returns c history is =
    let price = c.args.price in
    let terms : ℕ → ℕ → Terms = λ payee piece. record {
      payer = c.args.parties.address;
      payee = payee;
      incoming = c.args.parties.incoming;
      debit = price.debit;
      source = price.source;
      fee = price.fee;
      receive = price.receive;
      num = price.num;
      den = price.den;
      piece = piece;
    } in
    let rounded = div_ceil_is price.source c.pieces_of.result c.pieces_of.ensures.some in
    ap (λ n. terms n c.div_ceil.result) (c.payee_of.ensures history is)
    ∙ ap (terms (payee_of history c.args.parties.incoming)) (c.div_ceil.ensures ∙ rounded ∙ ap (ceil_div price.source) (c.pieces_of.ensures.value history is))
