use Rattle.std.proofs.Common.{◌∙◌, ℕ, Option, ap}
use Rattle.std.specs.Prelude.{unwrap_or}
use Rattle.op_paying.proofs.BalanceAnswers.{pieces_are_kept}
use Rattle.op_paying.proofs.money.Money.pieces.Goals as goal

pub returns : goal.returns
returns c history is =
    c.unwrap_or.ensures ∙ ap (λ (o : Option ℕ). unwrap_or o 1) c.kept_pieces.ensures ∙ pieces_are_kept history c.args.self.now c.args.asset is
