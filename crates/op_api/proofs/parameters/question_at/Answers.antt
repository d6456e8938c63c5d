use Rattle.std.proofs.Common.{length, get_or, eq-eqb, sym, arith}
use Rattle.std.proofs.lemmas.List.Sums.{position_or_len_is}
use Rattle.op_model.specs.RouteTable.{is_question}
use Rattle.op_api.proofs.parameters.question_at.Goals as goal

pub returns-clause-value : goal.returns-clause-value
returns-clause-value c =
    sym (position_or_len_is is_question c.args.target.now (length c.args.target.now) 0 (omega arith) (λ k h. c.loop-i.invariant k (omega arith)) (λ within. absurd (omega arith)))

pub returns-then-b-eq63-clause-value : goal.returns-then-b-eq63-clause-value
returns-then-b-eq63-clause-value c =
    sym (position_or_len_is is_question c.args.target.now c.loop-i.i 0 (omega arith) c.loop-i.invariant (λ within. eq-eqb (get_or c.args.target.now c.loop-i.i 0) 63 c.if-b-eq63.true))
