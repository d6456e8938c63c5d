use Rattle.std.proofs.Common.{length, get_or, eq-eqb, sym, arith}
use Rattle.std.proofs.lemmas.List.Sums.{position_or_len_is}
use Rattle.op_names.specs.Forms.{is_slash}
use Rattle.op_http.proofs.route.slash_at.Goals as goal

pub returns-clause-value : goal.returns-clause-value
returns-clause-value c =
    sym (position_or_len_is is_slash c.args.text.now (length c.args.text.now) 0 (omega arith) (λ k h. c.loop-i.invariant k (omega arith)) (λ within. absurd (omega arith)))

pub returns-then-b-eq47-clause-value : goal.returns-then-b-eq47-clause-value
returns-then-b-eq47-clause-value c =
    sym (position_or_len_is is_slash c.args.text.now c.loop-i.i 0 (omega arith) c.loop-i.invariant (λ within. eq-eqb (get_or c.args.text.now c.loop-i.i 0) 47 c.if-b-eq47.true))
