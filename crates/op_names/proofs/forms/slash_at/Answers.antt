use Rattle.std.proofs.Common.{length, sym, arith}
use Rattle.std.proofs.lemmas.List.Sums.{position_or_len_is}
use Rattle.op_names.specs.Forms.{is_slash}
use Rattle.op_names.proofs.forms.slash_at.Goals as goal

pub returns-then-is_slash-clause-value : goal.returns-then-is_slash-clause-value
returns-then-is_slash-clause-value c =
    sym (position_or_len_is is_slash c.args.text.now c.loop-i.i 0 (omega arith) c.loop-i.invariant (λ within. sym c.if-is_slash.ensures))

pub returns-clause-value : goal.returns-clause-value
returns-clause-value c =
    sym (position_or_len_is is_slash c.args.text.now (length c.args.text.now) 0 (omega arith) (λ k h. c.loop-i.invariant k (omega arith)) (λ within. absurd (omega arith)))
