use Rattle.op_record.proofs.Digits.{whole_reads}
use Rattle.op_record.proofs.fields.number_at.Goals as goal

pub returns-then-number-limit-clause-gives : goal.returns-then-number-limit-clause-gives
returns-then-number-limit-clause-gives c =
    whole_reads c.args.limit c.args.width c.in-Some.number c.args.bytes.now c.in-Some.rest.now c.in-Some.ensures.0 c.if-number-limit.true c.in-Some.ensures.1
