use Rattle.op_record.proofs.Entries.{rest_fits, left_fits}
use Rattle.op_record.proofs.reading.read.Goals as goal

pub overflow_sub-result : goal.overflow_sub-result
overflow_sub-result c = rest_fits c.args.bytes.now c.in-Ok.entry c.in-Ok.rest.now c.in-Ok.ensures

pub overflow_sub-at : goal.overflow_sub-at
overflow_sub-at c = left_fits c.args.bytes.now c.in-Err-Fault-Bad.left (rw (c.in-Err-Fault-Bad.field-0-is, c.in-Err-Fault-Bad.field-0-0-is) at c.in-Err-Fault-Bad.ensures)
