use Rattle.op_record.proofs.Putting.{then}
use Rattle.op_record.proofs.writing.put_quote_made.Goals as goal

pub returns : goal.returns
returns c = then _ _ _ _ _ c.put_u8.ensures (then _ _ _ _ _ c.put_u64.ensures (then _ _ _ _ _ c.put_u32.ensures (then _ _ _ _ _ c.put_u64-2.ensures (then _ _ _ _ _ (rw c.mode_number-mode.ensures at c.put_u8-2.ensures) c.put_numbers.ensures))))
