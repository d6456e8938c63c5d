use Rattle.op_record.proofs.Putting.{then}
use Rattle.op_record.proofs.Pieces.{empty_body}
use Rattle.op_record.proofs.packed_bytes.put_empty_round.Goals as goal

pub returns-clause-put : goal.returns-clause-put
returns-clause-put c = empty_body c.args.at _ _ (then _ _ _ _ _ c.put_u32.ensures (then _ _ _ _ _ c.put_u8.ensures (then _ _ _ _ _ (rw c.ms.ensures.value at c.put_u64.ensures) c.put_u8-2.ensures)))
