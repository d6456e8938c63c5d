use Rattle.std.proofs.Common.{[], ◌∷◌}
use Rattle.op_record.specs.Fields.{number, text, optional}
use Rattle.op_record.proofs.Putting.{then, last, row_put}
use Rattle.op_record.proofs.writing.put_outgoing_direct.Goals as goal

pub returns : goal.returns
returns c =
    then _ _ _ _ _ c.put_u8.ensures (then _ _ _ _ _ c.put_u64.ensures (then _ _ _ _ _ c.put_u32.ensures
    (row_put (number 8) c.args.numbers.now (optional text c.args.metadata.now ∷ []) _ _ (then _ _ _ _ _ c.put_numbers.ensures (last _ _ _ c.put_some_text.ensures)))))
