use Rattle.std.proofs.Common.{◌++◌, drop, length, replicate, ap, ◌∙◌}
use Rattle.op_names.proofs.Blocks.{block_of_short}
use Rattle.op_names.proofs.hmac.key_block.Goals as goal

pub returns-else-key-gt-BLOCK : goal.returns-else-key-gt-BLOCK
returns-else-key-gt-BLOCK c =
    let key = c.args.key.now in
    ap (λ s. s ++ drop (length key) (replicate 64 0)) c.copy_from_slice-else-key-gt-BLOCK.ensures.after ∙ block_of_short key c.if-key-gt-BLOCK.false
