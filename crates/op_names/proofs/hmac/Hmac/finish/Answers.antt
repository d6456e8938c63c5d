use Rattle.std.proofs.Common.{◌++◌, ◌∙◌, ap}
use Rattle.sha2.specs.Sha256.{sha256}
use Rattle.op_names.specs.Hmac.{key_block, masked, hmac}
use Rattle.op_names.proofs.hmac.Hmac.finish.Goals as goal

pub returns : goal.returns
unfolding hmac
returns c key message h =
    c.finalize.ensures _ (c.update.ensures _ h.1) ∙ ap (λ d. sha256 (masked 0x5c (key_block key) ++ d)) (c.finalize-digest.ensures _ h.0)
