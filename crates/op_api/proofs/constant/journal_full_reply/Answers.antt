use Rattle.std.proofs.Common.{codes, refl}
use Rattle.json.specs.Print.{escape_byte}
use Rattle.op_model.specs.Printed.{error}
use Rattle.op_api.proofs.ConstantReplies.{size_33, said_of}
use Rattle.op_api.proofs.constant.journal_full_reply.Goals as goal

pub returns : goal.returns
unfolding escape_byte
returns c origin =
    said_of (codes "507 Insufficient Storage") (codes "33") (codes "{\"error\":{\"code\":\"journal_full\"}}") (error (codes "journal_full")) refl (size_33 (codes "{\"error\":{\"code\":\"journal_full\"}}") refl)
