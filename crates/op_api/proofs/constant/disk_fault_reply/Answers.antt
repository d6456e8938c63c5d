use Rattle.std.proofs.Common.{codes, refl}
use Rattle.json.specs.Print.{escape_byte}
use Rattle.op_model.specs.Printed.{error}
use Rattle.op_api.proofs.ConstantReplies.{size_31, said_of}
use Rattle.op_api.proofs.constant.disk_fault_reply.Goals as goal

pub returns : goal.returns
unfolding escape_byte
returns c origin =
    said_of (codes "503 Service Unavailable") (codes "31") (codes "{\"error\":{\"code\":\"disk_fault\"}}") (error (codes "disk_fault")) refl (size_31 (codes "{\"error\":{\"code\":\"disk_fault\"}}") refl)
