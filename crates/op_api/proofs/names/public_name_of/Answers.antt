use Rattle.std.proofs.Common.{sym}
use Rattle.serde_json.specs.View.{view}
use Rattle.op_api.proofs.PublicNames.{public_name}
use Rattle.op_api.proofs.names.public_name_of.Goals as goal

pub returns-in_ok-text_of-in-Some : goal.returns-in_ok-text_of-in-Some
returns-in_ok-text_of-in-Some c =
    rw (c.in_ok-text_of-in-Some.ensures, c.as_bytes.ensures.value)
    (sym (public_name (view c.args.value.now) c.in-Some.text.now (sym c.in-Some.ensures) (rw c.as_bytes.ensures.value at c.as_bytes.ensures.utf8) c.if-text-le-PUBLIC_NAME_LIMIT.true))
