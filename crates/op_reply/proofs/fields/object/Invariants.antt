use Rattle.std.proofs.Common.{◌≡◌, take, false}
use Rattle.serde_json.specs.View.{members_view}
use Rattle.serde_json.specs.Written.{members_have_float}
use Rattle.op_reply.specs.Fields.{members_data}
use Rattle.op_reply.proofs.fields.object.Given as goal

abbrev pub invariant-loop-member : goal.invariant-loop-member
invariant-loop-member l = (members_view l.map.entries ≡ members_data (take l.member-index l.members)) × (members_have_float (members_view l.map.entries) ≡ false)
