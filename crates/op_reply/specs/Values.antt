-- JSON values (RFC 8259) with one printed form.
use Rattle.serde_json.specs.Data.{Data}
use Rattle.serde_json.specs.View.{view}
use Rattle.op_reply.specs.declared.values.Json.{Json}

-- what it stands for
abbrev pub data_of : Json → Data
data_of json = view json.value
