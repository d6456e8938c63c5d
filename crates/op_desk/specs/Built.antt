-- The acts, tasks and replies that are built so far. This project's own.
use Rattle.std.specs.Prelude.{Bool, true, false, List, IsTrue}
use Rattle.std.specs.List.{AllByRecursion}
use Rattle.std.specs.Option.{option_map_or}
use Rattle.std.specs.Str.{is_utf8}
use Rattle.op_model.specs.declared.act.Act.{Act}
use Rattle.op_model.specs.declared.act.Act.TheVariants.{AssetAdded}
use Rattle.op_model.specs.declared.act.Entry.{Entry}
use Rattle.op_model.specs.declared.reply.Refusal.{Refusal}
use Rattle.op_model.specs.declared.reply.Refusal.TheVariants as refusals
use Rattle.op_model.specs.declared.reply.ReplyBody.{ReplyBody}
use Rattle.op_model.specs.declared.reply.ReplyBody.TheVariants as replies
use Rattle.op_model.specs.declared.request.Request.{Request}
use Rattle.op_model.specs.declared.request.Request.TheVariants.{AddAsset}
use Rattle.op_model.specs.declared.request.Task.{Task}
use Rattle.op_model.specs.declared.request.Task.TheVariants.{Ask}

abbrev pub is_built : Act → Bool
is_built (AssetAdded code scale pieces) = true
is_built _ = false

-- the tasks whose acts are built
abbrev pub is_built_request : Request → Bool
is_built_request (AddAsset asset pieces) = true
is_built_request _ = false

abbrev pub is_built_task : Task → Bool
is_built_task (Ask request verdict) = is_built_request request
is_built_task _ = false

-- all acts of a history are built
abbrev pub AreBuilt : List Entry → Type 0
AreBuilt history = AllByRecursion (λ e. IsTrue (is_built e.act)) history

-- the replies that are built; the name that a refusal tells is a text
abbrev pub is_built_refusal : Refusal → Bool
is_built_refusal (refusals.BadHttp at) = true
is_built_refusal (refusals.LengthRequired at) = true
is_built_refusal (refusals.RequestTooLarge at) = true
is_built_refusal refusals.NotFound = true
is_built_refusal (refusals.MethodNotAllowed allow) = true
is_built_refusal refusals.BadJson = true
is_built_refusal (refusals.BadField name) = is_utf8 name
is_built_refusal (refusals.InvalidRequest name) = option_map_or is_utf8 name true
is_built_refusal refusals.AlreadyExists = true
is_built_refusal refusals.Memory = true
is_built_refusal _ = false

abbrev pub is_built_reply : ReplyBody → Bool
is_built_reply (replies.AssetAdded asset pieces) = true
is_built_reply (replies.Refused refusal) = is_built_refusal refusal
is_built_reply _ = false
