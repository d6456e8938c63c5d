-- The requests that the wallet answers so far. One of any other route is not found.
use Rattle.std.specs.Prelude.{Bool, true, false, if◌then◌else◌, Ok, Err}
use Rattle.std.specs.declared.result.Result.{Result}
use Rattle.op_model.specs.Asking.{◌>>=◌}
use Rattle.op_model.specs.Meant.{meant}
use Rattle.op_model.specs.Requests.{Raw}
use Rattle.op_model.specs.declared.reply.Refusal.{Refusal}
use Rattle.op_model.specs.declared.reply.Refusal.TheVariants.{NotFound}
use Rattle.op_model.specs.declared.request.Request.{Request}
use Rattle.op_model.specs.declared.request.Request.TheVariants.{AddAsset}

abbrev pub is_built : Request → Bool
is_built (AddAsset asset pieces) = true
is_built _ = false

abbrev pub if_built : Request → Result Request Refusal
if_built request = if is_built request then Ok request else Err NotFound

-- the request that is meant and built, or its refusal
abbrev pub meant_so_far : Raw → Result Request Refusal
meant_so_far raw = meant raw >>= if_built
