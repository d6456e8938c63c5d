-- What is read is what is meant so far: a request that is built, or a refusal that has a printed form.
use Rattle.std.proofs.Common.{◌≡◌, true, false, Ok, Err, Some, None, IsTrue, IsUtf8, refl}
use Rattle.std.specs.declared.result.Result.{Result}
use Rattle.std.proofs.lemmas.Str.{is_utf8-from_IsUtf8}
use Rattle.op_api.specs.Body.{IsReadingRefusal}
use Rattle.op_desk.specs.Built.{is_built_refusal, is_built_request}
use Rattle.op_model.specs.Asking.{◌>>=◌}
use Rattle.op_model.specs.declared.reply.Refusal.{Refusal}
use Rattle.op_model.specs.declared.reply.Refusal.TheVariants as refusals
use Rattle.op_model.specs.declared.request.Request.{Request}
use Rattle.op_model.specs.declared.request.Request.TheVariants.{AddAsset}
use Rattle.op_session.specs.Built.{is_built, if_built}

pub built : (asked : Result Request Refusal) (request : Request) → asked ≡ Ok request → is_built request ≡ true → asked >>= if_built ≡ Ok request
built asked request e is = rw e (rw is refl)

pub not_built : (asked : Result Request Refusal) (request : Request) → asked ≡ Ok request → is_built request ≡ false → asked >>= if_built ≡ Err refusals.NotFound
not_built asked request e is = rw e (rw is refl)

pub refused : (asked : Result Request Refusal) (refusal : Refusal) → asked ≡ Err refusal → asked >>= if_built ≡ Err refusal
refused asked refusal e = rw e refl

-- the session and the desk have the same requests
pub built_request : (request : Request) → is_built request ≡ true → is_built_request request ≡ true
built_request (AddAsset asset pieces) e = refl
built_request _ e = absurd cc

pub reading_is_built : (refusal : Refusal) → IsReadingRefusal refusal → IsTrue (is_built_refusal refusal)
reading_is_built refusals.NotFound is = refl
reading_is_built (refusals.MethodNotAllowed allow) is = refl
reading_is_built refusals.BadJson is = refl
reading_is_built (refusals.BadField name) is = is_utf8-from_IsUtf8 name is
reading_is_built (refusals.InvalidRequest None) is = refl
reading_is_built (refusals.InvalidRequest (Some name)) is = is_utf8-from_IsUtf8 name is
reading_is_built _ is = absurd is
