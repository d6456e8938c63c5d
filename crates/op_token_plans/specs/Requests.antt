-- The requests that are planned here.
use Rattle.std.specs.Prelude.{Bool, true, false}
use Rattle.op_model.specs.declared.request.Request.{Request}
use Rattle.op_model.specs.declared.request.Request.TheVariants as requests

abbrev pub is_token_request : Request → Bool
is_token_request (requests.MakeIncoming address amount expiry metadata) = true
is_token_request (requests.ReadIncoming incoming) = true
is_token_request (requests.CompleteIncoming incoming) = true
is_token_request (requests.ReadQuote quote) = true
is_token_request (requests.ReadOutgoing outgoing) = true
is_token_request _ = false
