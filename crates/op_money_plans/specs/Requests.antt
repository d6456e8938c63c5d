-- The provider's requests on money.
use Rattle.std.specs.Prelude.{Bool, true, false}
use Rattle.op_model.specs.declared.request.Request.{Request}
use Rattle.op_model.specs.declared.request.Request.TheVariants as requests

-- a request that moves or frees money, or asks how it stands
abbrev pub is_money_request : Request → Bool
is_money_request (requests.Deposit transfer account amount) = true
is_money_request (requests.Withdraw transfer account amount) = true
is_money_request (requests.InspectAsset asset) = true
is_money_request (requests.InspectAddress address) = true
is_money_request (requests.InspectOutgoing payment) = true
is_money_request (requests.CancelOutgoing payment) = true
is_money_request _ = false
