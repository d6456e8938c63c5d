-- What a request as it came means: a request of the wallet, or its refusal.
use Rattle.std.specs.Prelude.{ℕ, List, Ok, Err}
use Rattle.std.specs.declared.result.Result.{Result}
use Rattle.op_names.specs.declared.Kind.TheVariants.{Incoming, Quote, Outgoing, Grant, Address}
use Rattle.op_model.specs.Asking.{◌>>=◌}
use Rattle.op_model.specs.GrantMembers.{grant_refused, ask_grant_members, continue_grant_meant}
use Rattle.op_model.specs.Json.{with_members}
use Rattle.op_model.specs.Members.{set_origin_members, add_asset_members, add_address_members, transfer_members, set_rate_members, make_incoming_members, make_quote_members, make_outgoing_members}
use Rattle.op_model.specs.Parameters.{number_named, asset_named, list_parameters, read_feed_parameters}
use Rattle.op_model.specs.Requests.{Raw}
use Rattle.op_model.specs.RouteTable.{Route, route_of}
use Rattle.op_model.specs.declared.reply.Refusal.{Refusal}
use Rattle.op_model.specs.declared.request.Request.{Request}
use Rattle.op_model.specs.declared.request.Request.TheVariants as requests
use Rattle.op_model.specs.declared.route.Route.TheVariants as routes

-- what a route is asked for by a target and a body; a body is read only where it has members
abbrev pub asked_of : Route → (target body : List ℕ) → Result Request Refusal
asked_of routes.SetOrigin target body = with_members set_origin_members body
asked_of routes.AddAsset target body = with_members add_asset_members body
asked_of (routes.InspectAsset code scale) target body = Ok (requests.InspectAsset (asset_named code scale))
asked_of routes.AddAddress target body = with_members add_address_members body
asked_of (routes.InspectAddress id) target body = Ok (requests.InspectAddress (number_named Address id))
asked_of routes.Deposit target body = with_members (transfer_members requests.Deposit) body
asked_of routes.Withdraw target body = with_members (transfer_members requests.Withdraw) body
asked_of routes.SetRate target body = with_members set_rate_members body
asked_of (routes.AcceptGrant id) target body = Ok (requests.AcceptGrant (number_named Grant id))
asked_of (routes.RejectGrant id) target body = Ok (requests.RejectGrant (number_named Grant id))
asked_of (routes.InspectOutgoing id) target body = Ok (requests.InspectOutgoing (number_named Outgoing id))
asked_of (routes.CancelOutgoing id) target body = Ok (requests.CancelOutgoing (number_named Outgoing id))
asked_of (routes.ReadAddress path) target body = Ok (requests.ReadAddress path)
asked_of routes.AskGrant target body = grant_refused (with_members ask_grant_members body)
asked_of (routes.ContinueGrant id) target body = grant_refused (continue_grant_meant (number_named Grant id) body)
asked_of (routes.CancelGrant id) target body = Ok (requests.CancelGrant (number_named Grant id))
asked_of (routes.RotateToken id) target body = Ok (requests.RotateToken (number_named Grant id))
asked_of (routes.RevokeToken id) target body = Ok (requests.RevokeToken (number_named Grant id))
asked_of routes.MakeIncoming target body = with_members make_incoming_members body
asked_of routes.ListIncomings target body = list_parameters Incoming requests.ListIncomings target
asked_of (routes.ReadIncoming id) target body = Ok (requests.ReadIncoming (number_named Incoming id))
asked_of (routes.CompleteIncoming id) target body = Ok (requests.CompleteIncoming (number_named Incoming id))
asked_of routes.MakeQuote target body = with_members make_quote_members body
asked_of (routes.ReadQuote id) target body = Ok (requests.ReadQuote (number_named Quote id))
asked_of routes.MakeOutgoing target body = with_members make_outgoing_members body
asked_of routes.ListOutgoings target body = list_parameters Outgoing requests.ListOutgoings target
asked_of (routes.ReadOutgoing id) target body = Ok (requests.ReadOutgoing (number_named Outgoing id))
asked_of routes.ReadFeed target body = read_feed_parameters target

-- the request that is meant, or its refusal
abbrev pub meant : Raw → Result Request Refusal
meant raw = route_of raw.method raw.target >>= (λ route. asked_of route raw.target raw.body)
