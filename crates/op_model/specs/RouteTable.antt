-- Routes: which methods and paths are served, and what each asks for (Open Payments, "Resource server API" and
-- "Authorization server API"; the paths below `/admin` are this project's own).
use Rattle.std.specs.Prelude.{ℕ, Bool, ◌==◌, ◌&&◌, nat_lt, nat_eq, if◌then◌else◌, List, [], ◌∷◌, ◌++◌, length, map, filter, codes, Some, None, Ok, Err}
use Rattle.std.specs.List.{before_first, slice_split, starts_with}
use Rattle.std.specs.Option.{option_or, is_some}
use Rattle.std.specs.Str.{bytes_eq, is_utf8}
use Rattle.std.specs.declared.option.Option.{Option}
use Rattle.std.specs.declared.result.Result.{Result}
use Rattle.op_names.specs.Forms.{is_slash, is_path}
use Rattle.op_model.specs.declared.route.Route as declared
use Rattle.op_model.specs.declared.route.Route.TheVariants.{SetOrigin, AddAsset, InspectAsset, AddAddress, InspectAddress, Deposit, Withdraw, SetRate, AcceptGrant, RejectGrant, InspectOutgoing, CancelOutgoing, ReadAddress, AskGrant, ContinueGrant, CancelGrant, RotateToken, RevokeToken, MakeIncoming, ListIncomings, ReadIncoming, CompleteIncoming, MakeQuote, ReadQuote, MakeOutgoing, ListOutgoings, ReadOutgoing, ReadFeed}
use Rattle.op_model.specs.declared.reply.Refusal.{Refusal}
use Rattle.op_model.specs.declared.reply.Refusal.TheVariants.{NotFound, MethodNotAllowed}

-- a route with the texts of its path's parameters
abbrev pub Route : Type 0
Route = declared.Route (List ℕ)

-- ---- paths

-- the path is the target up to its first `?` (RFC 3986, section 3.3)
abbrev pub is_question : ℕ → Bool
is_question b = b == 63

abbrev pub path_of : List ℕ → List ℕ
path_of target = before_first is_question target

-- a path's segments: what stands between its slashes; a path that does not begin with a slash has none
abbrev pub segments : List ℕ → List (List ℕ)
segments [] = []
segments (b ∷ rest) = if is_slash b then slice_split is_slash rest else []

-- what a row of the table has for a segment: a text, or a parameter, which stands for any text but the empty one
pub data Part : Type 0 where
  Fixed : List ℕ → Part
  Parameter : Part

-- a segment in braces is a parameter
abbrev pub part_of : List ℕ → Part
part_of segment = if starts_with nat_eq segment (codes "{") then Parameter else Fixed segment

abbrev pub parts_of : List ℕ → List Part
parts_of path = map part_of (segments path)

-- ---- the table

-- a route that waits for the texts of the parameters
abbrev pub Awaiting : List Part → Type 0
Awaiting [] = Route
Awaiting (Fixed text ∷ parts) = Awaiting parts
Awaiting (Parameter ∷ parts) = List ℕ → Awaiting parts

pub record Row : Type 0 where
  pub method : List ℕ
  pub parts : List Part
  pub route : Awaiting parts

abbrev pub on : List ℕ → (path : List ℕ) → Awaiting (parts_of path) → Row
on method path route = record { method = method; parts = parts_of path; route = route }

abbrev pub delete : List ℕ
delete = codes "DELETE"

abbrev pub get : List ℕ
get = codes "GET"

abbrev pub post : List ℕ
post = codes "POST"

unfoldable pub rows : List Row
rows =
    on post (codes "/admin/origin") SetOrigin
    ∷ on post (codes "/admin/assets") AddAsset
    ∷ on get (codes "/admin/assets/{code}/{scale}") InspectAsset
    ∷ on post (codes "/admin/wallet-addresses") AddAddress
    ∷ on get (codes "/admin/wallet-addresses/{id}") InspectAddress
    ∷ on post (codes "/admin/deposits") Deposit
    ∷ on post (codes "/admin/withdrawals") Withdraw
    ∷ on post (codes "/admin/rates") SetRate
    ∷ on post (codes "/admin/interactions/{id}/accept") AcceptGrant
    ∷ on post (codes "/admin/interactions/{id}/reject") RejectGrant
    ∷ on get (codes "/admin/outgoing-payments/{id}") InspectOutgoing
    ∷ on post (codes "/admin/outgoing-payments/{id}/cancel") CancelOutgoing
    ∷ on post (codes "/grant") AskGrant
    ∷ on post (codes "/continue/{id}") ContinueGrant
    ∷ on delete (codes "/continue/{id}") CancelGrant
    ∷ on post (codes "/token/{id}") RotateToken
    ∷ on delete (codes "/token/{id}") RevokeToken
    ∷ on post (codes "/incoming-payments") MakeIncoming
    ∷ on get (codes "/incoming-payments") ListIncomings
    ∷ on get (codes "/incoming-payments/{id}") ReadIncoming
    ∷ on post (codes "/incoming-payments/{id}/complete") CompleteIncoming
    ∷ on post (codes "/quotes") MakeQuote
    ∷ on get (codes "/quotes/{id}") ReadQuote
    ∷ on post (codes "/outgoing-payments") MakeOutgoing
    ∷ on get (codes "/outgoing-payments") ListOutgoings
    ∷ on get (codes "/outgoing-payments/{id}") ReadOutgoing
    ∷ on get (codes "/monetization") ReadFeed
    ∷ []

-- ---- looking a route up

-- the route of a row whose parts fit these segments, one by one
abbrev pub matched : (parts : List Part) → Awaiting parts → List (List ℕ) → Option Route
matched [] route [] = Some route
matched [] route (segment ∷ others) = None
matched (part ∷ parts) route [] = None
matched (Fixed text ∷ parts) route (segment ∷ others) = if bytes_eq segment text then matched parts route others else None
matched (Parameter ∷ parts) route (segment ∷ others) = if nat_lt 0 (length segment) then matched parts (route segment) others else None

-- the route of the first row that has the method and fits the path
abbrev pub route_in : List Row → (method path : List ℕ) → Option Route
route_in [] method path = None
route_in (row ∷ others) method path =
    option_or (if bytes_eq method row.method then matched row.parts row.route (segments path) else None) (route_in others method path)

-- a wallet address is read at its own path
abbrev pub address_route : (method path : List ℕ) → Option Route
address_route method path = if bytes_eq method get && is_path path then Some (ReadAddress path) else None

-- a path that is not UTF-8 has no route
abbrev pub route_at : (method path : List ℕ) → Option Route
route_at method path = if is_utf8 path then option_or (route_in rows method path) (address_route method path) else None

-- the methods that a path has a route for, in ascending order
abbrev pub methods_at : List ℕ → List (List ℕ)
methods_at path = filter (λ method. is_some (route_at method path)) (delete ∷ get ∷ post ∷ [])

-- ---- what a request asks for

-- joined by `, ` (RFC 9110, section 10.2.1)
abbrev pub joined : List (List ℕ) → List ℕ
joined [] = []
joined (name ∷ []) = name
joined (name ∷ (other ∷ names)) = name ++ codes ", " ++ joined (other ∷ names)

-- a route; or no path like that (RFC 9110, section 15.5.5), or none with that method (section 15.5.6)
abbrev pub route_or_refusal : Option Route → List (List ℕ) → Result Route Refusal
route_or_refusal (Some route) methods = Ok route
route_or_refusal None [] = Err NotFound
route_or_refusal None (method ∷ others) = Err (MethodNotAllowed (joined (method ∷ others)))

abbrev pub route_of : (method target : List ℕ) → Result Route Refusal
route_of method target = route_or_refusal (route_at method (path_of target)) (methods_at (path_of target))
