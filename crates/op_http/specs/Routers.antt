-- Routers: the rows of `matchit` that a table of paths makes, and what they find.
use Rattle.std.specs.Prelude.{◌≡◌, ℕ, zero, suc, Bool, cond, List, [], ◌∷◌, Ok, Err}
use Rattle.std.specs.Borrow.{Bor}
use Rattle.std.specs.List.{before_first, after_first}
use Rattle.std.specs.Option.{option_map}
use Rattle.std.specs.declared.option.Option.{Option}
use Rattle.std.specs.declared.result.Result.{Result}
use Rattle.matchit.specs.Rows.{RowsOf}
use Rattle.matchit.specs.Route.{Scan, parse_route}
use Rattle.matchit.specs.Router.{RouteOf, route_from, map_key}
use Rattle.matchit.specs.Order.{placed}
use Rattle.matchit.specs.Seek.{first}
use Rattle.matchit.specs.declared.error.InsertError.{InsertError}
use Rattle.op_names.specs.Forms.{is_slash}
use Rattle.op_model.specs.RouteTable.{Route, rows, route_in, delete, get, post}
use Rattle.op_model.specs.declared.route.Route as declared
use Rattle.op_model.specs.declared.route.Route.TheVariants as routes

-- ---- parameters

-- a segment of a path; that of number 0 stands behind the first slash
abbrev pub segment_from : ℕ → List ℕ → List ℕ
segment_from zero rest = before_first is_slash rest
segment_from (suc number) rest = segment_from number (after_first is_slash rest)

abbrev pub segment : ℕ → List ℕ → List ℕ
segment number path = segment_from number (after_first is_slash path)

-- a route whose parameters are numbers of segments
abbrev pub Placed : Type 0
Placed = declared.Route ℕ

-- the same route with what stands for each number
abbrev pub filled : Placed → (ℕ → List ℕ) → Route
filled routes.SetOrigin text = routes.SetOrigin
filled routes.AddAsset text = routes.AddAsset
filled (routes.InspectAsset code scale) text = routes.InspectAsset (text code) (text scale)
filled routes.AddAddress text = routes.AddAddress
filled (routes.InspectAddress number) text = routes.InspectAddress (text number)
filled routes.Deposit text = routes.Deposit
filled routes.Withdraw text = routes.Withdraw
filled routes.SetRate text = routes.SetRate
filled (routes.AcceptGrant number) text = routes.AcceptGrant (text number)
filled (routes.RejectGrant number) text = routes.RejectGrant (text number)
filled (routes.InspectOutgoing number) text = routes.InspectOutgoing (text number)
filled (routes.CancelOutgoing number) text = routes.CancelOutgoing (text number)
filled (routes.ReadAddress number) text = routes.ReadAddress (text number)
filled routes.AskGrant text = routes.AskGrant
filled (routes.ContinueGrant number) text = routes.ContinueGrant (text number)
filled (routes.CancelGrant number) text = routes.CancelGrant (text number)
filled (routes.RotateToken number) text = routes.RotateToken (text number)
filled (routes.RevokeToken number) text = routes.RevokeToken (text number)
filled routes.MakeIncoming text = routes.MakeIncoming
filled routes.ListIncomings text = routes.ListIncomings
filled (routes.ReadIncoming number) text = routes.ReadIncoming (text number)
filled (routes.CompleteIncoming number) text = routes.CompleteIncoming (text number)
filled routes.MakeQuote text = routes.MakeQuote
filled (routes.ReadQuote number) text = routes.ReadQuote (text number)
filled routes.MakeOutgoing text = routes.MakeOutgoing
filled routes.ListOutgoings text = routes.ListOutgoings
filled (routes.ReadOutgoing number) text = routes.ReadOutgoing (text number)
filled routes.ReadFeed text = routes.ReadFeed

-- ---- a router's rows

abbrev pub Rows : Type 0
Rows = RowsOf (RouteOf Placed)

abbrev pub with_scan : Result Scan InsertError → Placed → Rows → Rows
with_scan (Ok scan) route known = placed (scan.pattern, route_from scan route) known
with_scan (Err e) route known = known

-- the rows with one more
abbrev pub with_row : Rows → List ℕ × Placed → Rows
with_row known row = with_scan (parse_route row.0) row.1 known

unfoldable pub rows_from : Rows → List (List ℕ × Placed) → Rows
rows_from known [] = known
rows_from known (row ∷ others) = rows_from (with_row known row) others

abbrev pub row_of : Bor (List ℕ) × Placed → List ℕ × Placed
row_of row = (row.0.now, row.1)

abbrev pub found : Rows → List ℕ → Option Placed
found known path = map_key (λ route. route.value) (first known path)

-- for every path, a router finds the route that the table has for a method
abbrev pub FindsFor : List ℕ → Rows → Type 0
FindsFor method known = (path : List ℕ) → option_map (λ route. filled route (λ number. segment number path)) (found known path) ≡ route_in rows method path

-- ---- methods

abbrev pub methods_with : (has_delete has_get has_post : Bool) → List (List ℕ)
methods_with has_delete has_get has_post = with_name has_delete delete (with_name has_get get (with_name has_post post []))
  where
    with_name : Bool → List ℕ → List (List ℕ) → List (List ℕ)
    with_name has name others = cond has (name ∷ others) others
