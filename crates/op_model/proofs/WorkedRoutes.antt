-- Worked routes: what methods and targets ask for. Reserved first segments are those of the table.
use Rattle.std.proofs.Common.{◌≡◌, Bool, true, false, List, [], ◌∷◌, codes, Ok, Err, ℕ, refl}
use Rattle.std.specs.List.{list_all, list_any}
use Rattle.std.specs.Str.{bytes_eq, is_utf8, chars}
use Rattle.op_names.specs.Forms.{reserved}
use Rattle.op_model.specs.RouteTable.{Part, Row, rows, route_of}
use Rattle.op_model.specs.declared.reply.Refusal.TheVariants.{NotFound, MethodNotAllowed}
use Rattle.op_model.specs.declared.route.Route.TheVariants.{InspectAsset, ReadAddress, CancelOutgoing}

-- the first segment of a row's path is this text
abbrev begins_with : Row → List ℕ → Bool
begins_with row text = begins row.parts
  where
    begins : List Part → Bool
    begins [] = false
    begins (Part.Fixed first ∷ parts) = bytes_eq first text
    begins (Part.Parameter ∷ parts) = false

first_segments_are_reserved : list_all (λ row. list_any (begins_with row) reserved) rows ≡ true
unfolding rows
first_segments_are_reserved = refl

reserved_are_first_segments : list_all (λ text. list_any (λ row. begins_with row text) rows) reserved ≡ true
unfolding rows
reserved_are_first_segments = refl

two_parameters : route_of (codes "GET") (codes "/admin/assets/USD/2?x=/y") ≡ Ok (InspectAsset (codes "USD") (codes "2"))
unfolding rows is_utf8 chars lib.Utf8.encode
two_parameters = refl

parameter_amid : route_of (codes "POST") (codes "/admin/outgoing-payments/a%20b/cancel") ≡ Ok (CancelOutgoing (codes "a%20b"))
unfolding rows is_utf8 chars lib.Utf8.encode
parameter_amid = refl

address_path : route_of (codes "GET") (codes "/alice/euro") ≡ Ok (ReadAddress (codes "/alice/euro"))
unfolding rows is_utf8 chars lib.Utf8.encode
address_path = refl

other_methods : route_of (codes "GET") (codes "/continue/x") ≡ Err (MethodNotAllowed (codes "DELETE, POST"))
unfolding rows is_utf8 chars lib.Utf8.encode
other_methods = refl

address_by_another_method : route_of (codes "POST") (codes "/alice") ≡ Err (MethodNotAllowed (codes "GET"))
unfolding rows is_utf8 chars lib.Utf8.encode
address_by_another_method = refl

slash_at_the_end : route_of (codes "GET") (codes "/quotes/q1/") ≡ Err NotFound
unfolding rows is_utf8 chars lib.Utf8.encode
slash_at_the_end = refl

empty_parameter : route_of (codes "POST") (codes "/incoming-payments//complete") ≡ Err NotFound
unfolding rows is_utf8 chars lib.Utf8.encode
empty_parameter = refl

no_slash : route_of (codes "GET") (codes "alice") ≡ Err NotFound
unfolding rows is_utf8 chars lib.Utf8.encode
no_slash = refl
