-- The route of a request, and the methods of a path.
use Rattle.std.proofs.Common.{◌≡◌, ℕ, Bool, true, false, cond, ◌&&◌, ◌||◌, List, Err, Option, Some, None, refl, sym, inl, inr}
use Rattle.std.specs.Option.{option_or, is_some}
use Rattle.std.specs.Str.{bytes_eq, IsUtf8, is_utf8}
use Rattle.std.proofs.lemmas.Bool.{cases_Bool}
use Rattle.std.proofs.lemmas.Str.{IsUtf8-from_is_utf8, is_utf8-from_IsUtf8}
use Rattle.op_names.specs.Forms.{is_path}
use Rattle.op_model.specs.RouteTable.{Route, delete, get, post, rows, route_in, route_at, methods_at, route_of, path_of}
use Rattle.op_model.specs.declared.reply.Refusal.TheVariants.{NotFound}
use Rattle.op_model.specs.declared.route.Route.TheVariants.{ReadAddress}
use Rattle.op_http.specs.Routers.{methods_with}

-- no row has another method
pub other_method : (method path : List ℕ) → bytes_eq method delete ≡ false → bytes_eq method get ≡ false → bytes_eq method post ≡ false → None ≡ route_in rows method path
unfolding rows
other_method method path d g p = rw (d, g, p) refl

-- a path that is no text has no route
pub not_text : (method target : List ℕ) → ¬ (IsUtf8 (path_of target)) → route_of method target ≡ Err NotFound
not_text method target broken =
    elim (cases_Bool (is_utf8 (path_of target))) [
      | inl text ↦ absurd (broken (IsUtf8-from_is_utf8 (path_of target) text))
      | inr none ↦ rw none refl
    ]

pub row_routed : (method path : List ℕ) (route : Route) → IsUtf8 path → Some route ≡ route_in rows method path → route_at method path ≡ Some route
row_routed method path route text found = rw (is_utf8-from_IsUtf8 path text, sym found) refl

pub address_routed : (method path : List ℕ) → IsUtf8 path → None ≡ route_in rows method path
    → bytes_eq method get ≡ true → is_path path ≡ true → route_at method path ≡ Some (ReadAddress path)
address_routed method path text none reads address = rw (is_utf8-from_IsUtf8 path text, sym none, reads, address) refl

pub not_routed : (method path : List ℕ) → IsUtf8 path → None ≡ route_in rows method path → (bytes_eq method get && is_path path) ≡ false → route_at method path ≡ None
not_routed method path text none other = rw (is_utf8-from_IsUtf8 path text, sym none, other) refl

no_more : (found : Option Route) → is_some (option_or found None) ≡ is_some found
no_more None = refl
no_more (Some route) = refl

address_more : (found : Option Route) (is_address : Bool) (route : Route) → is_some (option_or found (cond is_address (Some route) None)) ≡ (is_some found || is_address)
address_more None true route = refl
address_more None false route = refl
address_more (Some found) is_address route = refl

pub methods_are : (path : List ℕ) → IsUtf8 path
    → methods_at path ≡ methods_with (is_some (route_in rows delete path)) (is_some (route_in rows get path) || is_path path) (is_some (route_in rows post path))
methods_are path text =
    rw (is_utf8-from_IsUtf8 path text, no_more (route_in rows delete path), address_more (route_in rows get path) (is_path path) (ReadAddress path), no_more (route_in rows post path)) refl

pub no_get : (method path : List ℕ) → bytes_eq method get ≡ false → (bytes_eq method get && is_path path) ≡ false
no_get method path other = rw other refl

pub no_address : (method path : List ℕ) → is_path path ≡ false → (bytes_eq method get && is_path path) ≡ false
no_address method path none = rw none (and_none (bytes_eq method get))
  where
    and_none : (v : Bool) → (v && false) ≡ false
    and_none true = refl
    and_none false = refl
