use Rattle.std.proofs.Common.{◌≡◌, ℕ, List, Bool, Option, Ok, None, false, ◌&&◌, ◌||◌, ap, sym, subst, ◌∙◌}
use Rattle.std.specs.Option.{is_some}
use Rattle.std.specs.Str.{bytes_eq}
use Rattle.op_names.specs.Forms.{is_path}
use Rattle.op_model.specs.RouteTable.{Route, delete, get, post, rows, route_in, methods_at, route_or_refusal}
use Rattle.op_model.specs.declared.route.Route.TheVariants.{ReadAddress}
use Rattle.op_http.specs.Routers.{filled, segment, methods_with}
use Rattle.op_http.specs.Routes.{IsMissed}
use Rattle.op_http.proofs.Routing.{row_routed, address_routed, not_routed, methods_are, no_get, no_address}
use Rattle.op_http.proofs.table.RouteTable.route_at.Goals as goal
use Rattle.op_http.proofs.table.RouteTable.route_at.Goals.{else-is_address-via-then-is_address+else-eq, else-is_address-via-else-is_address}

pub returns-in-Some : goal.returns-in-Some
returns-in-Some c =
    let path = c.args.path.now in
    let same = c.in_ok-fill.ensures ∙ ap (λ (p : List ℕ). filled c.in-Some.route (λ number. segment number p)) c.as_bytes.ensures.value in
    ap (λ (found : Option Route). route_or_refusal found (methods_at path))
    (row_routed c.args.method.now path (filled c.in-Some.route (λ number. segment number path)) c.utf8.path c.in-Some.ensures)
    ∙ ap (λ (route : Route). Ok route) (sym same)

pub returns-then-eq : goal.returns-then-eq
returns-then-eq c =
    let method = c.args.method.now in
    let path = c.args.path.now in
    let same = c.new.ensures ∙ (c.in_ok-from_slice.ensures.items ∙ c.as_bytes-then-eq.ensures.value) in
    ap (λ (found : Option Route). route_or_refusal found (methods_at path))
    (address_routed method path c.utf8.path c.in_default.ensures
    (ap (bytes_eq method) (sym (c.as_bytes-then-is_address.ensures.value ∙ c.as_str.ensures.value)) ∙ (sym c.eq.ensures ∙ c.if-eq.true)) (sym c.in_ok-is_address.ensures ∙ c.if-is_address.true))
    ∙ ap (λ (text : List ℕ). Ok (ReadAddress text)) (sym same)

pub returns : goal.returns
returns c =
    let method = c.args.method.now in
    let path = c.args.path.now in
    let other : (bytes_eq method get && is_path path) ≡ false = elim c.else-is_address.branch [
      | else-is_address-via-then-is_address+else-eq w ↦ no_get method path (ap (bytes_eq method) (sym (w.as_bytes-then-is_address.ensures.value ∙ w.as_str.ensures.value)) ∙ (sym w.eq.ensures ∙ w.if-eq.false))
      | else-is_address-via-else-is_address w ↦ no_address method path (sym c.in_ok-is_address.ensures ∙ w.if-is_address.false)
    ] in
    let methods =
    ap (λ (is : Bool). methods_with (is_some (route_in rows delete path)) (is_some (route_in rows get path) || is) (is_some (route_in rows post path))) c.in_ok-is_address.ensures
    ∙ sym (methods_are path c.utf8.path) in
    subst (λ (found : Option Route). IsMissed (route_or_refusal found (methods_at path)) c.fault.result) (sym (not_routed method path c.utf8.path c.in_default.ensures other))
    (subst (λ (all : List (List ℕ)). IsMissed (route_or_refusal None all) c.fault.result) methods c.fault.ensures)
