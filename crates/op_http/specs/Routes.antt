-- Routes: what `find_route` answers.
use Rattle.std.specs.Prelude.{◌≡◌, ⊤, Ok, Err}
use Rattle.std.specs.declared.result.Result.{Result}
use Rattle.op_model.specs.RouteTable.{Route}
use Rattle.op_model.specs.declared.reply.Refusal.{Refusal}
use Rattle.op_model.specs.declared.reply.Refusal.TheVariants.{NotFound, MethodNotAllowed}
use Rattle.op_http.specs.declared.route.RouteFault.{RouteFault}
use Rattle.op_http.specs.declared.route.RouteFault.TheVariants.{NoRoute, BadMethod, Memory}

-- why there is no route; want of memory may stand for any answer
abbrev pub IsMissed : Result Route Refusal → RouteFault → Type 0
IsMissed meant NoRoute = meant ≡ Err NotFound
IsMissed meant (BadMethod allow) = meant ≡ Err (MethodNotAllowed allow)
IsMissed meant Memory = ⊤

-- the route that is meant, or why there is none
abbrev pub Routed : Result Route Refusal → Result Route RouteFault → Type 0
Routed meant (Ok route) = meant ≡ Ok route
Routed meant (Err fault) = IsMissed meant fault
