use Rattle.std.proofs.Common.{ap, ℕ, Vec, Global}
use Rattle.std.specs.String.{string_bytes}
use Rattle.std.proofs.lemmas.Str.{IsUtf8-string_bytes}
use Rattle.op_api.proofs.Queries.{text_there, no_text_there}
use Rattle.op_api.proofs.parameters.text_parameter.Goals as goal

pub returns-in-Ok : goal.returns-in-Ok
returns-in-Ok c =
    let found = rw c.in-Some.is at c.in_ok-value.ensures in
    text_there c.args.name.now c.args.target.now c.in-Some.value.items (string_bytes c.in-Ok.text) found (IsUtf8-string_bytes c.in-Ok.text) (ap (λ (v : Vec ℕ Global). v.items) c.in-Ok.ensures.ok)

pub returns-in-Some : goal.returns-in-Some
returns-in-Some c =
    let found = rw c.in-Some.is at c.in_ok-value.ensures in
    no_text_there c.args.name.now c.args.target.now c.in-Some.value.items found (λ u. cc (c.in-Err.ensures.succeeds u))
