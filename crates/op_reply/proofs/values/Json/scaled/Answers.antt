use Rattle.std.proofs.Common.{List, ℕ, ◌++◌, sym, subst, ap, ◌∙◌}
use Rattle.std.specs.Str.{IsUtf8}
use Rattle.op_amount.specs.Scaled.{scaled}
use Rattle.op_reply.proofs.AsciiTexts.{IsUtf8-scaled}
use Rattle.op_reply.proofs.values.Json.scaled.Goals as goal

pub bytes-requires : goal.bytes-requires
bytes-requires c =
    let text = c.deref.ensures.value ∙ c.in_ok-print_scaled.ensures.ok ∙ ap (λ (xs : List ℕ). xs ++ scaled c.args.value c.args.scale) c.new-text.ensures.items in
    subst IsUtf8 (sym text) (IsUtf8-scaled c.args.value c.args.scale c.ranges.value.fits)
