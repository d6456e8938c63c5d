use Rattle.std.proofs.Common.{ap, ◌∙◌, ℕ, List, Some}
use Rattle.std.specs.Prelude.{option_map}
use Rattle.std.specs.Option.{option_copied}
use Rattle.op_api.proofs.Fields.{first_value}
use Rattle.op_api.proofs.verdict.value_of.Goals as goal

pub returns-in_err-field : goal.returns-in_err-field
returns-in_err-field c =
    ap option_copied c.from_residual.ensures ∙ (ap (option_map (λ (f : List ℕ × List ℕ). f.1)) c.in_err-field.ensures ∙ first_value c.args.name.now c.args.raw.now.fields)

pub returns : goal.returns
returns c =
    ap (λ (v : List ℕ). Some v) c.value.ensures ∙ (ap (option_map (λ (f : List ℕ × List ℕ). f.1)) c.in_ok-field.ensures ∙ first_value c.args.name.now c.args.raw.now.fields)
