use Rattle.std.proofs.Common.{◌≡◌, ℕ, List, Bool, true, false, Some, None, refl, if◌then◌else◌}
use Rattle.std.specs.Str.{IsUtf8}
use Rattle.op_amount.specs.Code.{is_asset_code}
use Rattle.op_amount.proofs.CodeText.{code_is_text}
use Rattle.op_desk.proofs.wallet.code_of.Goals as goal

no_code : (text : List ℕ) → (IsUtf8 text → ⊥) → (b : Bool) → is_asset_code text ≡ b → None ≡ (if b then Some text else None)
no_code text strange true is = absurd (strange (code_is_text text is))
no_code text strange false is = refl

pub returns-in-Err : goal.returns-in-Err
returns-in-Err c = no_code c.args.bytes.now c.in-Err.ensures.cases.0 (is_asset_code c.args.bytes.now) refl
