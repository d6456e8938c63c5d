-- An act that wants no memory.
use Rattle.std.proofs.Common.{◌≡◌, Bool, true, false, ◌||◌, refl}
use Rattle.op_granting.specs.Kinds.{is_on_grants}
use Rattle.op_model.specs.declared.act.Act.{Act}
use Rattle.op_naming.specs.Added.{adds_name}
use Rattle.op_parts.specs.Parts.{may_want_memory}
use Rattle.op_paying.specs.Taking.{makes_rows}

pub record WantsNone (act : Act) : Type 0 where
  pub rows : makes_rows act ≡ false
  pub names : adds_name act ≡ false
  pub grants : is_on_grants act ≡ false

none_of_three : (a b c : Bool) → (a || (b || c)) ≡ false → (a ≡ false) × (b ≡ false) × (c ≡ false)
none_of_three true b c h = absurd (let e : true ≡ false = h in cc)
none_of_three false true c h = absurd (let e : true ≡ false = h in cc)
none_of_three false false c h = (refl, refl, h)

pub wants_none : (act : Act) → may_want_memory act ≡ false → WantsNone act
wants_none act h =
    let none = none_of_three (makes_rows act) (adds_name act) (is_on_grants act) h in
    record { rows = none.0; names = none.1; grants = none.2 }

-- it is of no kind that wants some
pub not_steady : {P : Type 0} (b : Bool) → b ≡ true → b ≡ false → P
not_steady true is none = absurd (let e : true ≡ false = none in cc)
not_steady false is none = absurd (let e : false ≡ true = is in cc)
