-- Rows behind an act, and the replies that tell of them.
use Rattle.std.proofs.Common.{◌≡◌, ℕ, List, ◌∙◌, sym, ap, refl, Some, None, Option}
use Rattle.std.specs.Option.{option_map, option_map_or}
use Rattle.op_grant.specs.Rows.{at_row}
use Rattle.op_grant.specs.Value.{GrantsValue, with_row}
use Rattle.op_grant.specs.declared.fault.GrantFault.{GrantFault}
use Rattle.op_grant.specs.declared.fault.GrantFault.TheVariants as faults
use Rattle.op_granting.specs.Models.{behind, grants_behind}
use Rattle.op_model.specs.Answer.{told_of}
use Rattle.op_model.specs.Grants.{grants, grant_row}
use Rattle.op_model.specs.History.{nth}
use Rattle.op_model.specs.declared.act.Act.{Act}
use Rattle.op_model.specs.declared.act.Entry.{Entry}
use Rattle.op_model.specs.declared.reply.Refusal.TheVariants.{NotFound}
use Rattle.op_model.specs.declared.reply.ReplyBody.{ReplyBody}
use Rattle.op_model.specs.declared.reply.ReplyBody.TheVariants as bodies
use Rattle.op_model.specs.declared.row.GrantRow.{GrantRow}
use Rattle.op_model.proofs.Numbered.{nth-changed}
use Rattle.std.proofs.Common.{Result, Ok, Err}

-- row n is that of the history
pub row_in : (value : GrantsValue) (history : List Entry) (n : ℕ) (found : Option GrantRow) → value.rows ≡ grants history → nth value.rows n ≡ found → grant_row history n ≡ found
row_in value history n found same is = ap (λ (rows : List GrantRow). nth rows n) (sym same) ∙ is

-- a row that an act changes, behind it
pub row_behind : (change : GrantRow → GrantRow) (value : GrantsValue) (history : List Entry) (t n : ℕ) (act : Act) (row : GrantRow) → (with_row change value n).rows ≡ grants_behind history t act → nth value.rows n ≡ Some row → grant_row (behind history t act) n ≡ Some (change row)
row_behind change value history t n act row follows there = ap (λ (rows : List GrantRow). nth rows n) (sym follows) ∙ nth-changed change value.rows n row there

-- the reply about a grant that is there
pub told_row : (body : ℕ × GrantRow → ReplyBody) (after : List Entry) (grant : Option ℕ) (n : ℕ) (row : GrantRow) → grant ≡ Some n → grant_row after n ≡ Some row → body (n, row) ≡ told_of (grant_row after) body grant
told_row body after grant n row named is =
    ap (λ (o : Option GrantRow). option_map_or body (option_map (λ (x : GrantRow). (n, x)) o) (bodies.Refused NotFound)) (sym is)
    ∙ ap (λ (g : Option ℕ). told_of (grant_row after) body g) (sym named)

-- the answer of a call at a row
pub answer_at : {X : Type 0} (answer : GrantRow → Result X GrantFault) (value : GrantsValue) (n : ℕ) (row : GrantRow) (r : Result X GrantFault) → nth value.rows n ≡ Some row → r ≡ at_row answer value n → r ≡ answer row
answer_at answer value n row r there is = is ∙ ap (λ (o : Option GrantRow). option_map_or answer o (Err faults.Memory)) there

-- a call that passes has its row
pub record HasRowAt (value : GrantsValue) (n : ℕ) : Type 0 where
  pub row : GrantRow
  pub there : nth value.rows n ≡ Some row

row_where : {X : Type 0} (answer : GrantRow → Result X GrantFault) (value : GrantsValue) (n : ℕ) (x : X) (found : Option GrantRow) → nth value.rows n ≡ found → option_map_or answer found (Err faults.Memory) ≡ Ok x → HasRowAt value n
row_where {X = X} answer value n x None is passes = absurd (let r : Result X GrantFault = Err faults.Memory in let e : r ≡ Ok x = passes in cc)
row_where answer value n x (Some row) is passes = record { row = row; there = is }

pub passing_row : {X : Type 0} (answer : GrantRow → Result X GrantFault) (value : GrantsValue) (n : ℕ) (x : X) → at_row answer value n ≡ Ok x → HasRowAt value n
passing_row answer value n x passes = row_where answer value n x (nth value.rows n) refl passes
