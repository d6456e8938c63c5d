-- One row changed, and what is answered by it.
use Rattle.std.proofs.Common.{◌≡◌, ℕ, ◌-◌, List, get_or, sym, ap, subst, ◌∙◌, IsTrue, Err}
use Rattle.std.specs.Prelude.{Some, slice_set, is_some}
use Rattle.std.specs.Option.{option_map_or}
use Rattle.std.specs.declared.result.Result.{Result}
use Rattle.op_model.specs.History.{nth, with_item}
use Rattle.op_model.specs.declared.row.GrantRow.{GrantRow}
use Rattle.op_model.proofs.Items.{set_at_is_with_item}
use Rattle.op_grant.specs.Value.{GrantsValue, has_row, with_row}
use Rattle.op_grant.specs.Rows.{at_row}
use Rattle.op_grant.specs.declared.fault.GrantFault.{GrantFault}
use Rattle.op_grant.specs.declared.fault.GrantFault.TheVariants as faults
use Rattle.op_grant.proofs.Numbered.{nth_at}

abbrev pub grants_of : List GrantRow → List ((ℕ × ℕ) × ℕ) → GrantsValue
grants_of rows spent = record { rows = rows; spent = spent }

-- row n of a value, read at its index
pub record Reads (value : GrantsValue) (rows : List GrantRow) (spent : List ((ℕ × ℕ) × ℕ)) (n : ℕ) (row : GrantRow) : Type 0 where
  pub view : grants_of rows spent ≡ value
  pub there : IsTrue (has_row value n)
  pub at : row ≡ get_or rows (n - 1) row

pub there_in : (value : GrantsValue) (rows : List GrantRow) (spent : List ((ℕ × ℕ) × ℕ)) (n : ℕ) (row : GrantRow) → Reads value rows spent n row → IsTrue (is_some (nth rows n))
there_in value rows spent n row h = subst (λ v. IsTrue (is_some (nth v.rows n))) (sym h.view) h.there

pub found_in : (value : GrantsValue) (rows : List GrantRow) (spent : List ((ℕ × ℕ) × ℕ)) (n : ℕ) (row : GrantRow) → Reads value rows spent n row → nth rows n ≡ Some row
found_in value rows spent n row h = nth_at rows n row (there_in value rows spent n row h) h.at

-- what a call answers by the row
pub answered : {X : Type 0} (value : GrantsValue) (rows : List GrantRow) (spent : List ((ℕ × ℕ) × ℕ)) (n : ℕ) (row : GrantRow) (answer : GrantRow → Result X GrantFault) (r : Result X GrantFault) → Reads value rows spent n row → r ≡ answer row → r ≡ at_row answer value n
answered value rows spent n row answer r h is =
    is ∙ ap (λ o. option_map_or answer o (Err faults.Memory)) (sym (found_in value rows spent n row h)) ∙ ap (λ v. at_row answer v n) h.view

-- the rows with the row written
pub rows_set : (value : GrantsValue) (rows : List GrantRow) (spent : List ((ℕ × ℕ) × ℕ)) (n : ℕ) (row new : GrantRow) (f : GrantRow → GrantRow) → Reads value rows spent n row → new ≡ f row → slice_set rows (n - 1) new ≡ with_item f rows n
rows_set value rows spent n row new f h is =
    ap (slice_set rows (n - 1)) is ∙ set_at_is_with_item f n rows row (there_in value rows spent n row h) h.at

pub changed : (value : GrantsValue) (rows : List GrantRow) (spent : List ((ℕ × ℕ) × ℕ)) (n : ℕ) (row new : GrantRow) (f : GrantRow → GrantRow) → Reads value rows spent n row → new ≡ f row → grants_of (slice_set rows (n - 1) new) spent ≡ with_row f value n
changed value rows spent n row new f h is =
    ap (λ rs. grants_of rs spent) (rows_set value rows spent n row new f h is) ∙ ap (λ v. with_row f v n) h.view
