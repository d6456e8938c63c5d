-- Items that are read one after another: what each step leaves.
use Rattle.std.proofs.Common.{◌≡◌, ℕ, zero, suc, ◌+◌, ◌-◌, ◌<◌, ◌≤◌, List, [], ◌∷◌, ◌++◌, Result, Ok, Err, refl, sym, ap, ◌∙◌, append_assoc, arith}
use Rattle.std.proofs.lemmas.List.{append-nil}
use Rattle.op_model.specs.declared.grant.Item.{Item}
use Rattle.op_record.specs.declared.fault.Fault.{Fault}
use Rattle.op_record.specs.declared.fault.ReadError.{ReadError}
use Rattle.op_record.specs.declared.fault.ReadError.TheVariants as errors
use Rattle.op_record.specs.Readers.{Fails, onward, bind, done}
use Rattle.op_record.specs.Rows.{item_at, more_items_at}

abbrev pub Read : Type 0
Read = Result (List Item × List ℕ) Fault

-- what was read, with the items before it
abbrev pub with_front : List Item → Read → Read
with_front front read = onward read (λ xs bytes. Ok (front ++ xs, bytes))

regroup : (front : List Item) (x : Item) (read : Read) → with_front front (onward read (λ xs bytes. Ok (x ∷ xs, bytes))) ≡ with_front (front ++ x ∷ []) read
regroup front x (Ok y) = ap (λ (xs : List Item). Ok (xs, y.1)) (sym (append_assoc front (x ∷ []) y.0))
regroup front x (Err f) = refl

-- the highest type that the next item may have
highest : (count at : ℕ) → count ≤ 3 → at < count → 3 - (count - (at + 1)) ≡ 4 - count + at
highest count at le lt = omega arith

pub goes_on : (front : List Item) (count at above : ℕ) (bytes : List ℕ) (x : Item) (after : List ℕ) (total : Read) → count ≤ 3 → at < count
    → item_at (above + 1) (4 - count + at) bytes ≡ Ok (x, after) → with_front front (more_items_at (count - at) above bytes) ≡ total
    → with_front (front ++ x ∷ []) (more_items_at (count - (at + 1)) x.kind after) ≡ total
unfolding more_items_at bind done
goes_on front count at above bytes x after total le lt first so_far =
    let k : count - at ≡ suc (count - (at + 1)) = omega arith in
    let read : item_at (above + 1) (3 - (count - (at + 1))) bytes ≡ Ok (x, after) = ap (λ (high : ℕ). item_at (above + 1) high bytes) (highest count at le lt) ∙ first in
    let one : with_front front (more_items_at (count - at) above bytes) ≡ with_front (front ++ x ∷ []) (more_items_at (count - (at + 1)) x.kind after) =
    rw (k, read) (regroup front x (more_items_at (count - (at + 1)) x.kind after)) in
    sym one ∙ so_far

pub ends : (e : ReadError) (front : List Item) (count at above : ℕ) (bytes : List ℕ) (total : Read) → count ≤ 3 → at < count
    → Fails e (item_at (above + 1) (4 - count + at) bytes) → with_front front (more_items_at (count - at) above bytes) ≡ total → Fails e total
unfolding more_items_at bind
ends errors.Memory front count at above bytes total le lt h so_far = tt
ends (errors.Fault f) front count at above bytes total le lt h so_far =
    let k : count - at ≡ suc (count - (at + 1)) = omega arith in
    let read : item_at (above + 1) (3 - (count - (at + 1))) bytes ≡ Err f = ap (λ (high : ℕ). item_at (above + 1) high bytes) (highest count at le lt) ∙ h in
    let one : with_front front (more_items_at (count - at) above bytes) ≡ Err f = rw (k, read) refl in
    sym so_far ∙ one

pub is_done : (front : List Item) (count at above : ℕ) (bytes : List ℕ) (total : Read) → count ≤ at → with_front front (more_items_at (count - at) above bytes) ≡ total → total ≡ Ok (front, bytes)
unfolding more_items_at done
is_done front count at above bytes total le so_far =
    let k : count - at ≡ 0 = omega arith in
    let one : with_front front (more_items_at (count - at) above bytes) ≡ Ok (front, bytes) = rw k (ap (λ (xs : List Item). Ok (xs, bytes)) (append-nil front)) in
    sym so_far ∙ one

pub begins : (read : Read) → with_front [] read ≡ read
begins (Ok x) = refl
begins (Err f) = refl
