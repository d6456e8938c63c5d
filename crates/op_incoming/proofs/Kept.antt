-- What is kept of incoming payments, behind each change.
use Rattle.std.proofs.Common.{◌≡◌, refl, sym, ap, subst, ◌∙◌, ℕ, zero, suc, ◌+◌, ◌-◌, ◌<◌, ◌≤◌, Bool, true, false, cond, List, [], ◌∷◌, ◌++◌, length, get_or, arith, IsTrue}
use Rattle.std.specs.Prelude.{◌==◌, ◌&&◌, not, nat_lt, filter, slice_set, Some, None, unwrap_or, IfSome, All}
use Rattle.std.specs.Option.{option_map_or, option_to_list}
use Rattle.std.specs.declared.option.Option.{Option}
use Rattle.std.proofs.lemmas.Bool.Decides.{nat_tests}
use Rattle.std.proofs.lemmas.List.Elements.{All-set, All-get_or, All-append, All-cons, All-nil}
use Rattle.op_amount.specs.declared.TheConstants.{TOP}
use Rattle.op_model.specs.History.{nth}
use Rattle.op_model.specs.Incoming.{bound_of}
use Rattle.op_model.specs.declared.row.IncomingRow.{IncomingRow}
use Rattle.op_model.proofs.Items.{set_at_is_with_item}
use Rattle.op_model.proofs.Next.{numbered_collected-next}
use Rattle.op_model.specs.Numbers.{number_if, numbers_where}
use Rattle.op_incoming.specs.Rows.{has_row, is_unclosed, is_unfinished, received_by, bound_in, fresh, closed_as, with_received}
use Rattle.op_incoming.specs.Within.{IsWithin, AreKept}
use Rattle.op_incoming.specs.declared.incoming.Closing.{Closing}
use Rattle.op_incoming.specs.declared.incoming.Incoming.{Incoming}
use Rattle.op_model.proofs.Numbers.{numbers_where-stays, numbers_where-leaves}
use Rattle.op_incoming.proofs.Places.{place_of_some, nth_of_place}

-- ---- one payment

pub within_at : (rows : List Incoming) (n : ℕ) (x : Incoming) → All IsWithin rows → IsTrue (has_row rows n) → x ≡ get_or rows (n - 1) x → IsWithin x
within_at rows n x all there at =
    subst IsWithin (sym at) (All-get_or IsWithin rows (n - 1) x (place_of_some rows n there) all)

below_at : (found : Option Incoming) (x : Incoming) → found ≡ Some x → option_map_or (λ i. i.received) found 0 < option_map_or (λ i. bound_of i.row) found 0 → x.received < bound_of x.row
below_at found x is h = rw is at h

pub below_of : (rows : List Incoming) (n : ℕ) (x : Incoming) → IsTrue (has_row rows n) → x ≡ get_or rows (n - 1) x → received_by rows n < bound_in rows n → x.received < bound_of x.row
below_of rows n x there at h = below_at (nth rows n) x (nth_of_place rows n x there at) h

within_closed : (closing : Closing) (x : Incoming) → IsWithin x → IsWithin (closed_as closing x)
within_closed closing x within = record { bound = within.bound; received = within.received }

within_received : (value : ℕ) (x : Incoming) → IsWithin x → x.received < bound_of x.row → value ≤ TOP → IsWithin (with_received value x)
within_received value x within below few = record {
  bound = within.bound;
  received = let bound = within.bound in omega arith;
}

unfinished_before : (may : Bool) (received value bound : ℕ) → (may && nat_lt (received + value) bound) ≡ true → (may && nat_lt received bound) ≡ true
unfinished_before true received value bound h = grind (arith, nat_tests)
unfinished_before false received value bound h = h

-- ---- changes

pub kept_leaves : (rows : List Incoming) (unfinished left : List ℕ) (n : ℕ) (change : Incoming → Incoming) (x : Incoming) → AreKept rows unfinished → IsTrue (has_row rows n) → x ≡ get_or rows (n - 1) x → IsWithin (change x) → is_unfinished (change x) ≡ false → left ≡ filter (λ k. not (k == n)) unfinished → AreKept (slice_set rows (n - 1) (change x)) left
kept_leaves rows unfinished left n change x kept there at within closed is = record {
  within = All-set IsWithin rows (n - 1) (change x) within kept.within;
  listed = is ∙ ap (filter (λ k. not (k == n))) kept.listed
      ∙ sym (numbers_where-leaves is_unfinished change rows n x (nth_of_place rows n x there at) closed)
      ∙ ap (numbers_where is_unfinished) (sym (set_at_is_with_item change n rows x there at));
}

kept_stays : (rows : List Incoming) (unfinished : List ℕ) (n : ℕ) (change : Incoming → Incoming) (x : Incoming) → AreKept rows unfinished → IsTrue (has_row rows n) → x ≡ get_or rows (n - 1) x → IsWithin (change x) → is_unfinished (change x) ≡ is_unfinished x → AreKept (slice_set rows (n - 1) (change x)) unfinished
kept_stays rows unfinished n change x kept there at within same = record {
  within = All-set IsWithin rows (n - 1) (change x) within kept.within;
  listed = kept.listed
      ∙ sym (numbers_where-stays is_unfinished change rows n x (nth_of_place rows n x there at) same)
      ∙ ap (numbers_where is_unfinished) (sym (set_at_is_with_item change n rows x there at));
}

closed_now : (closing : Closing) (x : Incoming) → is_unclosed closing ≡ false → is_unfinished (closed_as closing x) ≡ false
closed_now closing x is = ap (λ may. may && nat_lt x.received (bound_of x.row)) is

pub kept_closed : (rows : List Incoming) (unfinished left : List ℕ) (n : ℕ) (closing : Closing) (x : Incoming) → AreKept rows unfinished → IsTrue (has_row rows n) → x ≡ get_or rows (n - 1) x → is_unclosed closing ≡ false → left ≡ filter (λ k. not (k == n)) unfinished → AreKept (slice_set rows (n - 1) (closed_as closing x)) left
kept_closed rows unfinished left n closing x kept there at closed is =
    kept_leaves rows unfinished left n (closed_as closing) x kept there at (within_closed closing x (within_at rows n x kept.within there at)) (closed_now closing x closed) is

pub kept_full : (rows : List Incoming) (unfinished left : List ℕ) (n value : ℕ) (x : Incoming) → AreKept rows unfinished → IsTrue (has_row rows n) → x ≡ get_or rows (n - 1) x → received_by rows n < bound_in rows n → value ≤ TOP → is_unfinished (with_received value x) ≡ false → left ≡ filter (λ k. not (k == n)) unfinished → AreKept (slice_set rows (n - 1) (with_received value x)) left
kept_full rows unfinished left n value x kept there at below few closed is =
    kept_leaves rows unfinished left n (with_received value) x kept there at
    (within_received value x (within_at rows n x kept.within there at) (below_of rows n x there at below) few) closed is

pub kept_partly : (rows : List Incoming) (unfinished : List ℕ) (n value : ℕ) (x : Incoming) → AreKept rows unfinished → IsTrue (has_row rows n) → x ≡ get_or rows (n - 1) x → received_by rows n < bound_in rows n → value ≤ TOP → is_unfinished (with_received value x) ≡ true → AreKept (slice_set rows (n - 1) (with_received value x)) unfinished
kept_partly rows unfinished n value x kept there at below few may =
    kept_stays rows unfinished n (with_received value) x kept there at
    (within_received value x (within_at rows n x kept.within there at) (below_of rows n x there at below) few)
    (may ∙ sym (unfinished_before (is_unclosed x.closing) x.received value (bound_of x.row) may))

-- ---- one more

pub bound_fits : (amount : Option ℕ) → IfSome amount (λ a. a ≤ TOP) → (amount ≡ Some 0 → ⊥) → (unwrap_or amount TOP ≤ TOP) × (nat_lt 0 (unwrap_or amount TOP) ≡ true)
bound_fits None few some = (omega arith, refl)
bound_fits (Some zero) few some = absurd (some refl)
bound_fits (Some (suc a)) few some = (few, grind (arith, nat_tests))

pub kept_made : (rows : List Incoming) (unfinished : List ℕ) (row : IncomingRow) (number : ℕ) → AreKept rows unfinished → (bound_of row ≤ TOP) × (nat_lt 0 (bound_of row) ≡ true) → number ≡ 1 + length rows → AreKept (rows ++ fresh row ∷ []) (unfinished ++ number ∷ [])
kept_made rows unfinished row number kept fits is = record {
  within = All-append IsWithin rows (fresh row ∷ []) kept.within (All-cons IsWithin (fresh row) [] (record { bound = fits.0; received = omega arith }) (All-nil IsWithin));
  listed = ap (λ xs. xs ++ number ∷ []) kept.listed ∙ ap (λ k. numbers_where is_unfinished rows ++ k ∷ []) is
      ∙ sym (numbered_collected-next (number_if is_unfinished) rows (fresh row)
      ∙ ap (λ b. numbers_where is_unfinished rows ++ option_to_list (cond b (Some (1 + length rows)) None)) fits.1);
}
