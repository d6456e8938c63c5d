-- Quotes with their marks.
use Rattle.std.proofs.Common.{◌≡◌, refl, sym, ap, subst, ◌∙◌, ℕ, zero, suc, ◌-◌, ◌*◌, ◌/◌, ◌<◌, ◌≤◌, Bool, true, false, cond, List, [], ◌∷◌, ◌++◌, map, length, get_or, arith, IsTrue}
use Rattle.std.specs.Prelude.{◌==◌, ◌||◌, slice_set, slice_get, Some, None, is_some}
use Rattle.std.specs.List.{list_any}
use Rattle.std.specs.Option.{option_map, option_map_or}
use Rattle.std.specs.declared.option.Option.{Option}
use Rattle.std.proofs.Math.Nat.{div-le_of_le-mul}
use Rattle.std.proofs.Math.Seq.{map-set_same}
use Rattle.std.proofs.lemmas.Bool.Decides.{nat_tests}
use Rattle.std.proofs.lemmas.List.Elements.{All-set, All-get_or, All-append, All-cons, All-nil}
use Rattle.std.proofs.lemmas.Option.{slice_get-map, slice_get_read}
use Rattle.op_amount.specs.Rates.{floor_mul}
use Rattle.op_incoming.proofs.Places.{place_of_some, nth_of_place, nth-with_item}
use Rattle.op_model.specs.History.{nth}
use Rattle.op_model.specs.Payments.{PaymentMade, made_from_quote}
use Rattle.op_model.specs.declared.row.OutgoingRow.{OutgoingRow}
use Rattle.op_model.specs.declared.row.QuoteRow.{QuoteRow}
use Rattle.op_model.proofs.Items.{set_at_is_with_item}
use Rattle.op_outgoing.specs.Sound.{ArePriced, IsSoundRow}
use Rattle.op_outgoing.specs.Tied.{AreTied}
use Rattle.op_outgoing.specs.Value.{OutgoingsValue, is_from, is_paid_in, with_fresh, with_made, fresh_row}
use Rattle.op_outgoing.specs.declared.quoted.Quoted.{Quoted}
use Rattle.op_outgoing.proofs.Holding.{zero_share}

-- what callers see of quotes
abbrev pub rows_of : List Quoted → List QuoteRow
rows_of quotes = map (λ quoted. quoted.row) quotes

pub nth_row : (quotes : List Quoted) (q : ℕ) → nth (rows_of quotes) q ≡ option_map (λ quoted. quoted.row) (nth quotes q)
nth_row quotes zero = refl
nth_row quotes (suc m) = slice_get-map (λ quoted. quoted.row) quotes m

there_step : (found : Option Quoted) → IsTrue (is_some (option_map (λ quoted. quoted.row) found)) → IsTrue (is_some found)
there_step None h = h
there_step (Some x) h = refl

pub there_of : (quotes : List Quoted) (q : ℕ) → IsTrue (is_some (nth (rows_of quotes) q)) → IsTrue (is_some (nth quotes q))
there_of quotes q there = there_step (nth quotes q) (subst (λ found. IsTrue (is_some found)) (nth_row quotes q) there)

-- ---- quote q, as it is found

pub record IsQuote (quotes : List Quoted) (rows : List OutgoingRow) (q : ℕ) (x : Quoted) : Type 0 where
  pub found : nth (rows_of quotes) q ≡ Some x.row
  pub paid : is_paid_in rows q ≡ x.used
  pub expiry : option_map_or (λ row. row.expiry) (nth (rows_of quotes) q) 0 ≡ x.row.expiry
  pub priced : ArePriced x.row.terms

pub quote_at : (quotes : List Quoted) (rows : List OutgoingRow) (q : ℕ) (x : Quoted) → AreTied quotes rows → IsTrue (is_some (nth (rows_of quotes) q)) → x ≡ get_or quotes (q - 1) x → IsQuote quotes rows q x
quote_at quotes rows q x tied there at =
    let inside = there_of quotes q there in
    let got = nth_of_place quotes q x inside at in
    let found : nth (rows_of quotes) q ≡ Some x.row = nth_row quotes q ∙ ap (option_map (λ quoted. quoted.row)) got in
    record {
      found = found;
      paid = sym (tied.marked q) ∙ ap (λ o. option_map_or (λ quoted. quoted.used) o false) got;
      expiry = ap (λ o. option_map_or (λ row. row.expiry) o 0) found;
      priced = subst (λ quoted. ArePriced quoted.row.terms) (sym at) (All-get_or (λ quoted. ArePriced quoted.row.terms) quotes (q - 1) x (place_of_some quotes q inside) tied.priced);
    }

-- ---- one more quote

more_from : (xs : List Quoted) (y : Quoted) (i : ℕ) → y.used ≡ false → option_map_or (λ quoted. quoted.used) (slice_get (xs ++ y ∷ []) i) false ≡ option_map_or (λ quoted. quoted.used) (slice_get xs i) false
more_from [] y zero h = h
more_from [] y (suc i) h = refl
more_from (x ∷ xs) y zero h = refl
more_from (x ∷ xs) y (suc i) h = more_from xs y i h

more : (xs : List Quoted) (y : Quoted) (q : ℕ) → y.used ≡ false → option_map_or (λ quoted. quoted.used) (nth (xs ++ y ∷ []) q) false ≡ option_map_or (λ quoted. quoted.used) (nth xs q) false
more xs y zero h = refl
more xs y (suc i) h = more_from xs y i h

pub tied_more : (quotes : List Quoted) (rows : List OutgoingRow) (y : Quoted) → AreTied quotes rows → y.used ≡ false → ArePriced y.row.terms → AreTied (quotes ++ y ∷ []) rows
tied_more quotes rows y tied unused priced = record {
  priced = All-append (λ quoted. ArePriced quoted.row.terms) quotes (y ∷ []) tied.priced (All-cons (λ quoted. ArePriced quoted.row.terms) y [] priced (All-nil (λ quoted. ArePriced quoted.row.terms)));
  marked = λ q. more quotes y q unused ∙ tied.marked q;
}

-- ---- a payment from a quote

abbrev pub mark : Quoted → Quoted
mark quoted = record quoted { used = true }

or_none : (b : Bool) → b ≡ (b || false)
or_none true = refl
or_none false = refl

or_assoc : (a b c : Bool) → (a || (b || c)) ≡ ((a || b) || c)
or_assoc true b c = refl
or_assoc false b c = refl

same_number : (m n : ℕ) → (m == n) ≡ true → m ≡ n
same_number m n h = grind (arith, nat_tests)

number_sym : (m n : ℕ) → (m == n) ≡ (n == m)
number_sym m n = grind (arith, nat_tests)

any_more : (test : OutgoingRow → Bool) (rows : List OutgoingRow) (row : OutgoingRow) → list_any test (rows ++ row ∷ []) ≡ (list_any test rows || test row)
any_more test [] row = sym (or_none (test row))
any_more test (r ∷ rows) row = ap (λ b. test r || b) (any_more test rows row) ∙ or_assoc (test r) (list_any test rows) (test row)

or_true : (b : Bool) → (b || true) ≡ true
or_true true = refl
or_true false = refl

marked_step : (t : Bool) (found : Option Quoted) (paid : Bool) → option_map_or (λ quoted. quoted.used) found false ≡ paid → (t ≡ true → IsTrue (is_some found)) → option_map_or (λ quoted. quoted.used) (cond t (option_map mark found) found) false ≡ (paid || t)
marked_step true None paid same there = absurd (let no : false ≡ true = there refl in cc)
marked_step true (Some x) paid same there = sym (or_true paid)
marked_step false found paid same there = same ∙ or_none paid

pub tied_made : (quotes : List Quoted) (rows : List OutgoingRow) (q : ℕ) (x : Quoted) (row : OutgoingRow) → AreTied quotes rows → IsTrue (is_some (nth quotes q)) → x ≡ get_or quotes (q - 1) x → row.quote ≡ Some q → AreTied (slice_set quotes (q - 1) (mark x)) (rows ++ row ∷ [])
tied_made quotes rows q x row tied there at from =
    let priced = subst (λ quoted. ArePriced quoted.row.terms) (sym at) (All-get_or (λ quoted. ArePriced quoted.row.terms) quotes (q - 1) x (place_of_some quotes q there) tied.priced) in
    record {
      priced = All-set (λ quoted. ArePriced quoted.row.terms) quotes (q - 1) (mark x) priced tied.priced;
      marked = λ m.
          ap (λ qs. option_map_or (λ quoted. quoted.used) (nth qs m) false) (set_at_is_with_item mark q quotes x there at)
          ∙ ap (λ o. option_map_or (λ quoted. quoted.used) o false) (nth-with_item mark quotes q m)
          ∙ marked_step (m == q) (nth quotes m) (is_paid_in rows m) (tied.marked m) (λ is. subst (λ k. IsTrue (is_some (nth quotes k))) (sym (same_number m q is)) there)
          ∙ ap (λ t. is_paid_in rows m || t) (number_sym m q ∙ sym (ap (λ quote. option_map_or (λ n. n == m) quote false) from))
          ∙ sym (any_more (is_from m) rows row);
    }

-- callers see no mark
pub rows_marked : (quotes : List Quoted) (i : ℕ) (x : Quoted) → x ≡ get_or quotes i x → rows_of (slice_set quotes i (mark x)) ≡ rows_of quotes
rows_marked quotes i x at = map-set_same (λ quoted. quoted.row) quotes i (mark x) x (ap (λ quoted. quoted.row) at)

fresh_step : (value : OutgoingsValue) (t q grant : ℕ) (metadata : Option (List ℕ)) (row : QuoteRow) (found : Option QuoteRow) → found ≡ Some row → option_map_or (λ quote. with_made value (made_from_quote t grant q metadata quote)) found value ≡ with_made value (made_from_quote t grant q metadata row)
fresh_step value t q grant metadata row found is = rw is refl

pub fresh_is : (value : OutgoingsValue) (t q grant : ℕ) (metadata : Option (List ℕ)) (row : QuoteRow) → nth value.quotes q ≡ Some row → with_fresh value t q grant metadata ≡ with_made value (made_from_quote t grant q metadata row)
fresh_is value t q grant metadata row found = fresh_step value t q grant metadata row (nth value.quotes q) found

pub zero_floor : (num den : ℕ) → floor_mul 0 num den ≡ 0
zero_floor num den = let none : 0 * num / den ≤ 0 = div-le_of_le-mul den (omega arith) in omega arith

pub sound_fresh : (made : PaymentMade) → ArePriced made.terms → IsSoundRow (fresh_row made)
sound_fresh made priced = record {
  priced = priced;
  sent = omega arith;
  fee = sym (zero_share made.terms.fee made.terms.source);
  delivered = sym (zero_floor made.terms.num made.terms.den);
  far = (refl, refl);
}

-- a payment without a quote marks none
pub tied_direct : (quotes : List Quoted) (rows : List OutgoingRow) (row : OutgoingRow) → AreTied quotes rows → row.quote ≡ None → AreTied quotes (rows ++ row ∷ [])
tied_direct quotes rows row tied from = record {
  priced = tied.priced;
  marked = λ q.
      tied.marked q ∙ or_none (is_paid_in rows q)
      ∙ ap (λ t. is_paid_in rows q || t) (sym (ap (λ quote. option_map_or (λ n. n == q) quote false) from))
      ∙ sym (any_more (is_from q) rows row);
}

-- ---- quote n, as an index gives it

nth_of_index : (quotes : List Quoted) (n : ℕ) (x : Quoted) → 1 ≤ n → slice_get quotes (n - 1) ≡ Some x → nth quotes n ≡ Some x
nth_of_index quotes zero x some h = absurd (omega arith)
nth_of_index quotes (suc m) x some h = let same : suc m - 1 ≡ m = omega arith in subst (λ k. slice_get quotes k ≡ Some x) same h

index_step : (quotes : List Quoted) (n : ℕ) (x : Quoted) → 1 ≤ n → n - 1 < length quotes → x ≡ get_or quotes (n - 1) x → nth (rows_of quotes) n ≡ Some x.row
index_step quotes n x some within at =
    nth_row quotes n ∙ ap (option_map (λ quoted. quoted.row)) (nth_of_index quotes n x some (slice_get_read quotes (length quotes) (n - 1) x refl within at))

pub quote_found : (quotes listed : List Quoted) (n place : ℕ) (x : Quoted) → listed ≡ quotes → (1 ≤ n) × (place ≡ n - 1) → place < length listed → x ≡ get_or listed place x → nth (rows_of quotes) n ≡ Some x.row
quote_found quotes listed n place x same number within at =
    index_step quotes n x number.0 (subst (λ xs. n - 1 < length xs) same (subst (λ k. k < length listed) number.1 within)) (subst (λ xs. x ≡ get_or xs (n - 1) x) same (subst (λ k. x ≡ get_or listed k x) number.1 at))
