-- How a book keeps its round.
use Rattle.std.proofs.Common.{◌≡◌, ◌⊎◌, inl, inr, ℕ, zero, suc, ◌<◌, Bool, true, false, List, [], ◌∷◌, ◌++◌, length, refl, sym, ◌∙◌, ap, subst, arith}
use Rattle.std.specs.Prelude.{Some, None, slice_get, slice_set, replicate}
use Rattle.std.specs.declared.option.Option.{Option}
use Rattle.std.proofs.lemmas.Bool.{cases_eq, false≢true}
use Rattle.std.proofs.lemmas.Option.{slice_get_within}
use Rattle.std.proofs.lemmas.List.{length-set, length-replicate}
use Rattle.std.proofs.lemmas.List.Sorted.{IsPermutation-refl}
use Rattle.op_desk.specs.Batches.{BatchValue, history_in}
use Rattle.op_desk.specs.Wallets.{handled_at}
use Rattle.op_model.specs.Round.{FeesAllowed, Handled, IsHandledNext, IsRound}
use Rattle.op_model.specs.declared.act.Entry.{Entry}
use Rattle.op_model.specs.declared.reply.Reply.{Reply}
use Rattle.op_model.specs.declared.request.Task.{Task}
use Rattle.op_round.specs.Books.{Asking, BookValue, Fits, FitsAt, IsKept, IsActed, somes}
use Rattle.op_round.proofs.Rounds.{get_set_same, get_set_other, goes_on}

there : {X : Type 0} (xs : List X) (i : ℕ) → i < length xs → (x : X) × (slice_get xs i ≡ Some x)
there [] i le = absurd (omega arith)
there (x ∷ xs) zero le = (x, refl)
there (x ∷ xs) (suc i) le = there xs i (omega arith)

abbrev pub picked : {X : Type 0} → X → Option X → X
picked d None = d
picked d (Some x) = x

pub same_there : {X : Type 0} (o : Option X) (x y : X) → o ≡ Some x → o ≡ Some y → x ≡ y
same_there o x y left right = ap (picked x) (sym left ∙ right)

module _ (allows : FeesAllowed) (start : List Entry) (t : ℕ) (asked : Asking) (old : BookValue) (kept : IsKept allows start t asked old) (index : ℕ) where
  free_slot : (slot : Option Handled) → slice_get kept.slots index ≡ Some slot → FitsAt asked old index slot → slice_get old.batch.used index ≡ Some false → slice_get kept.slots index ≡ Some None
  free_slot None is fits unused = is
  free_slot (Some one) is fits unused = absurd (false≢true (same_there (slice_get old.batch.used index) false true unused fits.1))

  pub free : index < length asked → slice_get old.batch.used index ≡ Some false → slice_get kept.slots index ≡ Some None
  free within unused =
      let slot = there kept.slots index (subst (λ (n : ℕ). index < n) (sym kept.fits.size) within) in
      free_slot slot.0 slot.1 (kept.fits.each index slot.0 slot.1) unused

  -- what is kept of an index says whether it was used
  by_slot : (slot : Option Handled) → FitsAt asked old index slot
      → ((slice_get old.batch.used index ≡ Some false) × (slice_get old.replies index ≡ Some None)) ⊎ ((r : Reply) × (slice_get old.batch.used index ≡ Some true) × (slice_get old.replies index ≡ Some (Some r)))
  by_slot None fits = inl fits
  by_slot (Some one) fits = inr (one.reply, fits.1, fits.3)

  pub is_told : index < length asked
      → ((slice_get old.batch.used index ≡ Some false) × (slice_get old.replies index ≡ Some None)) ⊎ ((r : Reply) × (slice_get old.batch.used index ≡ Some true) × (slice_get old.replies index ≡ Some (Some r)))
  is_told within =
      let slot = there kept.slots index (subst (λ (n : ℕ). index < n) (sym kept.fits.size) within) in
      by_slot slot.0 (kept.fits.each index slot.0 slot.1)

  module _ (new : BookValue) (word : List ℕ) (task : Task) (reply : Reply) (named : slice_get asked index ≡ Some (Some (record { word = word; task = task }))) (unused : slice_get old.batch.used index ≡ Some false) (acted : IsActed allows old new index word task reply) (begun : new.batch.begun ≡ old.batch.begun) (moment : new.batch.moment ≡ old.batch.moment) where
    is_free : slice_get kept.slots index ≡ Some None
    is_free = free (slice_get_within asked index _ named) unused

    abbrev one : Handled
    one = handled_at (length old.batch.entries) task word acted.handled.0 acted.handled.1 reply

    others : (i : ℕ) → (i ≡ index → ⊥) → (slot : Option Handled) → FitsAt asked old i slot → FitsAt asked new i slot
    others i other None fits = (
      ap (λ (l : List Bool). slice_get l i) acted.used ∙ get_set_other old.batch.used index i true other ∙ fits.0,
      ap (λ (l : List (Option Reply)). slice_get l i) acted.replies ∙ get_set_other old.replies index i (Some reply) other ∙ fits.1,
    )
    others i other (Some h) fits = (
      fits.0,
      ap (λ (l : List Bool). slice_get l i) acted.used ∙ get_set_other old.batch.used index i true other ∙ fits.1,
      ap (λ (l : List ℕ). slice_get l i) acted.places ∙ get_set_other old.batch.places index i (length old.batch.entries) other ∙ fits.2,
      ap (λ (l : List (Option Reply)). slice_get l i) acted.replies ∙ get_set_other old.replies index i (Some reply) other ∙ fits.3,
      fits.4,
    )

    module _ (replies : index < length old.replies) where
      within_places : index < length old.batch.places
      within_places = subst (λ (n : ℕ). index < n) (sym kept.fits.places) (slice_get_within asked index _ named)

      here : FitsAt asked new index (Some one)
      here = (
        named,
        ap (λ (l : List Bool). slice_get l index) acted.used ∙ get_set_same old.batch.used index true (slice_get_within old.batch.used index false unused),
        ap (λ (l : List ℕ). slice_get l index) acted.places ∙ get_set_same old.batch.places index (length old.batch.entries) within_places,
        ap (λ (l : List (Option Reply)). slice_get l index) acted.replies ∙ get_set_same old.replies index (Some reply) replies,
        acted.tellable,
      )

      fits_next : Fits asked new (slice_set kept.slots index (Some one))
      fits_next = record {
        size = length-set kept.slots index (Some one) ∙ kept.fits.size;
        places = ap (λ (l : List ℕ). length l) acted.places ∙ length-set old.batch.places index (length old.batch.entries) ∙ kept.fits.places;
        replies = ap (λ (l : List (Option Reply)). length l) acted.replies ∙ length-set old.replies index (Some reply) ∙ kept.fits.replies;
        each = λ i slot is. elim (cases_eq i index) [
          | inl same ↦
              let at_index = subst (λ (k : ℕ). slice_get (slice_set kept.slots index (Some one)) k ≡ Some slot) same is in
              let is_one : Some one ≡ slot = same_there _ (Some one) slot (get_set_same kept.slots index (Some one) (slice_get_within kept.slots index None is_free)) at_index in
              subst (λ (k : ℕ). FitsAt asked new k slot) (sym same) (subst (λ (s : Option Handled). FitsAt asked new index s) is_one here)
          | inr other ↦ others i other slot (kept.fits.each i slot (sym (get_set_other kept.slots index i (Some one) other) ∙ is))
        ];
      }

      handled : IsHandledNext allows (start ++ old.batch.entries) t one (start ++ new.batch.entries)
      handled =
          subst (λ (h : List Entry). IsHandledNext allows (start ++ old.batch.entries) t one (h ++ new.batch.entries)) (begun ∙ kept.begun)
          (subst (λ (m : ℕ). IsHandledNext allows (start ++ old.batch.entries) m one (history_in new.batch)) kept.moment
          (subst (λ (h : List Entry). IsHandledNext allows (h ++ old.batch.entries) old.batch.moment one (history_in new.batch)) kept.begun acted.handled.2))

      pub kept_next : IsKept allows start t asked new
      kept_next = record {
        begun = begun ∙ kept.begun;
        moment = moment ∙ kept.moment;
        slots = slice_set kept.slots index (Some one);
        fits = fits_next;
        round = goes_on allows start t kept.slots old.batch.entries kept.round index is_free one refl new.batch.entries handled;
      }

-- ---- at the beginning

nothing_used : (n : ℕ) → somes {X = Handled} (replicate n None) ≡ []
nothing_used zero = refl
nothing_used (suc n) = nothing_used n

pub get_replicate : {X : Type 0} (n i : ℕ) (x : X) → i < n → slice_get (replicate n x) i ≡ Some x
get_replicate zero i x le = absurd (omega (arith, le))
get_replicate (suc n) zero x le = refl
get_replicate (suc n) (suc i) x le = get_replicate n i x (omega (arith, le))

module _ (allows : FeesAllowed) (start : List Entry) (t : ℕ) (asked : Asking) (batch : BatchValue) (replies : List (Option Reply)) (begun : batch.begun ≡ start) (moment : batch.moment ≡ t) (entries : batch.entries ≡ []) (places : batch.places ≡ replicate (length asked) 0) (used : batch.used ≡ replicate (length asked) false) (slots : replies ≡ replicate (length asked) None) where
  abbrev book : BookValue
  book = record { batch = batch; replies = replies }

  unused_at : (i : ℕ) → i < length asked → FitsAt asked book i None
  unused_at i within = (ap (λ (l : List Bool). slice_get l i) used ∙ get_replicate (length asked) i false within, ap (λ (l : List (Option Reply)). slice_get l i) slots ∙ get_replicate (length asked) i None within)

  pub begins : IsKept allows start t asked book
  begins = record {
    begun = begun;
    moment = moment;
    slots = replicate (length asked) None;
    fits = record {
      size = length-replicate (length asked) None;
      places = ap (λ (l : List ℕ). length l) places ∙ length-replicate (length asked) 0;
      replies = ap (λ (l : List (Option Reply)). length l) slots ∙ length-replicate (length asked) None;
      each = λ i slot is.
          let within : i < length asked = subst (λ (n : ℕ). i < n) (length-replicate (length asked) None) (slice_get_within {A = Option Handled} (replicate (length asked) None) i slot is) in
          subst (λ (s : Option Handled). FitsAt asked book i s) (same_there _ None slot (get_replicate (length asked) i None within) is) (unused_at i within);
    };
    round = subst (λ (l : List Handled). IsRound allows start t l batch.entries) (sym (nothing_used (length asked)))
        (subst (λ (l : List Entry). IsRound allows start t [] l) (sym entries) (record { moment = tt; handled = tt; once = IsPermutation-refl _ }));
  }

-- ---- bounds

module _ (allows : FeesAllowed) (start : List Entry) (t : ℕ) (asked : Asking) (book : BookValue) (kept : IsKept allows start t asked book) (index : ℕ) (within : index < length asked) where
  pub replies_within : index < length book.replies
  replies_within = elim (is_told allows start t asked book kept index within) [
    | inl (u, r) ↦ slice_get_within book.replies index None r
    | inr (reply, u, r) ↦ slice_get_within book.replies index (Some reply) r
  ]

  pub used_told : (b : Bool) → (slice_get book.replies index ≡ Some None → b ≡ false) → ((r : Reply) → slice_get book.replies index ≡ Some (Some r) → b ≡ true) → slice_get book.batch.used index ≡ Some b
  used_told b none some = elim (is_told allows start t asked book kept index within) [
    | inl (u, r) ↦ u ∙ ap (λ (x : Bool). Some x) (sym (none r))
    | inr (reply, u, r) ↦ u ∙ ap (λ (x : Bool). Some x) (sym (some reply r))
  ]
