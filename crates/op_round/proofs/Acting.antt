-- What acts leave of the indexes that were used.
use Rattle.std.proofs.Common.{◌≡◌, ◌⊎◌, inl, inr, ℕ, ◌+◌, ◌<◌, Bool, true, false, List, length, refl, sym, ◌∙◌, ap, subst, arith}
use Rattle.std.specs.Prelude.{Some, None, slice_get, slice_set, slice_index_or}
use Rattle.std.specs.Option.{is_some}
use Rattle.std.specs.declared.option.Option.{Option}
use Rattle.std.proofs.lemmas.Bool.{cases_eq, false≢true}
use Rattle.std.proofs.lemmas.Option.{slice_get_within, slice_get_read}
use Rattle.op_desk.specs.Batches.{BatchValue}
use Rattle.op_model.specs.Round.{FeesAllowed}
use Rattle.op_model.specs.declared.act.Entry.{Entry}
use Rattle.op_model.specs.declared.reply.Reply.{Reply}
use Rattle.op_round.specs.Books.{Asked, Asking, BookValue, IsKept, IsDone, AllUsed, GrowsUsed}
use Rattle.op_round.proofs.Rounds.{get_set_same, get_set_other}

module _ (old new : List Bool) (index : ℕ) (b : Bool) (there : slice_get old index ≡ Some b) (set : new ≡ slice_set old index true) where
  pub used_now : slice_get new index ≡ Some true
  used_now = ap (λ (l : List Bool). slice_get l index) set ∙ get_set_same old index true (slice_get_within old index b there)

  pub still_used : GrowsUsed old new
  still_used = λ i is. elim (cases_eq i index) [
    | inl same ↦ subst (λ (k : ℕ). slice_get new k ≡ Some true) (sym same) used_now
    | inr other ↦ ap (λ (l : List Bool). slice_get l i) set ∙ get_set_other old index i true other ∙ is
  ]

-- one index more
pub used_more : (n : ℕ) (asked : Asking) (old new : List Bool) → AllUsed n asked old → GrowsUsed old new → ((a : Asked) → slice_get asked n ≡ Some (Some a) → slice_get new n ≡ Some true) → AllUsed (n + 1) asked new
used_more n asked old new all grows last = λ i a within is. elim (cases_eq i n) [
  | inl same ↦ subst (λ (k : ℕ). slice_get new k ≡ Some true) (sym same) (last a (subst (λ (k : ℕ). slice_get asked k ≡ Some (Some a)) same is))
  | inr other ↦ grows i (all i a (omega (arith, within, other)) is)
]

-- what is read at an index, and found there
pub read_is : {X : Type 0} (xs : List (Option X)) (i : ℕ) (r : Option X) (x : X) → i < length xs → r ≡ slice_index_or xs i r → r ≡ Some x → slice_get xs i ≡ Some (Some x)
read_is xs i r x within read is = slice_get_read xs (length xs) i r refl within read ∙ ap (λ (o : Option _). Some o) is

abbrev inner : {X : Type 0} → X → Option (Option X) → Option X
inner d None = Some d
inner d (Some o) = o

pub not_there : {X : Type 0} (xs : List (Option X)) (i : ℕ) (r : Option X) → i < length xs → r ≡ slice_index_or xs i r → r ≡ None → (x : X) → slice_get xs i ≡ Some (Some x) → ⊥
not_there xs i r within read none x there =
    let found = slice_get_read xs (length xs) i r refl within read in
    some_none x (sym (ap (inner x) there) ∙ ap (inner x) found ∙ none)
  where
    some_none : {X : Type 0} (x : X) → Some x ≡ None → ⊥
    some_none x is = false≢true (sym (ap is_some is))

-- a book in which all were used ends as a whole round
pub done : (allows : FeesAllowed) (start : List Entry) (t : ℕ) (asked : Asking) (book : BookValue) (batch : BatchValue) (replies : List (Option Reply)) → IsKept allows start t asked book → AllUsed (length asked) asked book.batch.used → batch ≡ book.batch → replies ≡ book.replies
    → IsDone allows start t asked batch replies
done allows start t asked book batch replies kept all same_batch same_replies =
    subst (λ (b : BatchValue). IsDone allows start t asked b replies) (sym same_batch) (subst (λ (r : List (Option Reply)). IsDone allows start t asked book.batch r) (sym same_replies) (record { kept = kept; all = all }))
