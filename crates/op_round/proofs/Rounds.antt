-- How a round goes on by one task.
use Rattle.std.proofs.Common.{◌≡◌, ◌⊎◌, inl, inr, ℕ, zero, suc, ◌+◌, ◌≤◌, ◌<◌, Bool, true, false, List, [], ◌∷◌, ◌++◌, length, take, refl, sym, ◌∙◌, ap, subst, arith, length-append}
use Rattle.std.specs.Prelude.{Some, None, slice_get, slice_set, filter_map, IsPermutation, MatchOption, if◌then◌else◌}
use Rattle.std.specs.List.{AllByRecursion, range_with_len, cons_option}
use Rattle.std.specs.Option.{option_map}
use Rattle.std.specs.declared.option.Option.{Option}
use Rattle.std.proofs.lemmas.Bool.{false≢true}
use Rattle.std.proofs.lemmas.Option.{slice_get_within}
use Rattle.std.proofs.lemmas.List.{take-append-le, take_all, append-nil, length-set}
use Rattle.std.proofs.lemmas.List.Sorted.{IsPermutation-refl, IsPermutation-cons, IsPermutation-trans, IsPermutation-sym, IsPermutation-middle, IsPermutation-to_front}
use Rattle.op_model.specs.History.{with_act}
use Rattle.op_model.specs.Answer.{answer, Outcome}
use Rattle.op_model.specs.Round.{FeesAllowed, Handled, IsFee, IsAnswered, IsHandled, IsHandledNext, IsRound, act_place, place_with, outcome_at}
use Rattle.op_model.specs.declared.act.Act.{Act}
use Rattle.op_model.specs.declared.act.Entry.{Entry}
use Rattle.op_round.specs.Books.{somes}

-- ---- lists

pub get_set_same : {X : Type 0} (xs : List X) (i : ℕ) (x : X) → i < length xs → slice_get (slice_set xs i x) i ≡ Some x
get_set_same [] i x le = absurd (omega arith)
get_set_same (y ∷ xs) zero x le = refl
get_set_same (y ∷ xs) (suc i) x le = get_set_same xs i x (omega arith)

pub get_set_other : {X : Type 0} (xs : List X) (i j : ℕ) (x : X) → (j ≡ i → ⊥) → slice_get (slice_set xs i x) j ≡ slice_get xs j
get_set_other [] i j x other = refl
get_set_other (y ∷ xs) zero zero x other = absurd (other refl)
get_set_other (y ∷ xs) zero (suc j) x other = refl
get_set_other (y ∷ xs) (suc i) zero x other = refl
get_set_other (y ∷ xs) (suc i) (suc j) x other = get_set_other xs i j x (omega (arith, other))

get_front : {X : Type 0} (xs ys : List X) (i : ℕ) (x : X) → slice_get xs i ≡ Some x → slice_get (xs ++ ys) i ≡ Some x
get_front {X = X} [] ys i x is = absurd (omega (arith, slice_get_within {A = X} [] i x is))
get_front (y ∷ xs) ys zero x is = is
get_front (y ∷ xs) ys (suc i) x is = get_front xs ys i x is

get_end : {X : Type 0} (xs : List X) (x : X) → slice_get (xs ++ x ∷ []) (length xs) ≡ Some x
get_end [] x = refl
get_end (y ∷ xs) x = get_end xs x

abbrev tail_of : {X : Type 0} → List X → List X
tail_of [] = []
tail_of (x ∷ xs) = xs

pub cancel : {X : Type 0} (front xs ys : List X) → front ++ xs ≡ front ++ ys → xs ≡ ys
cancel [] xs ys is = is
cancel (x ∷ front) xs ys is = cancel front xs ys (ap tail_of is)

pub associated : {X : Type 0} (xs ys zs : List X) → (xs ++ ys) ++ zs ≡ xs ++ (ys ++ zs)
associated [] ys zs = refl
associated (x ∷ xs) ys zs = ap (λ (l : List _). x ∷ l) (associated xs ys zs)

all-append : {X : Type 0} (P : X → Type 0) (xs ys : List X) → AllByRecursion P xs → AllByRecursion P ys → AllByRecursion P (xs ++ ys)
all-append P [] ys all more = more
all-append P (x ∷ xs) ys all more = (all.0, all-append P xs ys all.1 more)

range_more : (a n : ℕ) → range_with_len a (suc n) ≡ range_with_len a n ++ (a + n) ∷ []
range_more a zero = ap (λ (k : ℕ). k ∷ []) (omega arith)
range_more a (suc n) = ap (λ (l : List ℕ). a ∷ l) (range_more (a + 1) n ∙ ap (λ (k : ℕ). range_with_len (a + 1) n ++ k ∷ []) (omega arith))

range_next : (n : ℕ) → IsPermutation (n ∷ range_with_len 0 n) (range_with_len 0 (suc n))
range_next n =
    let more : range_with_len 0 (suc n) ≡ range_with_len 0 n ++ n ∷ [] = range_more 0 n ∙ ap (λ (k : ℕ). range_with_len 0 n ++ k ∷ []) (omega arith) in
    subst (λ (l : List ℕ). IsPermutation (n ∷ range_with_len 0 n) l) (sym more) (IsPermutation-sym _ _ (IsPermutation-to_front (range_with_len 0 n) n))

-- ---- one more that is there

abbrev is_some_some : {X : Type 0} → Option (Option X) → Bool
is_some_some None = false
is_some_some (Some None) = false
is_some_some (Some (Some x)) = true

all_set : {X : Type 0} (P : X → Type 0) (slots : List (Option X)) (i : ℕ) (one : X) → slice_get slots i ≡ Some None → AllByRecursion P (somes slots) → P one → AllByRecursion P (somes (slice_set slots i (Some one)))
all_set {X = X} P [] i one free all new = absurd (omega (arith, slice_get_within {A = Option X} [] i None free))
all_set P (None ∷ slots) zero one free all new = (new, all)
all_set P (Some x ∷ slots) zero one free all new = absurd (false≢true (sym (ap is_some_some free)))
all_set P (None ∷ slots) (suc i) one free all new = all_set P slots i one free all new
all_set P (Some x ∷ slots) (suc i) one free all new = (all.0, all_set P slots i one free all.1 new)

two : {Y : Type 0} (a b : Option Y) (xs ys : List Y) → IsPermutation xs (cons_option b ys) → IsPermutation (cons_option a xs) (cons_option b (cons_option a ys))
two None b xs ys p = p
two (Some x) None xs ys p = IsPermutation-cons x xs ys p
two (Some x) (Some y) xs ys p = IsPermutation-trans _ _ _ (IsPermutation-cons x xs (y ∷ ys) p) (IsPermutation-middle (x ∷ []) y ys)

permuted_set : {X Y : Type 0} (g : X → Option Y) (slots : List (Option X)) (i : ℕ) (one : X) → slice_get slots i ≡ Some None
    → IsPermutation (filter_map g (somes (slice_set slots i (Some one)))) (cons_option (g one) (filter_map g (somes slots)))
permuted_set {X = X} g [] i one free = absurd (omega (arith, slice_get_within {A = Option X} [] i None free))
permuted_set g (None ∷ slots) zero one free = IsPermutation-refl _
permuted_set g (Some x ∷ slots) zero one free = absurd (false≢true (sym (ap is_some_some free)))
permuted_set g (None ∷ slots) (suc i) one free = permuted_set g slots i one free
permuted_set g (Some x ∷ slots) (suc i) one free = two (g x) (g one) _ _ (permuted_set g slots i one free)

-- ---- what was handled stays so when entries follow

module _ (allows : FeesAllowed) (start : List Entry) (t : ℕ) (entries more : List Entry) where
  has_still : (place : ℕ) (act : Option Act) → MatchOption act (Unit {0}) (λ a. slice_get entries place ≡ Some (record { at = t; act = a }))
      → MatchOption act (Unit {0}) (λ a. slice_get (entries ++ more) place ≡ Some (record { at = t; act = a }))
  has_still place None has = has
  has_still place (Some a) has = get_front entries more place (record { at = t; act = a }) has

  same_front : (place : ℕ) → place ≤ length entries → start ++ take place (entries ++ more) ≡ start ++ take place entries
  same_front place le = ap (λ (l : List Entry). start ++ l) (take-append-le place entries more le)

  answered_still : (one : Handled) → one.place ≤ length entries → IsAnswered allows start t entries one → IsAnswered allows start t (entries ++ more) one
  answered_still one le is =
      let same = sym (same_front one.place le) in
      record {
        fee = subst (λ (h : List Entry). IsFee allows h t one.task one.fee) same is.fee;
        reply = is.reply ∙ ap (λ (h : List Entry). (answer h t one.word one.fee one.task).reply) same;
        act = subst (λ (h : List Entry). MatchOption (answer h t one.word one.fee one.task).act (Unit {0}) (λ a. slice_get (entries ++ more) one.place ≡ Some (record { at = t; act = a })))
            same (has_still one.place (outcome_at start t entries one).act is.act);
      }

  handled_still : (one : Handled) → IsHandled allows start t entries one → IsHandled allows start t (entries ++ more) one
  handled_still one is = record {
    place = omega (arith, is.place, length-append entries more);
    told = elim is.told [
      | inl wanting ↦ inl wanting
      | inr (told, answered) ↦ inr (told, answered_still one is.place answered)
    ];
  }

  all_still : (tasks : List Handled) → AllByRecursion (IsHandled allows start t entries) tasks → AllByRecursion (IsHandled allows start t (entries ++ more)) tasks
  all_still [] all = all
  all_still (one ∷ tasks) all = (handled_still one all.0, all_still tasks all.1)

  place_still : (one : Handled) → IsHandled allows start t entries one → act_place start t (entries ++ more) one ≡ act_place start t entries one
  place_still one is = ap (λ (h : List Entry). if one.wanted_memory then None else place_with (answer h t one.word one.fee one.task) one.place) (same_front one.place is.place)

  places_still : (tasks : List Handled) → AllByRecursion (IsHandled allows start t entries) tasks → filter_map (act_place start t (entries ++ more)) tasks ≡ filter_map (act_place start t entries) tasks
  places_still [] all = refl
  places_still (one ∷ tasks) all =
      ap (λ (o : Option ℕ). cons_option o (filter_map (act_place start t (entries ++ more)) tasks)) (place_still one all.0)
      ∙ ap (λ (l : List ℕ). cons_option (act_place start t entries one) l) (places_still tasks all.1)

-- ---- one task more

module _ (allows : FeesAllowed) (start : List Entry) (t : ℕ) (slots : List (Option Handled)) (entries : List Entry) (round : IsRound allows start t (somes slots) entries) (i : ℕ) (free : slice_get slots i ≡ Some None) (one : Handled) where
  abbrev next : List (Option Handled)
  next = slice_set slots i (Some one)

  go : (more : List Entry) → AllByRecursion (λ e. e.at ≡ t) more → IsHandled allows start t (entries ++ more) one
      → IsPermutation (cons_option (act_place start t (entries ++ more) one) (range_with_len 0 (length entries))) (range_with_len 0 (length (entries ++ more)))
      → IsRound allows start t (somes next) (entries ++ more)
  go more moment handled once =
      let g = act_place start t (entries ++ more) in
      let old = subst (λ (l : List ℕ). IsPermutation l (range_with_len 0 (length entries))) (sym (places_still allows start t entries more (somes slots) round.handled)) round.once in
      record {
        moment = all-append (λ e. e.at ≡ t) entries more round.moment moment;
        handled = all_set (IsHandled allows start t (entries ++ more)) slots i one free (all_still allows start t entries more (somes slots) round.handled) handled;
        once = IsPermutation-trans _ _ _ (permuted_set g slots i one free) (IsPermutation-trans _ _ _ (beside (g one) _ _ old) once);
      }
    where
      beside : (o : Option ℕ) (xs ys : List ℕ) → IsPermutation xs ys → IsPermutation (cons_option o xs) (cons_option o ys)
      beside None xs ys p = p
      beside (Some x) xs ys p = IsPermutation-cons x xs ys p

  module _ (at_end : one.place ≡ length entries) where
    within : (more : List Entry) → one.place ≤ length (entries ++ more)
    within more = omega (arith, at_end, length-append entries more)

    whole : (more : List Entry) → start ++ take one.place (entries ++ more) ≡ start ++ entries
    whole more = ap (λ (l : List Entry). start ++ l) (take-append-le one.place entries more (omega (arith, at_end)) ∙ take_all one.place entries (omega (arith, at_end)))

    by_act : (act : Option Act) → (answer (start ++ entries) t one.word one.fee one.task).act ≡ act
        → one.wanted_memory ≡ false → IsFee allows (start ++ entries) t one.task one.fee → one.reply ≡ (answer (start ++ entries) t one.word one.fee one.task).reply
        → (new : List Entry) → start ++ new ≡ with_act (start ++ entries) t act → IsRound allows start t (somes next) new
    by_act None none told fee reply new is =
        let same : new ≡ entries ++ [] = cancel start new (entries ++ []) (is ∙ associated start entries []) in
        let front = sym (whole []) in
        let handled : IsHandled allows start t (entries ++ []) one = record {
          place = within [];
          told = inr (
            told,
            record {
              fee = subst (λ (h : List Entry). IsFee allows h t one.task one.fee) front fee;
              reply = reply ∙ ap (λ (h : List Entry). (answer h t one.word one.fee one.task).reply) front;
              act = subst (λ (o : Option Act). MatchOption o (Unit {0}) (λ a. slice_get (entries ++ []) one.place ≡ Some (record { at = t; act = a })))
                  (sym none ∙ ap (λ (h : List Entry). (answer h t one.word one.fee one.task).act) front) tt;
            },
          );
        } in
        let place : act_place start t (entries ++ []) one ≡ None =
        ap (λ (b : Bool). if b then None else place_with (outcome_at start t (entries ++ []) one) one.place) told
        ∙ ap (λ (h : List Entry). place_with (answer h t one.word one.fee one.task) one.place) (whole [])
        ∙ ap (λ (o : Option Act). option_map (λ act. one.place) o) none in
        let once = subst (λ (o : Option ℕ). IsPermutation (cons_option o (range_with_len 0 (length entries))) (range_with_len 0 (length (entries ++ [])))) (sym place)
        (subst (λ (l : List Entry). IsPermutation (range_with_len 0 (length entries)) (range_with_len 0 (length l))) (sym (append-nil entries)) (IsPermutation-refl _)) in
        subst (λ (l : List Entry). IsRound allows start t (somes next) l) (sym same) (go [] tt handled once)
    by_act (Some a) some told fee reply new is =
        let e : Entry = record { at = t; act = a } in
        let same : new ≡ entries ++ e ∷ [] = cancel start new (entries ++ e ∷ []) (is ∙ associated start entries (e ∷ [])) in
        let front = sym (whole (e ∷ [])) in
        let handled : IsHandled allows start t (entries ++ e ∷ []) one = record {
          place = within (e ∷ []);
          told = inr (
            told,
            record {
              fee = subst (λ (h : List Entry). IsFee allows h t one.task one.fee) front fee;
              reply = reply ∙ ap (λ (h : List Entry). (answer h t one.word one.fee one.task).reply) front;
              act = subst (λ (o : Option Act). MatchOption o (Unit {0}) (λ a. slice_get (entries ++ e ∷ []) one.place ≡ Some (record { at = t; act = a })))
                  (sym some ∙ ap (λ (h : List Entry). (answer h t one.word one.fee one.task).act) front)
                  (subst (λ (k : ℕ). slice_get (entries ++ e ∷ []) k ≡ Some e) (sym at_end) (get_end entries e));
            },
          );
        } in
        let place : act_place start t (entries ++ e ∷ []) one ≡ Some (length entries) =
        ap (λ (b : Bool). if b then None else place_with (outcome_at start t (entries ++ e ∷ []) one) one.place) told
        ∙ ap (λ (h : List Entry). place_with (answer h t one.word one.fee one.task) one.place) (whole (e ∷ []))
        ∙ ap (λ (o : Option Act). option_map (λ act. one.place) o) some
        ∙ ap (λ (k : ℕ). Some k) at_end in
        let longer : length (entries ++ e ∷ []) ≡ suc (length entries) = omega (arith, length-append entries (e ∷ [])) in
        let once = subst (λ (o : Option ℕ). IsPermutation (cons_option o (range_with_len 0 (length entries))) (range_with_len 0 (length (entries ++ e ∷ [])))) (sym place)
        (subst (λ (k : ℕ). IsPermutation (length entries ∷ range_with_len 0 (length entries)) (range_with_len 0 k)) (sym longer) (range_next (length entries))) in
        subst (λ (l : List Entry). IsRound allows start t (somes next) l) (sym same) (go (e ∷ []) (refl, tt) handled once)

    -- a task that is handled next makes a round with those before it
    pub goes_on : (new : List Entry) → IsHandledNext allows (start ++ entries) t one (start ++ new) → IsRound allows start t (somes next) new
    goes_on new (inl (wanted, wanting, is)) =
        let same : new ≡ entries ++ [] = cancel start new entries is ∙ sym (append-nil entries) in
        let handled : IsHandled allows start t (entries ++ []) one = record { place = within []; told = inl (wanted, wanting) } in
        let place : act_place start t (entries ++ []) one ≡ None = ap (λ (b : Bool). if b then None else place_with (outcome_at start t (entries ++ []) one) one.place) wanted in
        let once = subst (λ (o : Option ℕ). IsPermutation (cons_option o (range_with_len 0 (length entries))) (range_with_len 0 (length (entries ++ [])))) (sym place)
        (subst (λ (l : List Entry). IsPermutation (range_with_len 0 (length entries)) (range_with_len 0 (length l))) (sym (append-nil entries)) (IsPermutation-refl _)) in
        subst (λ (l : List Entry). IsRound allows start t (somes next) l) (sym same) (go [] tt handled once)
    goes_on new (inr (told, fee, reply, is)) =
        by_act (answer (start ++ entries) t one.word one.fee one.task).act refl told fee reply new is
