-- A round keeps a history legal.
use Rattle.std.proofs.Common.{◌≡◌, ℕ, zero, suc, ◌+◌, ◌<◌, ◌≤◌, Bool, true, false, cond, List, [], ◌∷◌, ◌++◌, length, take, refl, ◌∙◌, sym, ap, subst, arith, Some, None, Option, inl, inr, append_assoc, length-append, ◌⊎◌}
use Rattle.std.proofs.Math.Seq.{take-append_seam}
use Rattle.std.proofs.lemmas.List.{append-nil}
use Rattle.std.proofs.lemmas.List.Elements.{All-from_recursion}
use Rattle.std.proofs.lemmas.List.FromFn.{get_or-range_with_len, length-range_with_len}
use Rattle.std.proofs.lemmas.List.Sorted.{All-permutation}
use Rattle.std.specs.Prelude.{slice_get, IsTrue, MatchOption}
use Rattle.std.specs.List.{AllByRecursion, filter_map, range_with_len, last_or, cons_option}
use Rattle.std.specs.Option.{option_map, option_map_or, option_to_list}
use Rattle.op_time.specs.declared.TheConstants.{LAST}
use Rattle.op_model.specs.Answer.{answer}
use Rattle.op_model.specs.History.{last_moment, with_act}
use Rattle.op_model.specs.Legal.{IsLegal, IsLegalFrom, IsNext, is_proper}
use Rattle.op_model.specs.Round.{FeesAllowed, Handled, IsWanting, IsRound, IsHandled, IsAnswered, IsHandledNext, outcome_at, act_place}
use Rattle.op_model.specs.declared.act.Act.{Act}
use Rattle.op_model.specs.declared.act.Entry.{Entry}
use Rattle.op_model.proofs.LegalNext.{legal_from-joined, MayFollow, legal-with_act}
use Rattle.op_legal.specs.Rounds.{AreWithin, MayBegin, RoundsKeepLegal, PlainRoundsKeepLegal}
use Rattle.op_legal.proofs.Chains.{none_is_not, some_is}
use Rattle.op_legal.proofs.Fees.{charged}
use Rattle.op_legal.proofs.Next.{answered_next}
use Rattle.op_legal.proofs.Stays.{stays_proper}

-- ---- lists

pub seam : {X : Type 0} (xs ys : List X) (x : X) → slice_get (xs ++ x ∷ ys) (length xs) ≡ Some x
seam [] ys x = refl
seam (y ∷ xs) ys x = seam xs ys x

all_taken : {X : Type 0} (P : X → Type 0) (k : ℕ) (xs : List X) → AllByRecursion P xs → AllByRecursion P (take k xs)
all_taken P zero xs all = tt
all_taken P (suc k) [] all = tt
all_taken P (suc k) (x ∷ xs) all = (all.0, all_taken P k xs all.1)

-- ---- the last moment

abbrev moment : Option Entry → ℕ
moment o = option_map_or (λ (e : Entry). e.at) o 0

last_at : (t : ℕ) (o : Option Entry) (xs : List Entry) → moment o ≤ t → AllByRecursion (λ e. e.at ≡ t) xs → moment (last_or o xs) ≤ t
last_at t o [] first all = first
last_at t o (x ∷ xs) first all = last_at t (Some x) xs (let same = all.0 in omega (arith, same)) all.1

last_behind : (t : ℕ) (o : Option Entry) (history xs : List Entry) → moment (last_or o history) ≤ t → AllByRecursion (λ e. e.at ≡ t) xs → moment (last_or o (history ++ xs)) ≤ t
last_behind t o [] xs first all = last_at t o xs first all
last_behind t o (e ∷ es) xs first all = last_behind t (Some e) es xs first all

pub still_later : (history xs : List Entry) (t : ℕ) → last_moment history ≤ t → AllByRecursion (λ e. e.at ≡ t) xs → last_moment (history ++ xs) ≤ t
still_later history xs t later all = last_behind t None history xs later all

-- ---- the act at a place

-- an entry stands there that may follow those before it
pub record IsAct (history : List Entry) (t : ℕ) (entries : List Entry) (place : ℕ) : Type 0 where
  pub act : Act
  pub there : slice_get entries place ≡ Some (record { at = t; act = act })
  pub next : IsNext (history ++ take place entries) (record { at = t; act = act })

-- a task that acts, its act, and that this stands at its place
pub record IsActor (history : List Entry) (t : ℕ) (entries : List Entry) (one : Handled) (place : ℕ) : Type 0 where
  pub act : Act
  pub acts : (outcome_at history t entries one).act ≡ Some act
  pub answers : one.wanted_memory ≡ false
  pub at : one.place ≡ place

acts_where : (history : List Entry) (t : ℕ) (entries : List Entry) (one : Handled) (place : ℕ) (wanted : Bool) (act : Option Act) → one.wanted_memory ≡ wanted → (outcome_at history t entries one).act ≡ act
    → cond wanted None (option_map (λ a. one.place) act) ≡ Some place → IsActor history t entries one place
acts_where history t entries one place true act is made h = none_is_not place h
acts_where history t entries one place false None is made h = none_is_not place h
acts_where history t entries one place false (Some a) is made h = record { act = a; acts = made; answers = is; at = some_is one.place place h }

pub actor : (history : List Entry) (t : ℕ) (entries : List Entry) (one : Handled) (place : ℕ) → act_place history t entries one ≡ Some place → IsActor history t entries one place
actor history t entries one place h = acts_where history t entries one place one.wanted_memory (outcome_at history t entries one).act refl refl h

entry_of : (entries : List Entry) (t place : ℕ) (made : Option Act) (act : Act) → MatchOption made (Unit {0}) (λ a. slice_get entries place ≡ Some (record { at = t; act = a })) → made ≡ Some act → slice_get entries place ≡ Some (record { at = t; act = act })
entry_of entries t place None act has is = none_is_not act is
entry_of entries t place (Some a) act has is = has ∙ ap (λ x. Some (record { at = t; act = x })) (some_is a act is)

pub answered : (allows : FeesAllowed) (history : List Entry) (t : ℕ) (entries : List Entry) (one : Handled) → IsHandled allows history t entries one → one.wanted_memory ≡ false → IsAnswered allows history t entries one
answered allows history t entries one is not = pick is.told
  where
    pick : ((one.wanted_memory ≡ true) × IsWanting one) ⊎ ((one.wanted_memory ≡ false) × IsAnswered allows history t entries one) → IsAnswered allows history t entries one
    pick (inl both) = absurd (let e : true ≡ false = sym both.0 ∙ not in cc)
    pick (inr both) = both.1

pub stands_at : (allows : FeesAllowed) (history : List Entry) (t : ℕ) (entries : List Entry) (one : Handled) (place : ℕ) → IsHandled allows history t entries one → (is : IsActor history t entries one place) → slice_get entries place ≡ Some (record { at = t; act = is.act })
stands_at allows history t entries one place handled is =
    subst (λ n. slice_get entries n ≡ Some (record { at = t; act = is.act })) is.at
    (entry_of entries t one.place (outcome_at history t entries one).act is.act (answered allows history t entries one handled is.answers).act is.acts)

module _ (allows : FeesAllowed) (within : AreWithin allows) (history : List Entry) (t : ℕ) (entries : List Entry) (later : last_moment history ≤ t) (limit : t ≤ LAST) (moments : AllByRecursion (λ e. e.at ≡ t) entries) where
  act_at : (one : Handled) (place : ℕ) → IsTrue (is_proper history one.task) → IsHandled allows history t entries one → act_place history t entries one ≡ Some place → IsAct history t entries place
  act_at one place proper handled h =
      let is = actor history t entries one place h in
      let before = history ++ take one.place entries in
      let next : IsNext before (record { at = t; act = is.act }) =
      answered_next before t one.word one.fee one.task is.act (record {
        later = still_later history (take one.place entries) t later (all_taken (λ e. e.at ≡ t) one.place entries moments);
        limit = limit;
        proper = stays_proper history (take one.place entries) one.task proper;
        charged = charged allows before t one.task one.fee within (answered allows history t entries one handled is.answers).fee;
      }) is.acts in
      record { act = is.act; there = stands_at allows history t entries one place handled is; next = subst (λ n. IsNext (history ++ take n entries) (record { at = t; act = is.act })) is.at next }

  each_with : (o : Option ℕ) (xs : List ℕ) → ((k : ℕ) → o ≡ Some k → IsAct history t entries k) → AllByRecursion (IsAct history t entries) xs → AllByRecursion (IsAct history t entries) (cons_option o xs)
  each_with None xs own rest = rest
  each_with (Some k) xs own rest = (own k refl, rest)

  all_acts : (tasks : List Handled) → AllByRecursion (λ one. IsTrue (is_proper history one.task)) tasks → AllByRecursion (IsHandled allows history t entries) tasks → AllByRecursion (IsAct history t entries) (filter_map (act_place history t entries) tasks)
  all_acts [] proper handled = tt
  all_acts (one ∷ tasks) proper handled =
      each_with (act_place history t entries one) (filter_map (act_place history t entries) tasks) (λ k h. act_at one k proper.0 handled.0 h) (all_acts tasks proper.1 handled.1)

  legal_behind : ((k : ℕ) → k < length entries → IsAct history t entries k) → (front rest : List Entry) → entries ≡ front ++ rest → IsLegalFrom (history ++ front) rest
  legal_behind each front [] split = tt
  legal_behind each front (e ∷ es) split =
      let counted : length entries ≡ length front + length (e ∷ es) = ap length split ∙ length-append front (e ∷ es) in
      let lengths : length (e ∷ es) ≡ suc (length es) = refl in
      let is = each (length front) (omega (arith, counted, lengths)) in
      let taken : take (length front) entries ≡ front = ap (take (length front)) split ∙ take-append_seam front (e ∷ es) in
      let got : slice_get entries (length front) ≡ Some e = ap (λ xs. slice_get xs (length front)) split ∙ seam front es e in
      let same : record { at = t; act = is.act } ≡ e = some_is (record { at = t; act = is.act }) e (sym is.there ∙ got) in (
        subst (IsNext (history ++ front)) same (subst (λ xs. IsNext (history ++ xs) (record { at = t; act = is.act })) taken is.next),
        subst (λ before. IsLegalFrom before es) (sym (append_assoc history front (e ∷ []))) (legal_behind each (front ++ e ∷ []) es (split ∙ sym (append_assoc front (e ∷ []) es))),
      )

-- each entry of a round may follow those before it, whether the history is legal or not
pub legal_round : (allows : FeesAllowed) (history : List Entry) (t : ℕ) (tasks : List Handled) (entries : List Entry) → AreWithin allows → MayBegin history t tasks → IsRound allows history t tasks entries → IsLegalFrom history entries
legal_round allows history t tasks entries within begins round =
    let places = filter_map (act_place history t entries) tasks in
    let range = range_with_len 0 (length entries) in
    let acts = All-permutation (IsAct history t entries) places range round.once
    (All-from_recursion (IsAct history t entries) places (all_acts allows within history t entries begins.later begins.limit round.moment tasks begins.proper round.handled)) in
    let counted : length range ≡ length entries = length-range_with_len 0 (length entries) in
    let each : (k : ℕ) → k < length entries → IsAct history t entries k = λ k h.
    let number : 0 + k ≡ k = omega arith in
    subst (IsAct history t entries) (get_or-range_with_len 0 (length entries) k 0 h ∙ number) (acts k 0 (omega (arith, h, counted))) in
    subst (λ before. IsLegalFrom before entries) (append-nil history) (legal_behind allows within history t entries begins.later begins.limit round.moment each [] entries refl)

pub rounds_keep : (allows : FeesAllowed) → AreWithin allows → RoundsKeepLegal allows
rounds_keep allows within history t tasks entries legal begins round = legal_from-joined [] history entries legal (legal_round allows history t tasks entries within begins round)

-- ---- in the order of the list

follows : (history : List Entry) (t : ℕ) (made : Option Act) → ((act : Act) → made ≡ Some act → IsNext history (record { at = t; act = act })) → MayFollow history t made
follows history t None each = tt
follows history t (Some act) each = each act refl

-- what a task leaves, on which the others begin
record IsLeft (old : List Entry) (t : ℕ) (tasks : List Handled) (new : List Entry) : Type 0 where
  legal : IsLegal new
  begins : MayBegin new t tasks

all_proper : (history more : List Entry) (tasks : List Handled) → AllByRecursion (λ one. IsTrue (is_proper history one.task)) tasks → AllByRecursion (λ one. IsTrue (is_proper (history ++ more) one.task)) tasks
all_proper history more [] all = tt
all_proper history more (one ∷ tasks) all = (stays_proper history more one.task all.0, all_proper history more tasks all.1)

all_at : (t : ℕ) (act : Option Act) → AllByRecursion (λ e. e.at ≡ t) (option_to_list (option_map (λ a. let e : Entry = record { at = t; act = a } in e) act))
all_at t None = tt
all_at t (Some a) = (refl, tt)

begins_on : (history : List Entry) (t : ℕ) (act : Option Act) (tasks : List Handled) → MayBegin history t tasks → MayBegin (with_act history t act) t tasks
begins_on history t act tasks begins =
    let more = option_to_list (option_map (λ a. let e : Entry = record { at = t; act = a } in e) act) in
    record { later = still_later history more t begins.later (all_at t act); limit = begins.limit; proper = all_proper history more tasks begins.proper }

left_by : (allows : FeesAllowed) (old : List Entry) (t : ℕ) (one : Handled) (tasks : List Handled) (new : List Entry) → AreWithin allows → IsLegal old → MayBegin old t (one ∷ tasks) → IsHandledNext allows old t one new → IsLeft old t tasks new
left_by allows old t one tasks new within legal begins (inl wants) =
    subst (IsLeft old t tasks) (sym wants.2) (record { legal = legal; begins = record { later = begins.later; limit = begins.limit; proper = begins.proper.1 } })
left_by allows old t one tasks new within legal begins (inr acts) =
    let act = (answer old t one.word one.fee one.task).act in
    let may : MayFollow old t act = follows old t act (λ a made. answered_next old t one.word one.fee one.task a
    (record { later = begins.later; limit = begins.limit; proper = begins.proper.0; charged = charged allows old t one.task one.fee within acts.1 }) made) in
    subst (IsLeft old t tasks) (sym acts.3)
    (record { legal = legal-with_act old t act legal may; begins = begins_on old t act tasks (record { later = begins.later; limit = begins.limit; proper = begins.proper.1 }) })

pub plain_rounds_keep : (allows : FeesAllowed) → AreWithin allows → PlainRoundsKeepLegal allows
plain_rounds_keep allows within begun old t [] new legal begins round = subst IsLegal (sym round) legal
plain_rounds_keep allows within begun old t (one ∷ tasks) new legal begins round =
    let left = left_by allows old t one tasks round.0 within legal begins round.1 in
    plain_rounds_keep allows within begun round.0 t tasks new left.legal left.begins round.3
