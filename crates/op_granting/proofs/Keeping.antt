-- Grants of a history, behind one more entry.
use Rattle.std.proofs.Common.{◌≡◌, ℕ, ◌+◌, ◌<◌, ◌^◌, Bool, true, false, List, [], ◌∷◌, ◌++◌, length, refl, ◌∙◌, sym, ap, subst, arith, None, Ok, Option}
use Rattle.std.specs.Prelude.{unwrap_or}
use Rattle.std.specs.BTreeMap.{is_at}
use Rattle.std.specs.Map.{lookup}
use Rattle.std.specs.declared.result.Result.{Result}
use Rattle.op_names.specs.Secrets.{IsDrawn}
use Rattle.op_model.specs.Grants.{grants}
use Rattle.op_model.specs.Legal.{word_of}
use Rattle.op_model.specs.declared.act.Act.{Act}
use Rattle.op_model.specs.declared.act.Act.TheVariants as acts
use Rattle.op_model.specs.declared.act.Entry.{Entry}
use Rattle.op_model.specs.declared.grant.Asked.{Asked}
use Rattle.op_model.specs.declared.grant.Finish.{Finish}
use Rattle.op_model.specs.declared.grant.Item.{Item}
use Rattle.op_grant.specs.Places.{IsNewPlace}
use Rattle.op_grant.specs.Rows.{at_row, asked_row, decide_answer, decided, proceed_answer, proceeded_row, cancelled, token_answer, rotated, revoked}
use Rattle.op_grant.specs.Value.{GrantsValue, no_grants, with_grant, with_row, by_grant}
use Rattle.op_grant.specs.declared.fault.GrantFault.{GrantFault}
use Rattle.op_grant.specs.declared.fault.Proceeded.{Proceeded}
use Rattle.op_grant.specs.declared.fault.Proceeded.TheVariants as proceeded
use Rattle.op_laws.proofs.Lists.{each_append}
use Rattle.op_granting.specs.Drawn.{draws_word, WordsAreDrawn}
use Rattle.op_granting.specs.Keeping.{IsGrantsOf, IsEntryOf, MayTake, Takes}
use Rattle.op_granting.specs.Kinds.{is_on_grants, is_on_spending}
use Rattle.op_granting.specs.Models.{behind, grants_behind, next_place, asked_act, decided_act}
use Rattle.op_granting.specs.declared.next.NextEntry.{NextEntry}
use Rattle.op_granting.proofs.Drawing.{places_are_new}
use Rattle.op_granting.proofs.Following.{follow}
use Rattle.op_granting.proofs.Standing.{other}

-- no grants are those of no history
pub none_of_none : IsGrantsOf [] no_grants
none_of_none = record { rows = refl; spends = λ g j. refl; words = tt }

-- ---- the place of the next entry

small_history : (n place : ℕ) → place ≡ 1 + n → place < 2 ^ 64 → n < 2 ^ 64
small_history n place is small = omega (arith, is, small)

pub new_place : (history : List Entry) (value : GrantsValue) (next : NextEntry) (act : Act) → IsEntryOf history value next act → next.place < 2 ^ 64 → IsNewPlace next.place value.rows
new_place history value next act is small =
    let new = places_are_new history is.are.words (small_history (length history) next.place is.place small) in
    subst (λ rows. IsNewPlace next.place rows) (sym is.are.rows) (subst (λ n. IsNewPlace n (grants history)) (sym is.place) new)

pub may_new_place : (value : GrantsValue) (next : NextEntry) (act : Act) → MayTake value next act → next.place < 2 ^ 64 → IsNewPlace next.place value.rows
may_new_place value next act may small = new_place may.0 value next act may.1 small

-- ---- what an entry keeps

pub words_behind : (history : List Entry) (t : ℕ) (act : Act) → WordsAreDrawn history → (draws_word act ≡ true → IsDrawn (word_of act)) → WordsAreDrawn (behind history t act)
words_behind history t act words own =
    each_append (λ (e : Entry). draws_word e.act ≡ true → IsDrawn (word_of e.act)) history (record { at = t; act = act } ∷ []) words (own, tt)

-- an act that does not spend, where the call leaves what was spent
keeps : (history : List Entry) (value new : GrantsValue) (next : NextEntry) (act : Act) → IsEntryOf history value next act → is_on_spending act ≡ false → (draws_word act ≡ true → IsDrawn (word_of act))
    → new.rows ≡ grants_behind history next.at act → new.spent ≡ value.spent → IsGrantsOf (behind history next.at act) new
keeps history value new next act is quiet own rows spent = record {
  rows = rows;
  spends = λ g j. ap (λ s. unwrap_or (lookup (is_at (by_grant (g, j))) s) 0) spent ∙ is.are.spends g j ∙ sym (other history next.at act g j is.legal is.follows quiet);
  words = words_behind history next.at act is.are.words own;
}

pub no_word : (act : Act) → draws_word act ≡ false → draws_word act ≡ true → IsDrawn (word_of act)
no_word act none h = absurd (let e : false ≡ true = sym none ∙ h in cc)

-- the place in a row that is changed
placed : {X : Type 0} (f : ℕ → X) (history : List Entry) (place : ℕ) → place ≡ next_place history → f place ≡ f (next_place history)
placed f history place is = ap f is

-- ---- each act

pub asked_takes : (value new : GrantsValue) (next : NextEntry) (asked : Asked) (word : List ℕ) → IsDrawn word → new ≡ with_grant value (asked_row next.at word next.place asked) → Takes value new next (asked_act asked word)
asked_takes value new next asked word drawn made history is =
    let after = follow.asked value history next.at asked word is.legal is.are.rows in
    keeps history value new next (asked_act asked word) is refl (λ h. drawn)
    (ap (λ (v : GrantsValue). v.rows) made ∙ placed (λ p. value.rows ++ asked_row next.at word p asked ∷ []) history next.place is.place ∙ after)
    (ap (λ (v : GrantsValue). v.spent) made)

decided_quiet : (accept : Bool) (n : ℕ) (word : List ℕ) → is_on_spending (decided_act accept n word) ≡ false
decided_quiet true n word = refl
decided_quiet false n word = refl

decided_word : (accept : Bool) (n : ℕ) (word : List ℕ) → IsDrawn word → IsDrawn (word_of (decided_act accept n word))
decided_word true n word drawn = drawn
decided_word false n word drawn = drawn

pub decided_takes : (value new : GrantsValue) (next : NextEntry) (n : ℕ) (accept : Bool) (word : List ℕ) → IsDrawn word → at_row decide_answer value n ≡ Ok tt → new ≡ with_row (decided accept word next.place) value n → Takes value new next (decided_act accept n word)
decided_takes value new next n accept word drawn passes made history is =
    let after = follow.decided value history next.at n accept word is.are.rows passes in
    keeps history value new next (decided_act accept n word) is (decided_quiet accept n word) (λ h. decided_word accept n word drawn)
    (ap (λ (v : GrantsValue). v.rows) made ∙ placed (λ p. (with_row (decided accept word p) value n).rows) history next.place is.place ∙ after)
    (ap (λ (v : GrantsValue). v.spent) made)

pub polled_takes : (value new : GrantsValue) (next : NextEntry) (n : ℕ) (word token : List ℕ) (reference : Option (List ℕ)) → at_row (proceed_answer next.at token reference) value n ≡ Ok proceeded.Polled → new ≡ with_row (proceeded_row next.at word next.place proceeded.Polled) value n → Takes value new next (acts.GrantPolled n)
polled_takes value new next n word token reference passes made history is =
    let after = follow.proceeded value history next.at n word token reference proceeded.Polled is.legal is.are.rows passes in
    keeps history value new next (acts.GrantPolled n) is refl (no_word (acts.GrantPolled n) refl)
    (ap (λ (v : GrantsValue). v.rows) made ∙ after)
    (ap (λ (v : GrantsValue). v.spent) made)

pub continued_takes : (value new : GrantsValue) (next : NextEntry) (n : ℕ) (word token : List ℕ) (reference : Option (List ℕ)) → IsDrawn word → at_row (proceed_answer next.at token reference) value n ≡ Ok proceeded.Issued
    → new ≡ with_row (proceeded_row next.at word next.place proceeded.Issued) value n → Takes value new next (acts.GrantContinued n word)
continued_takes value new next n word token reference drawn passes made history is =
    let after = follow.proceeded value history next.at n word token reference proceeded.Issued is.legal is.are.rows passes in
    keeps history value new next (acts.GrantContinued n word) is refl (λ h. drawn)
    (ap (λ (v : GrantsValue). v.rows) made ∙ placed (λ p. (with_row (proceeded_row next.at word p proceeded.Issued) value n).rows) history next.place is.place ∙ after)
    (ap (λ (v : GrantsValue). v.spent) made)

pub cancelled_takes : (value new : GrantsValue) (next : NextEntry) (n : ℕ) → new ≡ with_row cancelled value n → Takes value new next (acts.GrantCancelled n)
cancelled_takes value new next n made history is =
    keeps history value new next (acts.GrantCancelled n) is refl (no_word (acts.GrantCancelled n) refl)
    (ap (λ (v : GrantsValue). v.rows) made ∙ follow.cancelled value history next.at n is.are.rows)
    (ap (λ (v : GrantsValue). v.spent) made)

pub rotated_takes : (value new : GrantsValue) (next : NextEntry) (n : ℕ) (word token : List ℕ) → IsDrawn word → at_row (token_answer token) value n ≡ Ok tt → new ≡ with_row (rotated next.at word next.place) value n → Takes value new next (acts.TokenRotated n word)
rotated_takes value new next n word token drawn passes made history is =
    let after = follow.rotated value history next.at n word token is.are.rows passes in
    keeps history value new next (acts.TokenRotated n word) is refl (λ h. drawn)
    (ap (λ (v : GrantsValue). v.rows) made ∙ placed (λ p. (with_row (rotated next.at word p) value n).rows) history next.place is.place ∙ after)
    (ap (λ (v : GrantsValue). v.spent) made)

pub revoked_takes : (value new : GrantsValue) (next : NextEntry) (n : ℕ) (token : List ℕ) → at_row (token_answer token) value n ≡ Ok tt → new ≡ with_row revoked value n → Takes value new next (acts.TokenRevoked n)
revoked_takes value new next n token passes made history is =
    keeps history value new next (acts.TokenRevoked n) is refl (no_word (acts.TokenRevoked n) refl)
    (ap (λ (v : GrantsValue). v.rows) made ∙ follow.revoked value history next.at n token is.are.rows passes)
    (ap (λ (v : GrantsValue). v.spent) made)

pub draws_none : (act : Act) → is_on_grants act ≡ false → draws_word act ≡ false
draws_none (acts.GrantAsked client items finish word) h = h
draws_none (acts.GrantAccepted grant word) h = h
draws_none (acts.GrantRejected grant word) h = h
draws_none (acts.GrantContinued grant word) h = h
draws_none (acts.TokenRotated grant word) h = h
draws_none _ h = refl

-- an act of none of the kinds that touch grants
pub none_on : (act : Act) → ((client : List ℕ) (items : List Item) (finish : Option Finish) (word : List ℕ) → act ≡ acts.GrantAsked client items finish word → ⊥) → ((n : ℕ) (word : List ℕ) → act ≡ acts.GrantAccepted n word → ⊥) → ((n : ℕ) (word : List ℕ) → act ≡ acts.GrantRejected n word → ⊥)
    → ((n : ℕ) → act ≡ acts.GrantPolled n → ⊥) → ((n : ℕ) (word : List ℕ) → act ≡ acts.GrantContinued n word → ⊥) → ((n : ℕ) → act ≡ acts.GrantCancelled n → ⊥) → ((n : ℕ) (word : List ℕ) → act ≡ acts.TokenRotated n word → ⊥) → ((n : ℕ) → act ≡ acts.TokenRevoked n → ⊥)
    → is_on_grants act ≡ false
none_on (acts.GrantAsked client items finish word) a b c d e f g h = absurd (a client items finish word refl)
none_on (acts.GrantAccepted n word) a b c d e f g h = absurd (b n word refl)
none_on (acts.GrantRejected n word) a b c d e f g h = absurd (c n word refl)
none_on (acts.GrantPolled n) a b c d e f g h = absurd (d n refl)
none_on (acts.GrantContinued n word) a b c d e f g h = absurd (e n word refl)
none_on (acts.GrantCancelled n) a b c d e f g h = absurd (f n refl)
none_on (acts.TokenRotated n word) a b c d e f g h = absurd (g n word refl)
none_on (acts.TokenRevoked n) a b c d e f g h = absurd (h n refl)
none_on _ a b c d e f g h = refl

-- an act that touches no grant
pub other_takes : (value : GrantsValue) (next : NextEntry) (act : Act) → is_on_grants act ≡ false → is_on_spending act ≡ false → Takes value value next act
other_takes value next act none quiet history is =
    keeps history value value next act is quiet (no_word act (draws_none act none))
    (follow.other value history next.at act is.are.rows none) refl

-- the calls that continue a grant, as they answer
proceeded_as : (p q : Proceeded) (answer : Result Proceeded GrantFault) → answer ≡ Ok q → Ok p ≡ answer → p ≡ q
proceeded_as p q answer passes is = let e : (let r : Result Proceeded GrantFault = Ok p in r) ≡ Ok q = is ∙ passes in cc

pub polled_by : (value new : GrantsValue) (next : NextEntry) (n : ℕ) (word token : List ℕ) (p : Proceeded) → at_row (proceed_answer next.at token None) value n ≡ Ok proceeded.Polled → Ok p ≡ at_row (proceed_answer next.at token None) value n
    → new ≡ with_row (proceeded_row next.at word next.place p) value n → Takes value new next (acts.GrantPolled n)
polled_by value new next n word token p passes is made =
    let same = proceeded_as p proceeded.Polled (at_row (proceed_answer next.at token None) value n) passes is in
    polled_takes value new next n word token None passes (subst (λ (x : Proceeded). new ≡ with_row (proceeded_row next.at word next.place x) value n) same made)

pub continued_by : (value new : GrantsValue) (next : NextEntry) (n : ℕ) (word token : List ℕ) (reference : Option (List ℕ)) (p : Proceeded) → IsDrawn word → at_row (proceed_answer next.at token reference) value n ≡ Ok proceeded.Issued → Ok p ≡ at_row (proceed_answer next.at token reference) value n
    → new ≡ with_row (proceeded_row next.at word next.place p) value n → Takes value new next (acts.GrantContinued n word)
continued_by value new next n word token reference p drawn passes is made =
    let same = proceeded_as p proceeded.Issued (at_row (proceed_answer next.at token reference) value n) passes is in
    continued_takes value new next n word token reference drawn passes (subst (λ (x : Proceeded). new ≡ with_row (proceeded_row next.at word next.place x) value n) same made)
