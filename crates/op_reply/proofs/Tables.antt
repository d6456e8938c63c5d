-- Tables of members: what is put behind the members so far.
use Rattle.std.proofs.Common.{◌≡◌, ◌<◌, ℕ, suc, ◌+◌, Bool, true, false, ◌&&◌, List, [], ◌∷◌, ◌++◌, length, take, drop, get_or, Some, None, refl, sym, ap, subst, ◌∙◌, IsTrue}
use Rattle.std.proofs.Math.Seq.{split_at}
use Rattle.std.proofs.lemmas.Bool.{and_parts, or_from, or_parts, false≢true}
use Rattle.std.proofs.lemmas.List.{take_more}
use Rattle.std.proofs.lemmas.List.Folds.{list_all-append}
use Rattle.std.specs.Borrow.{Bor}
use Rattle.std.specs.Cmp.Lexicographic.{slice_cmp}
use Rattle.std.specs.List.{list_all}
use Rattle.std.proofs.Common.{Ordering, Less, Equal, Greater}
use Rattle.std.specs.Ordering.{nat_cmp, is_gt, match_ordering}
use Rattle.std.specs.declared.option.Option.{Option}
use Rattle.serde_json.specs.Data.{Data, Members, no_members, member, put}
use Rattle.serde_json.specs.Written.{has_float, members_have_float}
use Rattle.op_model.specs.Bodies.{optional}
use Rattle.op_reply.specs.Fields.{field_data, members_data, is_behind, is_ascending, put_if, IsText, AreTexts}
use Rattle.op_reply.specs.declared.fields.Field.{Field}

the_last : {X : Type 0} (r : Ordering) (a b c : X) → is_gt r ≡ true → match_ordering r a b c ≡ c
the_last Less a b c h = absurd (false≢true h)
the_last Equal a b c h = absurd (false≢true h)
the_last Greater a b c h = refl

-- put behind a member that may be left out
put_past : (name other : List ℕ) (d : Data) (value : Option Data) (later after : Members)
    → is_behind name other ≡ true → put name d later ≡ after → put name d (optional other value later) ≡ optional other value after
put_past name other d None later after behind is = is
put_past name other d (Some e) later after behind is =
    the_last (slice_cmp nat_cmp name other) (member name d (member other e later)) (member other d later) (member other e (put name d later)) behind
    ∙ ap (member other e) is

-- the members of a table with one more behind it
abbrev with_last : List (Bor (List ℕ) × Field) → List ℕ → Option Data → Members
with_last [] name value = optional name value no_members
with_last (m ∷ ms) name value = optional m.0.now (field_data m.1) (with_last ms name value)

last_of_table : (ms : List (Bor (List ℕ) × Field)) (m : Bor (List ℕ) × Field) → with_last ms m.0.now (field_data m.1) ≡ members_data (ms ++ m ∷ [])
last_of_table [] m = refl
last_of_table (x ∷ ms) m = ap (optional x.0.now (field_data x.1)) (last_of_table ms m)

put_last : (ms : List (Bor (List ℕ) × Field)) (name : List ℕ) (value : Option Data)
    → list_all (λ m. is_behind name m.0.now) ms ≡ true → put_if name value (members_data ms) ≡ with_last ms name value
put_last [] name None all = refl
put_last [] name (Some d) all = refl
put_last (m ∷ ms) name None all =
    let parts = and_parts (is_behind name m.0.now) (list_all (λ x. is_behind name x.0.now) ms) all in
    ap (optional m.0.now (field_data m.1)) (put_last ms name None parts.1)
put_last (m ∷ ms) name (Some d) all =
    let parts = and_parts (is_behind name m.0.now) (list_all (λ x. is_behind name x.0.now) ms) all in
    put_past name m.0.now d (field_data m.1) (members_data ms) (with_last ms name (Some d)) parts.0 (put_last ms name (Some d) parts.1)

joined : (a b : Bool) → a ≡ true → b ≡ true → (a && b) ≡ true
joined a b h k = ap (λ x. x && b) h ∙ k

-- in an ascending table, a name stands behind all before it
behind_front : (front : List (Bor (List ℕ) × Field)) (m : Bor (List ℕ) × Field) (rest : List (Bor (List ℕ) × Field))
    → is_ascending (front ++ m ∷ rest) ≡ true → list_all (λ x. is_behind m.0.now x.0.now) front ≡ true
behind_front [] m rest up = refl
behind_front (x ∷ front) m rest up =
    let below = λ (later : Bor (List ℕ) × Field). is_behind later.0.now x.0.now in
    let parts = and_parts (list_all below (front ++ m ∷ rest)) (is_ascending (front ++ m ∷ rest)) up in
    let later = and_parts (list_all below front) (list_all below (m ∷ rest)) (sym (list_all-append below front (m ∷ rest)) ∙ parts.0) in
    joined _ _ (and_parts (below m) (list_all below rest) later.1).0 (behind_front front m rest parts.1)

-- each member of a table of texts is a text
text_in : (front : List (Bor (List ℕ) × Field)) (m : Bor (List ℕ) × Field) (rest : List (Bor (List ℕ) × Field)) → AreTexts (front ++ m ∷ rest) → IsText m.1
text_in [] m rest are = are.0
text_in (x ∷ front) m rest are = text_in front m rest are.1

-- no float is put in
plain_match : (r : Ordering) (a b c : Members) → members_have_float a ≡ false → members_have_float b ≡ false → members_have_float c ≡ false
    → members_have_float (match_ordering r a b c) ≡ false
plain_match Less a b c pa pb pc = pa
plain_match Equal a b c pa pb pc = pb
plain_match Greater a b c pa pb pc = pc

pub plain_put : (name : List ℕ) (d : Data) (ms : Members) → has_float d ≡ false → members_have_float ms ≡ false → members_have_float (put name d ms) ≡ false
plain_put name d no_members plain rest = or_from _ _ plain refl
plain_put name d (member l e ms) plain rest =
    let parts = or_parts (has_float e) (members_have_float ms) rest in
    plain_match (slice_cmp nat_cmp name l) (member name d (member l e ms)) (member l d ms) (member l e (put name d ms))
    (or_from _ _ plain rest) (or_from _ _ plain parts.1) (or_from _ _ parts.0 (plain_put name d ms plain parts.1))

-- ---- one turn over a table

pub next_members : (ms : List (Bor (List ℕ) × Field)) (i : ℕ) (d : Bor (List ℕ) × Field) → i < length ms → IsTrue (is_ascending ms)
    → put_if (get_or ms i d).0.now (field_data (get_or ms i d).1) (members_data (take i ms)) ≡ members_data (take (i + 1) ms)
next_members ms i d under up =
    let m = get_or ms i d in
    put_last (take i ms) m.0.now (field_data m.1) (behind_front (take i ms) m (drop (suc i) ms) (ap is_ascending (sym (split_at ms i d under)) ∙ up))
    ∙ last_of_table (take i ms) m ∙ ap members_data (sym (take_more ms i d under))

pub text_at : (ms : List (Bor (List ℕ) × Field)) (i : ℕ) (d : Bor (List ℕ) × Field) → i < length ms → AreTexts ms → IsText (get_or ms i d).1
text_at ms i d under are = text_in (take i ms) (get_or ms i d) (drop (suc i) ms) (subst AreTexts (split_at ms i d under) are)
