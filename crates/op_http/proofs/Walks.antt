-- A walk of `matchit` over rows whose parameters are whole segments: it finds a row that fits where there is one, and
-- what it finds fits.
use Rattle.std.proofs.Common.{◌≡◌, ◌≢◌, ◌⊎◌, inl, inr, ℕ, zero, suc, ◌-◌, ◌<◌, ◌≤◌, Bool, true, false, cond, not, ◌&&◌, ltb, nat_eq, ◌==◌, List, [], ◌∷◌, length, drop, Option, Some, None, refl, sym, ap, ◌∙◌, subst, arith}
use Rattle.std.specs.Prelude.{⊤}
use Rattle.std.proofs.lemmas.Bool.{and_parts}
use Rattle.std.proofs.lemmas.Bool.Decides.{nat_tests}
use Rattle.std.proofs.Math.Seq.{drop-length}
use Rattle.std.specs.Cmp.Lexicographic.{pointwise}
use Rattle.matchit.specs.Order.{placed}
use Rattle.matchit.specs.Rows.{RowsOf, comes_before, param_token, catch_all_token}
use Rattle.matchit.specs.Seek.{own, step, or_else, seek, first, param_step, has_slash, segment, cuts, longest_from, longest_suffix, with_suffix, after_param}

-- ---- rows that fit

-- what is left of a path from its first slash on
abbrev pub rest : List ℕ → List ℕ
rest [] = []
rest (b ∷ path) = cond (b == 47) (b ∷ path) (rest path)

-- a pattern fits a path: a parameter takes what stands before the next slash, one byte at least
abbrev pub fits : List ℕ → List ℕ → Bool
fits [] [] = true
fits [] (b ∷ path) = false
fits (x ∷ pattern) [] = false
fits (x ∷ pattern) (b ∷ path) = cond (x == 256) (not (b == 47) && fits pattern (rest path)) (x == b && fits pattern path)

-- a parameter has the whole of a segment
abbrev pub IsTail : List ℕ → Type 0
IsTail [] = ⊤
IsTail (x ∷ pattern) = x ≡ 47

abbrev pub IsWhole : List ℕ → Type 0
IsWhole [] = ⊤
IsWhole (x ∷ pattern) = (x ≢ 257) × (x ≡ 256 → IsTail pattern) × IsWhole pattern

abbrev slash : List ℕ
slash = 47 ∷ []

-- ---- a path's first segment

-- where a path has a slash, what is left begins with it, and stands behind the segment
left_at_slash : (path : List ℕ) → has_slash path ≡ true
    → (behind : List ℕ) × (rest path ≡ 47 ∷ behind) × (drop (length (segment path) - 1) path ≡ rest path)
    × (0 < length (segment path)) × (drop (length (segment path) - 1) (segment path) ≡ slash)
left_at_slash [] e = absurd cc
left_at_slash (b ∷ path) e = by (b == 47) refl e (left_at_slash path)
  where
    by : (v : Bool) → (b == 47) ≡ v → cond v true (has_slash path) ≡ true
        → (has_slash path ≡ true → (behind : List ℕ) × (rest path ≡ 47 ∷ behind) × (drop (length (segment path) - 1) path ≡ rest path)
        × (0 < length (segment path)) × (drop (length (segment path) - 1) (segment path) ≡ slash))
        → (behind : List ℕ) × (cond v (b ∷ path) (rest path) ≡ 47 ∷ behind) × (drop (length (cond v (b ∷ []) (b ∷ segment path)) - 1) (b ∷ path) ≡ cond v (b ∷ path) (rest path))
        × (0 < length (cond v (b ∷ []) (b ∷ segment path))) × (drop (length (cond v (b ∷ []) (b ∷ segment path)) - 1) (cond v (b ∷ []) (b ∷ segment path)) ≡ slash)
    by true is there later = let head : b ≡ 47 = grind (arith, nat_tests) in (path, rw head refl, refl, omega arith, rw head refl)
    by false is there later =
        let f = later there in
        let less : length (b ∷ segment path) - 1 ≡ suc (length (segment path) - 1) = omega (arith, f.3) in
        (f.0, f.1, rw less f.2, omega arith, rw less f.4)

-- where it has none, nothing is left
left_at_end : (path : List ℕ) → has_slash path ≡ false → (rest path ≡ []) × (segment path ≡ path)
left_at_end [] e = (refl, refl)
left_at_end (b ∷ path) e = by (b == 47) refl e (left_at_end path)
  where
    by : (v : Bool) → (b == 47) ≡ v → cond v true (has_slash path) ≡ false → (has_slash path ≡ false → (rest path ≡ []) × (segment path ≡ path))
        → (cond v (b ∷ path) (rest path) ≡ []) × (cond v (b ∷ []) (b ∷ segment path) ≡ b ∷ path)
    by true is none later = absurd cc
    by false is none later = let f = later none in (f.0, ap (λ (t : List ℕ). b ∷ t) f.1)

and_none : (v : Bool) → (v && false) ≡ false
and_none true = refl
and_none false = refl

ends_elsewhere : (path : List ℕ) (n : ℕ) → has_slash path ≡ false → pointwise nat_eq slash (drop n path) ≡ false
ends_elsewhere [] zero e = refl
ends_elsewhere [] (suc n) e = refl
ends_elsewhere (b ∷ path) n e = by (b == 47) refl n e (ends_elsewhere path)
  where
    by : (v : Bool) → (b == 47) ≡ v → (n : ℕ) → cond v true (has_slash path) ≡ false → ((n : ℕ) → has_slash path ≡ false → pointwise nat_eq slash (drop n path) ≡ false)
        → pointwise nat_eq slash (drop n (b ∷ path)) ≡ false
    by true is n none later = absurd cc
    by false is zero none later = let other : nat_eq 47 b ≡ false = grind (arith, nat_tests) in rw other refl
    by false is (suc n) none later = later n none

rest_shorter : (path : List ℕ) → length (rest path) ≤ length path
rest_shorter [] = omega arith
rest_shorter (b ∷ path) = by (b == 47) (rest_shorter path)
  where
    by : (v : Bool) → length (rest path) ≤ length path → length (cond v (b ∷ path) (rest path)) ≤ suc (length path)
    by true later = omega arith
    by false later = omega (arith, later)

-- what begins a segment, and fits, is what is left from the first slash on
rest_same : (pattern path : List ℕ) → IsTail pattern → fits pattern path ≡ true → rest path ≡ path
rest_same [] [] tail e = refl
rest_same [] (b ∷ path) tail e = absurd cc
rest_same (x ∷ pattern) [] tail e = refl
rest_same (x ∷ pattern) (b ∷ path) tail e = by (47 == b) refl (rw tail at e)
  where
    by : (v : Bool) → (47 == b) ≡ v → (v && fits pattern path) ≡ true → rest (b ∷ path) ≡ b ∷ path
    by true is fit = let head : (b == 47) ≡ true = grind (arith, nat_tests) in rw head refl
    by false is fit = absurd cc

byte_fits : (b : ℕ) (pattern path : List ℕ) → (b ≡ 256 → IsTail pattern) → fits pattern path ≡ true → fits (b ∷ pattern) (b ∷ path) ≡ true
byte_fits b pattern path tail e = by (b == 256) refl
  where
    by : (v : Bool) → (b == 256) ≡ v → cond v (not (b == 47) && fits pattern (rest path)) (b == b && fits pattern path) ≡ true
    by true is =
        let same : b ≡ 256 = grind (arith, nat_tests) in
        let other : (b == 47) ≡ false = grind (arith, nat_tests) in
        rw (other, rest_same pattern path (tail same) e, e) refl
    by false is = let same : (b == b) ≡ true = grind (arith, nat_tests) in rw (same, e) refl

-- no path fits both patterns: where they part, neither has a parameter
abbrev pub are_apart : List ℕ → List ℕ → Bool
are_apart [] [] = false
are_apart [] (y ∷ other) = true
are_apart (x ∷ pattern) [] = true
are_apart (x ∷ pattern) (y ∷ other) = cond (x == y) (are_apart pattern other) (not (x == 256) && not (y == 256))

apart_fit : (pattern other path : List ℕ) → are_apart pattern other ≡ true → fits pattern path ≡ true → fits other path ≡ true → ⊥
apart_fit [] [] path apart e f = absurd cc
apart_fit [] (y ∷ other) [] apart e f = absurd cc
apart_fit [] (y ∷ other) (b ∷ path) apart e f = absurd cc
apart_fit (x ∷ pattern) [] [] apart e f = absurd cc
apart_fit (x ∷ pattern) [] (b ∷ path) apart e f = absurd cc
apart_fit (x ∷ pattern) (y ∷ other) [] apart e f = absurd cc
apart_fit (x ∷ pattern) (y ∷ other) (b ∷ path) apart e f = by (x == y) refl apart e f (apart_fit pattern other)
  where
    by_byte : (v : Bool) → (x == 256) ≡ v → (w : Bool) → (y == 256) ≡ w → (x == y) ≡ false → (not v && not w) ≡ true
        → cond v (not (b == 47) && fits pattern (rest path)) (x == b && fits pattern path) ≡ true
        → cond w (not (b == 47) && fits other (rest path)) (y == b && fits other path) ≡ true → ⊥
    by_byte true v_is w w_is differ two e f = absurd cc
    by_byte false v_is true w_is differ two e f = absurd cc
    by_byte false v_is false w_is differ two e f =
        let one : (x == b) ≡ true = (and_parts (x == b) (fits pattern path) e).0 in
        let other_one : (y == b) ≡ true = (and_parts (y == b) (fits other path) f).0 in
        let same : (x == y) ≡ true = grind (arith, nat_tests) in
        absurd cc

    by_same : (v : Bool) → (x == 256) ≡ v → are_apart pattern other ≡ true
        → cond v (not (b == 47) && fits pattern (rest path)) (x == b && fits pattern path) ≡ true
        → cond v (not (b == 47) && fits other (rest path)) (x == b && fits other path) ≡ true
        → ((path : List ℕ) → are_apart pattern other ≡ true → fits pattern path ≡ true → fits other path ≡ true → ⊥) → ⊥
    by_same true is two e f later =
        later (rest path) two (and_parts (not (b == 47)) (fits pattern (rest path)) e).1 (and_parts (not (b == 47)) (fits other (rest path)) f).1
    by_same false is two e f later =
        later path two (and_parts (x == b) (fits pattern path) e).1 (and_parts (x == b) (fits other path) f).1

    by : (v : Bool) → (x == y) ≡ v → cond v (are_apart pattern other) (not (x == 256) && not (y == 256)) ≡ true
        → fits (x ∷ pattern) (b ∷ path) ≡ true → fits (y ∷ other) (b ∷ path) ≡ true
        → ((path : List ℕ) → are_apart pattern other ≡ true → fits pattern path ≡ true → fits other path ≡ true → ⊥) → ⊥
    by true is two e f later =
        let same : y ≡ x = grind (arith, nat_tests) in
        by_same (x == 256) refl two e (rw same at f) later
    by false is two e f later = by_byte (x == 256) refl (y == 256) refl is two e f

module _ {K : Type 0} where
  -- a pattern and its key are among the rows
  abbrev pub In : List ℕ → K → RowsOf K → Type 0
  In pattern key [] = ⊥
  In pattern key ((t, k) ∷ rows) = ((t ≡ pattern) × (k ≡ key)) ⊎ In pattern key rows

  abbrev pub AllWhole : RowsOf K → Type 0
  AllWhole rows = (pattern : List ℕ) (key : K) → In pattern key rows → IsWhole pattern

  abbrev pub AllTails : RowsOf K → Type 0
  AllTails rows = (pattern : List ℕ) (key : K) → In pattern key rows → IsTail pattern

  -- ---- rows after a step

  own_in : (rows : RowsOf K) (key : K) → own rows ≡ Some key → In [] key rows
  own_in [] key e = absurd cc
  own_in (([], k) ∷ rows) key e = inl (refl, (let same : k ≡ key = cc in same))
  own_in ((x ∷ t, k) ∷ rows) key e = inr (own_in rows key e)

  own_some : (rows : RowsOf K) (key : K) → In [] key rows → (k : K) × (own rows ≡ Some k)
  own_some [] key there = elim there [ ]
  own_some (([], k) ∷ rows) key there = (k, refl)
  own_some ((x ∷ t, k) ∷ rows) key (inl same) = let no = same.0 in absurd cc
  own_some ((x ∷ t, k) ∷ rows) key (inr later) = own_some rows key later

  step_in : (b : ℕ) (rows : RowsOf K) (pattern : List ℕ) (key : K) → In pattern key (step b rows) → In (b ∷ pattern) key rows
  step_in b [] pattern key there = there
  step_in b (([], k) ∷ rows) pattern key there = inr (step_in b rows pattern key there)
  step_in b ((x ∷ t, k) ∷ rows) pattern key there = by (x == b) refl there (step_in b rows pattern key)
    where
      by : (v : Bool) → (x == b) ≡ v → In pattern key (cond v ((t, k) ∷ step b rows) (step b rows))
          → (In pattern key (step b rows) → In (b ∷ pattern) key rows) → In (b ∷ pattern) key ((x ∷ t, k) ∷ rows)
      by true e (inl same) later = let head : x ≡ b = grind (arith, nat_tests) in inl (rw (head, same.0) refl, same.1)
      by true e (inr there) later = inr (later there)
      by false e there later = inr (later there)

  in_step : (b : ℕ) (rows : RowsOf K) (pattern : List ℕ) (key : K) → In (b ∷ pattern) key rows → In pattern key (step b rows)
  in_step b [] pattern key there = there
  in_step b (([], k) ∷ rows) pattern key (inl same) = let no = same.0 in absurd cc
  in_step b (([], k) ∷ rows) pattern key (inr later) = in_step b rows pattern key later
  in_step b ((x ∷ t, k) ∷ rows) pattern key there = by (x == b) refl there (in_step b rows pattern key)
    where
      by : (v : Bool) → (x == b) ≡ v → In (b ∷ pattern) key ((x ∷ t, k) ∷ rows)
          → (In (b ∷ pattern) key rows → In pattern key (step b rows)) → In pattern key (cond v ((t, k) ∷ step b rows) (step b rows))
      by true e (inl same) later = let is = same.0 in inl ((let tail : t ≡ pattern = cc is in tail), same.1)
      by true e (inr there) later = inr (later there)
      by false e (inl same) later =
          let is = same.0 in
          let head : x ≡ b = cc is in
          let yes_same : (x == b) ≡ true = grind (arith, nat_tests) in absurd cc
      by false e (inr there) later = later there

  step_whole : (b : ℕ) (rows : RowsOf K) → AllWhole rows → AllWhole (step b rows)
  step_whole b rows whole pattern key there = (whole (b ∷ pattern) key (step_in b rows pattern key there)).2

  step_tails : (rows : RowsOf K) → AllWhole rows → AllTails (step param_token rows)
  step_tails rows whole pattern key there = (whole (256 ∷ pattern) key (step_in 256 rows pattern key there)).1 refl

  no_catch_all : (rows : RowsOf K) → AllWhole rows → own (step catch_all_token rows) ≡ None
  no_catch_all rows whole = by (own (step 257 rows)) refl
    where
      by : (found : Option K) → own (step 257 rows) ≡ found → found ≡ None
      by None e = refl
      by (Some k) e = absurd ((whole (257 ∷ []) k (step_in 257 rows [] k (own_in (step 257 rows) k e))).0 refl)

  -- ---- a parameter takes its segment

  pub walk-empty : (n : ℕ) (path : List ℕ) → seek {K = K} n [] path ≡ None
  unfolding seek param_step
  walk-empty n [] = refl
  walk-empty (suc n) (b ∷ path) = walk-empty n path
  walk-empty zero (b ∷ path) = rw (walk-empty 0 path) (by (has_slash (b ∷ path)) (walk-empty 0 path) (walk-empty (length (b ∷ path) - 1) path))
    where
      by : (v : Bool) → seek {K = K} 0 [] path ≡ None → seek {K = K} (length (b ∷ path) - 1) [] path ≡ None
          → or_else (seek {K = K} ((cond {A = ℕ × RowsOf K} v (0, []) (length (b ∷ path), [])).0 - 1) (cond {A = ℕ × RowsOf K} v (0, []) (length (b ∷ path), [])).1 path) None ≡ None
      by true now later = rw now refl
      by false now later = rw later refl

  walk-drop : (n : ℕ) (rows : RowsOf K) (path : List ℕ) → seek n rows path ≡ seek 0 rows (drop n path)
  unfolding seek
  walk-drop zero rows path = refl
  walk-drop (suc n) rows [] = refl
  walk-drop (suc n) rows (b ∷ path) = walk-drop n rows path

  -- the suffix that matchit looks for behind a parameter: a slash, where the path has one and a row goes on with it
  abbrev goes_on : RowsOf K → Bool
  goes_on [] = false
  goes_on (([], k) ∷ rows) = goes_on rows
  goes_on ((x ∷ t, k) ∷ rows) = true

  longest-slash : (seg : List ℕ) (rows : RowsOf K) → AllTails rows → longest_from seg slash rows ≡ slash
  longest-slash seg [] tails = refl
  longest-slash seg (([], k) ∷ rows) tails = longest-slash seg rows (λ t j there. tails t j (inr there))
  longest-slash seg ((x ∷ t, k) ∷ rows) tails =
      let head : x ≡ 47 = tails (x ∷ t) k (inl (refl, refl)) in
      rw head (longest-slash seg rows (λ t j there. tails t j (inr there)))

  longest-tails : (seg : List ℕ) (rows : RowsOf K) → AllTails rows → longest_suffix seg rows ≡ cond (cuts seg slash && goes_on rows) slash []
  longest-tails seg [] tails = by (cuts seg slash)
    where
      by : (v : Bool) → [] ≡ cond (v && false) slash []
      by true = refl
      by false = refl
  longest-tails seg (([], k) ∷ rows) tails = longest-tails seg rows (λ t j there. tails t j (inr there))
  longest-tails seg ((x ∷ t, k) ∷ rows) tails =
      let head : x ≡ 47 = tails (x ∷ t) k (inl (refl, refl)) in
      rw head (by (cuts seg slash) (longest-tails seg rows (λ t j there. tails t j (inr there))) (longest-slash seg rows (λ t j there. tails t j (inr there))))
    where
      by : (v : Bool) → longest_suffix seg rows ≡ cond (v && goes_on rows) slash []
          → longest_from seg slash rows ≡ slash → longest_from seg (cond v slash []) rows ≡ cond (v && true) slash []
      by true so_far already = already
      by false so_far already = so_far

  -- the rows that go on with a slash step as all of them do
  with_slash-step : (b : ℕ) (rows : RowsOf K) → AllTails rows → step b (with_suffix slash rows) ≡ step b rows
  with_slash-step b [] tails = refl
  with_slash-step b (([], k) ∷ rows) tails = with_slash-step b rows (λ t j there. tails t j (inr there))
  with_slash-step b ((x ∷ t, k) ∷ rows) tails =
      let head : x ≡ 47 = tails (x ∷ t) k (inl (refl, refl)) in
      rw head (ap (λ (later : RowsOf K). cond (47 == b) ((t, k) ∷ later) later) (with_slash-step b rows (λ t j there. tails t j (inr there))))

  -- where no row goes on, none steps
  no_step : (b : ℕ) (rows : RowsOf K) → goes_on rows ≡ false → step b rows ≡ []
  no_step b [] e = refl
  no_step b (([], k) ∷ rows) e = no_step b rows e
  no_step b ((x ∷ t, k) ∷ rows) e = absurd cc

  same_walk : (rows others : RowsOf K) (b : ℕ) (path : List ℕ) → ((x : ℕ) → step x rows ≡ step x others) → seek 0 rows (b ∷ path) ≡ seek 0 others (b ∷ path)
  unfolding seek
  same_walk rows others b path same = rw (same b, same 256, same 257) refl

  -- what a parameter takes of a path, and the rows behind it
  abbrev taken : Bool → List ℕ → RowsOf K → ℕ × RowsOf K
  taken goes path rows = cond goes (length (segment path) - 1, with_suffix slash rows) (cond (has_slash path) (0, []) (length path, rows))

  parameter_step : (rows : RowsOf K) (path : List ℕ) → AllTails rows → param_step rows path ≡ taken (cuts (segment path) slash && goes_on rows) path rows
  unfolding param_step
  parameter_step rows path tails = rw (longest-tails (segment path) rows tails) (by (cuts (segment path) slash && goes_on rows))
    where
      by : (v : Bool) → ◌≡◌ {A = ℕ × RowsOf K} (cond (ltb 0 (length (cond v slash []))) (length (segment path) - length (cond v slash []), with_suffix (cond v slash []) rows) (cond (has_slash path) (0, []) (length path, rows)))
          (taken v path rows)
      by true = refl
      by false = refl

  -- a parameter takes what stands before the next slash
  jump : (rows : RowsOf K) (b : ℕ) (path : List ℕ) → AllTails rows → after_param rows (b ∷ path) ≡ cond (b == 47) None (seek 0 rows (rest (b ∷ path)))
  jump rows b path tails = rw (parameter_step rows (b ∷ path) tails) (by_head (b == 47) refl)
    where
      walk : ℕ × RowsOf K → Option K
      walk step_taken = seek (step_taken.0 - 1) step_taken.1 path

      by_goes : (goes : Bool) → goes_on rows ≡ goes → (behind : List ℕ) → rest path ≡ 47 ∷ behind → drop (length (segment path) - 1) path ≡ rest path
          → walk (cond goes (suc (length (segment path)) - 1, with_suffix slash rows) (0, [])) ≡ seek 0 rows (rest path)
      by_goes true goes behind is left =
          let less : suc (length (segment path)) - 1 ≡ length (segment path) = omega arith in
          rw less (walk-drop (length (segment path) - 1) (with_suffix slash rows) path ∙ rw (left, is) (same_walk (with_suffix slash rows) rows 47 behind (λ x. with_slash-step x rows tails)))
      by_goes false goes behind is left =
          rw is (walk-empty 0 path ∙ sym (same_walk rows [] 47 behind (λ x. no_step x rows goes) ∙ walk-empty 0 (47 ∷ behind)))

      by_slash : (slashed : Bool) → (b == 47) ≡ false → has_slash path ≡ slashed
          → walk (cond (cuts (b ∷ segment path) slash && goes_on rows) (suc (length (segment path)) - 1, with_suffix slash rows) (cond slashed (0, []) (suc (length path), rows))) ≡ seek 0 rows (rest path)
      by_slash true other e =
          let f = left_at_slash path e in
          let long : ltb 1 (suc (length (segment path))) ≡ true = let more = f.3 in grind (arith, nat_tests) in
          let less : suc (length (segment path)) - 1 ≡ suc (length (segment path) - 1) = omega (arith, f.3) in
          let cut : cuts (b ∷ segment path) slash ≡ true = rw (long, less, f.4) refl in
          rw cut (by_goes (goes_on rows) refl f.0 f.1 f.2)
      by_slash false other e =
          let f = left_at_end path e in
          let all_of : drop (suc (length path) - 1) path ≡ [] = ap (λ (n : ℕ). drop n path) (let less : suc (length path) - 1 ≡ length path = omega arith in less) ∙ drop-length path in
          let cut : cuts (b ∷ path) slash ≡ false = rw (ends_elsewhere (b ∷ path) (suc (length path) - 1) (rw (other, e) refl)) (and_none (ltb 1 (suc (length path)))) in
          rw (f.0, f.1, cut) (walk-drop (suc (length path) - 1) rows path ∙ ap (λ (p : List ℕ). seek 0 rows p) all_of)

      by_head : (v : Bool) → (b == 47) ≡ v → walk (taken (cuts (cond v (b ∷ []) (b ∷ segment path)) slash && goes_on rows) (b ∷ path) rows) ≡ cond v None (seek 0 rows (cond v (b ∷ path) (rest path)))
      by_head true e = rw e (walk-empty 0 path)
      by_head false e = rw e (by_slash (has_slash path) e refl)

  -- ---- a walk finds what fits

  or_none : (found : Option K) → or_else found None ≡ found
  or_none None = refl
  or_none (Some k) = refl

  walk_step : (rows : RowsOf K) (b : ℕ) (path : List ℕ) → AllWhole rows
      → seek 0 rows (b ∷ path) ≡ or_else (seek 0 (step b rows) path) (cond (b == 47) None (seek 0 (step param_token rows) (rest (b ∷ path))))
  unfolding seek
  walk_step rows b path whole =
      rw (no_catch_all rows whole, or_none (after_param (step param_token rows) (b ∷ path)), jump (step param_token rows) b path (step_tails rows whole)) refl

  sound : (n : ℕ) (rows : RowsOf K) (path : List ℕ) (key : K) → length path ≤ n → AllWhole rows → seek 0 rows path ≡ Some key
      → (pattern : List ℕ) × In pattern key rows × (fits pattern path ≡ true)
  unfolding seek
  sound n rows [] key small whole e = ([], own_in rows key e, refl)
  sound zero rows (b ∷ path) key small whole e = absurd (omega (arith, small))
  sound (suc n) rows (b ∷ path) key small whole e =
      by (seek 0 (step b rows) path) refl (b == 47) refl (sym (walk_step rows b path whole) ∙ e)
      (λ k is. sound n (step b rows) path k (omega (arith, small)) (step_whole b rows whole) is)
      (λ is. sound n (step param_token rows) (rest path) key (omega (arith, small, rest_shorter path)) (step_whole 256 rows whole) is)
    where
      by : (left : Option K) → seek 0 (step b rows) path ≡ left → (v : Bool) → (b == 47) ≡ v
          → or_else left (cond v None (seek 0 (step param_token rows) (cond v (b ∷ path) (rest path)))) ≡ Some key
          → ((k : K) → seek 0 (step b rows) path ≡ Some k → (pattern : List ℕ) × In pattern k (step b rows) × (fits pattern path ≡ true))
          → (seek 0 (step param_token rows) (rest path) ≡ Some key → (pattern : List ℕ) × In pattern key (step param_token rows) × (fits pattern (rest path) ≡ true))
          → (pattern : List ℕ) × In pattern key rows × (fits pattern (b ∷ path) ≡ true)
      by (Some k) left v is found by_byte by_parameter =
          let same : k ≡ key = cc found in
          let f = by_byte k left in
          let there = step_in b rows f.0 k f.1 in
          (b ∷ f.0, subst (λ (j : K). In (b ∷ f.0) j rows) same there, byte_fits b f.0 path (whole (b ∷ f.0) k there).1 f.2)
      by None left true is found by_byte by_parameter = absurd cc
      by None left false is found by_byte by_parameter =
          let f = by_parameter found in
          (256 ∷ f.0, step_in 256 rows f.0 key f.1, rw (is, f.2) refl)

  complete : (n : ℕ) (rows : RowsOf K) (path pattern : List ℕ) (key : K) → length path ≤ n → AllWhole rows → In pattern key rows → fits pattern path ≡ true
      → (k : K) × (seek 0 rows path ≡ Some k)
  unfolding seek
  complete n rows [] [] key small whole there e = own_some rows key there
  complete n rows [] (x ∷ pattern) key small whole there e = absurd cc
  complete n rows (b ∷ path) [] key small whole there e = absurd cc
  complete zero rows (b ∷ path) (x ∷ pattern) key small whole there e = absurd (omega (arith, small))
  complete (suc n) rows (b ∷ path) (x ∷ pattern) key small whole there e =
      let f = by (x == 256) refl e
      (λ is fit. complete n (step b rows) path pattern key (omega (arith, small)) (step_whole b rows whole)
      (in_step b rows pattern key (subst (λ (y : ℕ). In (y ∷ pattern) key rows) is there)) fit)
      (λ is fit. complete n (step param_token rows) (rest path) pattern key (omega (arith, small, rest_shorter path)) (step_whole 256 rows whole)
      (in_step 256 rows pattern key (subst (λ (y : ℕ). In (y ∷ pattern) key rows) is there)) fit) in
      (f.0, walk_step rows b path whole ∙ f.1)
    where
      either : (left right : Option K) (k : K) → right ≡ Some k → (j : K) × (or_else left right ≡ Some j)
      either None right k e = (k, e)
      either (Some j) right k e = (j, refl)

      by_byte : (v : Bool) → (x == b) ≡ v → (v && fits pattern path) ≡ true
          → (x ≡ b → fits pattern path ≡ true → (k : K) × (seek 0 (step b rows) path ≡ Some k))
          → (k : K) × (or_else (seek 0 (step b rows) path) (cond (b == 47) None (seek 0 (step param_token rows) (rest (b ∷ path)))) ≡ Some k)
      by_byte true is fit later = let same : x ≡ b = grind (arith, nat_tests) in let f = later same fit in (f.0, rw f.1 refl)
      by_byte false is fit later = absurd cc

      by_parameter : (v : Bool) → (b == 47) ≡ v → (not v && fits pattern (rest path)) ≡ true
          → (fits pattern (rest path) ≡ true → (k : K) × (seek 0 (step param_token rows) (rest path) ≡ Some k))
          → (k : K) × (or_else (seek 0 (step b rows) path) (cond v None (seek 0 (step param_token rows) (cond v (b ∷ path) (rest path)))) ≡ Some k)
      by_parameter true is fit later = absurd cc
      by_parameter false is fit later = let f = later fit in either (seek 0 (step b rows) path) (seek 0 (step param_token rows) (rest path)) f.0 f.1

      by : (v : Bool) → (x == 256) ≡ v → cond v (not (b == 47) && fits pattern (rest path)) (x == b && fits pattern path) ≡ true
          → (x ≡ b → fits pattern path ≡ true → (k : K) × (seek 0 (step b rows) path ≡ Some k))
          → (x ≡ 256 → fits pattern (rest path) ≡ true → (k : K) × (seek 0 (step param_token rows) (rest path) ≡ Some k))
          → (k : K) × (or_else (seek 0 (step b rows) path) (cond (b == 47) None (seek 0 (step param_token rows) (rest (b ∷ path)))) ≡ Some k)
      by true is fit byte parameter = let same : x ≡ 256 = grind (arith, nat_tests) in by_parameter (b == 47) refl fit (parameter same)
      by false is fit byte parameter = by_byte (x == b) refl fit byte

  -- ---- rows of which no two fit one path

  abbrev pub is_apart_from : List ℕ → RowsOf K → Bool
  is_apart_from pattern [] = true
  is_apart_from pattern ((t, k) ∷ rows) = are_apart pattern t && is_apart_from pattern rows

  abbrev pub are_all_apart : RowsOf K → Bool
  are_all_apart [] = true
  are_all_apart ((t, k) ∷ rows) = is_apart_from t rows && are_all_apart rows

  -- the key of the first row that fits
  abbrev pub fitting : RowsOf K → List ℕ → Option K
  fitting [] path = None
  fitting ((t, k) ∷ rows) path = cond (fits t path) (Some k) (fitting rows path)

  fitting_some : (rows : RowsOf K) (path : List ℕ) (key : K) → fitting rows path ≡ Some key → (pattern : List ℕ) × In pattern key rows × (fits pattern path ≡ true)
  fitting_some [] path key e = absurd cc
  fitting_some ((t, k) ∷ rows) path key e = by (fits t path) refl e (fitting_some rows path key)
    where
      by : (v : Bool) → fits t path ≡ v → cond v (Some k) (fitting rows path) ≡ Some key
          → (fitting rows path ≡ Some key → (pattern : List ℕ) × In pattern key rows × (fits pattern path ≡ true))
          → (pattern : List ℕ) × In pattern key ((t, k) ∷ rows) × (fits pattern path ≡ true)
      by true is found later = let same : k ≡ key = cc found in (t, inl (refl, same), is)
      by false is found later = let f = later found in (f.0, inr f.1, f.2)

  apart_in : (t pattern : List ℕ) (key : K) (rows : RowsOf K) → is_apart_from t rows ≡ true → In pattern key rows → are_apart t pattern ≡ true
  apart_in t pattern key [] e there = elim there [ ]
  apart_in t pattern key ((u, k) ∷ rows) e (inl same) = rw (← same.0) (and_parts (are_apart t u) (is_apart_from t rows) e).0
  apart_in t pattern key ((u, k) ∷ rows) e (inr later) = apart_in t pattern key rows (and_parts (are_apart t u) (is_apart_from t rows) e).1 later

  fitting_is : (rows : RowsOf K) (path pattern : List ℕ) (key : K) → are_all_apart rows ≡ true → In pattern key rows → fits pattern path ≡ true → fitting rows path ≡ Some key
  fitting_is [] path pattern key apart there e = elim there [ ]
  fitting_is ((t, k) ∷ rows) path pattern key apart (inl same) e = let fit : fits t path ≡ true = rw same.0 e in rw fit (ap (λ (j : K). Some j) same.1)
  fitting_is ((t, k) ∷ rows) path pattern key apart (inr later) e =
      let parts = and_parts (is_apart_from t rows) (are_all_apart rows) apart in
      by (fits t path) refl (apart_in t pattern key rows parts.0 later) (fitting_is rows path pattern key parts.1 later e)
    where
      by : (v : Bool) → fits t path ≡ v → are_apart t pattern ≡ true → fitting rows path ≡ Some key → cond v (Some k) (fitting rows path) ≡ Some key
      by true is two found = absurd (apart_fit t pattern path two is e)
      by false is two found = found

  -- ---- rows in the order of a router

  abbrev pub placed_in_turn : RowsOf K → RowsOf K → RowsOf K
  placed_in_turn known [] = known
  placed_in_turn known (row ∷ rows) = placed_in_turn (placed row known) rows

  in_placed : (row : List ℕ × K) (rows : RowsOf K) (pattern : List ℕ) (key : K) → In pattern key (placed row rows) → In pattern key (row ∷ rows)
  in_placed row [] pattern key there = there
  in_placed row (x ∷ rows) pattern key there = by (comes_before row.0 x.0) there (in_placed row rows pattern key)
    where
      by : (v : Bool) → In pattern key (cond v (row ∷ x ∷ rows) (x ∷ placed row rows)) → (In pattern key (placed row rows) → In pattern key (row ∷ rows)) → In pattern key (row ∷ x ∷ rows)
      by true there later = there
      by false (inl here) later = inr (inl here)
      by false (inr there) later = elim (later there) [
        | inl here ↦ inl here
        | inr behind ↦ inr (inr behind)
      ]

  placed_in : (row : List ℕ × K) (rows : RowsOf K) (pattern : List ℕ) (key : K) → In pattern key (row ∷ rows) → In pattern key (placed row rows)
  placed_in row [] pattern key there = there
  placed_in row (x ∷ rows) pattern key there = by (comes_before row.0 x.0) there (placed_in row rows pattern key)
    where
      by : (v : Bool) → In pattern key (row ∷ x ∷ rows) → (In pattern key (row ∷ rows) → In pattern key (placed row rows)) → In pattern key (cond v (row ∷ x ∷ rows) (x ∷ placed row rows))
      by true there later = there
      by false (inl here) later = inr (later (inl here))
      by false (inr (inl second)) later = inl second
      by false (inr (inr behind)) later = inr (later (inr behind))

  in_turn : (known rows : RowsOf K) (pattern : List ℕ) (key : K) → In pattern key (placed_in_turn known rows) → In pattern key known ⊎ In pattern key rows
  in_turn known [] pattern key there = inl there
  in_turn known (row ∷ rows) pattern key there =
      elim (in_turn (placed row known) rows pattern key there) [
        | inl before ↦ elim (in_placed row known pattern key before) [
          | inl here ↦ inr (inl here)
          | inr known_one ↦ inl known_one
        ]
        | inr later ↦ inr (inr later)
      ]

  turned_in : (known rows : RowsOf K) (pattern : List ℕ) (key : K) → In pattern key known ⊎ In pattern key rows → In pattern key (placed_in_turn known rows)
  turned_in known [] pattern key (inl there) = there
  turned_in known [] pattern key (inr there) = elim there [ ]
  turned_in known (row ∷ rows) pattern key (inl there) = turned_in (placed row known) rows pattern key (inl (placed_in row known pattern key (inr there)))
  turned_in known (row ∷ rows) pattern key (inr (inl here)) = turned_in (placed row known) rows pattern key (inl (placed_in row known pattern key (inl here)))
  turned_in known (row ∷ rows) pattern key (inr (inr later)) = turned_in (placed row known) rows pattern key (inr later)

  -- a router finds the row that fits
  pub first_fits : (rows : RowsOf K) (path : List ℕ) → AllWhole rows → are_all_apart rows ≡ true → first (placed_in_turn [] rows) path ≡ fitting rows path
  first_fits rows path whole apart = by (first router path) refl (fitting rows path) refl
    where
      router : RowsOf K
      router = placed_in_turn [] rows

      among : (pattern : List ℕ) (key : K) → In pattern key router → In pattern key rows
      among pattern key there = elim (in_turn [] rows pattern key there) [
        | inl none ↦ elim none [ ]
        | inr is ↦ is
      ]

      router_whole : AllWhole router
      router_whole pattern key there = whole pattern key (among pattern key there)

      by : (found : Option K) → first router path ≡ found → (fit : Option K) → fitting rows path ≡ fit → found ≡ fit
      by (Some k) e fit is =
          let f = sound (length path) router path k (omega arith) router_whole e in
          sym (fitting_is rows path f.0 k apart (among f.0 k f.1) f.2) ∙ is
      by None e None is = refl
      by None e (Some k) is =
          let f = fitting_some rows path k is in
          let g = complete (length path) router path f.0 k (omega arith) router_whole (turned_in [] rows f.0 k (inr f.1)) f.2 in
          absurd (let no : None ≡ Some g.0 = sym e ∙ g.1 in cc)
