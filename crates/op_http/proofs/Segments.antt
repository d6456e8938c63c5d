-- The segments of a path, cut one by one.
use Rattle.std.proofs.Common.{◌≡◌, ℕ, zero, suc, ◌-◌, ◌+◌, ◌<◌, ◌≤◌, Bool, true, false, cond, ◌==◌, List, [], ◌∷◌, get_or, take, drop, refl, sym, ap, ◌∙◌, arith}
use Rattle.std.specs.List.{after_first, before_first, slice_split, onto_first, position_or_len}
use Rattle.op_names.specs.Forms.{is_slash}
use Rattle.op_model.specs.RouteTable.{segments}
use Rattle.op_http.specs.Routers.{segment_from}
use Rattle.op_http.proofs.Walks.{rest}

-- one more slash is passed
pub segment_step : (number passed : ℕ) (rest all : List ℕ) → passed < number → segment_from (number - passed) rest ≡ all
    → segment_from (number - (passed + 1)) (after_first is_slash rest) ≡ all
segment_step number passed rest all more so_far =
    let e : number - passed ≡ suc (number - (passed + 1)) = omega arith in
    sym (ap (λ (k : ℕ). segment_from k rest) e) ∙ so_far

-- none is left to pass
pub segment_end : (number passed : ℕ) (rest all : List ℕ) → number ≤ passed → segment_from (number - passed) rest ≡ all → before_first is_slash rest ≡ all
segment_end number passed rest all past so_far =
    let e : number - passed ≡ zero = omega arith in
    sym (ap (λ (k : ℕ). segment_from k rest) e) ∙ so_far

pub before_hit : (b : ℕ) (path : List ℕ) → (b == 47) ≡ true → before_first is_slash (b ∷ path) ≡ []
before_hit b path e = rw e refl

pub before_miss : (b : ℕ) (path : List ℕ) → (b == 47) ≡ false → before_first is_slash (b ∷ path) ≡ b ∷ before_first is_slash path
before_miss b path e = rw e (ap (λ (n : ℕ). take n (b ∷ path)) (let n = position_or_len is_slash path in let more : 1 + n ≡ suc n = omega arith in more))

pub after_hit : (b : ℕ) (path : List ℕ) → (b == 47) ≡ true → after_first is_slash (b ∷ path) ≡ path
after_hit b path e = rw e refl

after_miss : (b : ℕ) (path : List ℕ) → (b == 47) ≡ false → after_first is_slash (b ∷ path) ≡ after_first is_slash path
after_miss b path e = rw e (ap (λ (n : ℕ). drop n (b ∷ path)) (let n = position_or_len is_slash path in let more : 1 + n + 1 ≡ suc (n + 1) = omega arith in more))

-- what stands between slashes is the first segment, and those behind it
pub split_first : (path : List ℕ) → slice_split is_slash path ≡ before_first is_slash path ∷ segments (rest path)
split_first [] = refl
split_first (b ∷ path) = by (b == 47) refl (split_first path)
  where
    by : (v : Bool) → (b == 47) ≡ v → slice_split is_slash path ≡ before_first is_slash path ∷ segments (rest path)
        → cond v ([] ∷ slice_split is_slash path) (onto_first b (slice_split is_slash path)) ≡ before_first is_slash (b ∷ path) ∷ segments (cond v (b ∷ path) (rest path))
    by true is later = rw (before_hit b path is, is) refl
    by false is later = rw (before_miss b path is, later) refl

no_segment : (number : ℕ) → segment_from number [] ≡ []
no_segment zero = refl
no_segment (suc number) = no_segment number

-- a segment by its number
pub segment_is : (number : ℕ) (path : List ℕ) → segment_from number path ≡ get_or (slice_split is_slash path) number []
segment_is zero path = rw (split_first path) refl
segment_is (suc number) path = behind path (segment_is number) ∙ rw (split_first path) refl
  where
    empty : (n : ℕ) → get_or {A = List ℕ} [] n [] ≡ []
    empty zero = refl
    empty (suc n) = refl

    by : (b : ℕ) (path : List ℕ) (v : Bool) → (b == 47) ≡ v → ((path : List ℕ) → segment_from number path ≡ get_or (slice_split is_slash path) number [])
        → segment_from number (after_first is_slash path) ≡ get_or (segments (rest path)) number []
        → segment_from number (after_first is_slash (b ∷ path)) ≡ get_or (segments (cond v (b ∷ path) (rest path))) number []
    by b path true is known later = rw (after_hit b path is, is) (known path)
    by b path false is known later = rw (after_miss b path is) later

    behind : (path : List ℕ) → ((path : List ℕ) → segment_from number path ≡ get_or (slice_split is_slash path) number [])
        → segment_from number (after_first is_slash path) ≡ get_or (segments (rest path)) number []
    behind [] known = no_segment number ∙ sym (empty number)
    behind (b ∷ path) known = by b path (b == 47) refl known (behind path known)
