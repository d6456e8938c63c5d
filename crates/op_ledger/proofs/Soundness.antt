-- Ledgers stay sound.
use Rattle.std.proofs.Common.{◌≡◌, ℕ, zero, suc, ◌+◌, ◌-◌, ◌≤◌, Bool, true, false, cond, List, [], ◌∷◌, refl, sym, ap, subst, ◌∙◌, arith}
use Rattle.std.specs.Prelude.{Some, None, not, ◌&&◌, ◌==◌, All}
use Rattle.std.specs.Option.{option_map_or, option_or}
use Rattle.std.specs.declared.option.Option.{Option}
use Rattle.std.proofs.lemmas.List.Sums.{sum_by-append}
use Rattle.std.proofs.lemmas.List.Folds.{find-append}
use Rattle.std.proofs.lemmas.List.Elements.{All-append}
use Rattle.op_amount.specs.declared.TheConstants.{TOP}
use Rattle.op_model.specs.Balances.{is_same_account}
use Rattle.op_model.specs.declared.act.Account.{Account}
use Rattle.op_model.specs.declared.act.Account.TheVariants.{Outside}
use Rattle.op_ledger.specs.declared.values.Balance.{Balance}
use Rattle.op_ledger.specs.Balances.{LedgerValue, find_balance, balance_of, is_outside, total_in, IsNumbered, opened}
use Rattle.op_ledger.specs.Indexed.{AreDistinct, put_at, put}
use Rattle.op_ledger.specs.Sound.{backing, inside_part, inside, IsSound}
use Rattle.op_ledger.proofs.AccountTests.{not_outside, same_number}
use Rattle.op_ledger.proofs.Index.{found_account, distinct-map, distinct-append, put_keeps}
use Rattle.op_ledger.proofs.Puts.{ledger, find_balance-put, total-put_inside, total-put_outside, total-put_held, inside-put, part_outside, part_inside, posted_inside, All-put, All-found}

pub backing_inside : (b : Balance) → is_outside b.account ≡ false → backing b ≡ b.posted
backing_inside b out = rw out refl

backing_outside : (b : Balance) → is_outside b.account ≡ true → backing b ≡ 0
backing_outside b out = rw out refl

pub numbered_of : (xs : List Balance) (a : Account) (x : Balance) → All (λ b. IsNumbered b.account b.asset) xs → find_balance xs a ≡ Some x → IsNumbered x.account x.asset
numbered_of xs a x all found = All-found (λ b. IsNumbered b.account b.asset) (λ b. is_same_account b.account a) xs x all found

pub covered_of : (xs : List Balance) (a : Account) (x : Balance) → All (λ b. b.held ≤ backing b) xs → find_balance xs a ≡ Some x → x.held ≤ backing x
covered_of xs a x all found = All-found (λ b. b.held ≤ backing b) (λ b. is_same_account b.account a) xs x all found

-- no account but the outside's has more posted than its asset's total
pub posted_total : (v : LedgerValue) (a : Account) (x : Balance) → IsSound v → balance_of v a ≡ Some x → is_outside x.account ≡ false → x.posted ≤ total_in v x.asset
posted_total v a x sound found out =
    subst (λ n. x.posted ≤ n) (sound.balanced x.asset) (posted_inside v.accounts a x found out)

-- ---- one balance with another value held

pub sound_held : (v : LedgerValue) (x : Balance) (h : ℕ) → IsSound v → balance_of v x.account ≡ Some x → h ≤ backing x → IsSound (ledger (put (record x { held = h }) v.accounts))
sound_held v x h sound found covered =
    let y : Balance = record x { held = h } in
    let xs = v.accounts in
    record {
      distinct = distinct-map (put_at y) (put_keeps y) xs sound.distinct;
      numbered = All-put (λ b. IsNumbered b.account b.asset) y xs (numbered_of xs x.account x sound.numbered found) sound.numbered;
      covered = All-put (λ b. b.held ≤ backing b) y xs covered sound.covered;
      balanced = λ q. omega (arith, inside-put y x xs q sound.distinct found, total-put_held y x xs q found refl, sound.balanced q);
      at_most_top = λ q. omega (arith, total-put_held y x xs q found refl, sound.at_most_top q);
    }

-- ---- value between an account and the outside

both_step : (t : Bool) (before behind last total new_total x y w z : ℕ) → behind + cond t x 0 ≡ before + cond t y 0 → last + 0 ≡ behind + 0 → before ≡ total → new_total ≡ cond t z total → (t ≡ true → total ≡ w) → y + w ≡ x + z → last ≡ new_total
both_step true before behind last total new_total x y w z a b c d e f = omega (arith, e refl)
both_step false before behind last total new_total x y w z a b c d e f = omega arith

top_step : (t : Bool) (new_total z total : ℕ) → new_total ≡ cond t z total → z ≤ TOP → total ≤ TOP → new_total ≤ TOP
top_step true new_total z total e f g = omega (arith, e, f)
top_step false new_total z total e f g = omega (arith, e, g)

pub sound_with_outside : (v : LedgerValue) (x w : Balance) (y z : ℕ) → IsSound v → balance_of v x.account ≡ Some x → is_outside x.account ≡ false → balance_of v w.account ≡ Some w → w.account ≡ Outside x.asset → x.held ≤ y → y + w.posted ≡ x.posted + z → z ≤ TOP → IsSound (ledger (put (record w { posted = z }) (put (record x { posted = y }) v.accounts)))
sound_with_outside v x w y z sound found out w_found w_out held sums top =
    let xs = v.accounts in
    let b : Balance = record x { posted = y } in
    let d : Balance = record w { posted = z } in
    let ys = put b xs in
    let w_outside : is_outside w.account ≡ true = ap is_outside w_out in
    let distinct : AreDistinct ys = distinct-map (put_at b) (put_keeps b) xs sound.distinct in
    let apart : is_same_account x.account w.account ≡ false = ap (is_same_account x.account) w_out ∙ not_outside x.account x.asset out in
    let there : find_balance ys w.account ≡ Some w = find_balance-put b x xs w.account found ∙ ap (λ t. cond t (Some b) (find_balance xs w.account)) apart ∙ w_found in
    let w_total : total_in v x.asset ≡ w.posted = ap (λ o. option_map_or (λ c. c.posted) o 0) (subst (λ a. balance_of v a ≡ Some w) w_out w_found) in
    let b_covered : b.held ≤ backing b = subst (λ n. x.held ≤ n) (sym (backing_inside b out)) held in
    let w_covered : w.held ≤ 0 = subst (λ n. w.held ≤ n) (backing_outside w w_outside) (covered_of xs w.account w sound.covered w_found) in
    let d_covered : d.held ≤ backing d = subst (λ n. w.held ≤ n) (sym (backing_outside d w_outside)) w_covered in
    let totals : (q : ℕ) → total_in (ledger (put d ys)) q ≡ cond (x.asset == q) z (total_in v q) =
    λ q. total-put_outside d w ys x.asset q there w_out ∙ ap (cond (x.asset == q) z) (total-put_inside b x xs q found out) in
    record {
      distinct = distinct-map (put_at d) (put_keeps d) ys distinct;
      numbered = All-put (λ c. IsNumbered c.account c.asset) d ys (numbered_of xs w.account w sound.numbered w_found)
          (All-put (λ c. IsNumbered c.account c.asset) b xs (numbered_of xs x.account x sound.numbered found) sound.numbered);
      covered = All-put (λ c. c.held ≤ backing c) d ys d_covered (All-put (λ c. c.held ≤ backing c) b xs b_covered sound.covered);
      balanced = λ q.
          both_step (x.asset == q) (inside v q) (inside (ledger ys) q) (inside (ledger (put d ys)) q) (total_in v q) (total_in (ledger (put d ys)) q) x.posted y w.posted z
          (ap (λ n. inside (ledger ys) q + n) (sym (part_inside q x out)) ∙ inside-put b x xs q sound.distinct found ∙ ap (λ n. inside v q + n) (part_inside q b out))
          (ap (λ n. inside (ledger (put d ys)) q + n) (sym (part_outside q w w_outside)) ∙ inside-put d w ys q distinct there ∙ ap (λ n. inside (ledger ys) q + n) (part_outside q d w_outside))
          (sound.balanced q) (totals q) (λ e. subst (λ k. total_in v k ≡ w.posted) (same_number x.asset q e) w_total) sums;
      at_most_top = λ q. top_step (x.asset == q) (total_in (ledger (put d ys)) q) z (total_in v q) (totals q) top (sound.at_most_top q);
    }

-- ---- value between two accounts of an asset

between_step : (t : Bool) (before behind last total x y w z : ℕ) → behind + cond t x 0 ≡ before + cond t y 0 → last + cond t w 0 ≡ behind + cond t z 0 → before ≡ total → y + z ≡ x + w → last ≡ total
between_step true before behind last total x y w z a b c d = omega arith
between_step false before behind last total x y w z a b c d = omega arith

pub sound_between : (v : LedgerValue) (x w : Balance) (y z : ℕ) → IsSound v → balance_of v x.account ≡ Some x → is_outside x.account ≡ false → find_balance (put (record x { posted = y }) v.accounts) w.account ≡ Some w → is_outside w.account ≡ false → w.asset ≡ x.asset → x.held ≤ y → w.posted ≤ z → y + z ≡ x.posted + w.posted → IsSound (ledger (put (record w { posted = z }) (put (record x { posted = y }) v.accounts)))
sound_between v x w y z sound found out w_found w_out asset held raised sums =
    let xs = v.accounts in
    let b : Balance = record x { posted = y } in
    let d : Balance = record w { posted = z } in
    let ys = put b xs in
    let distinct : AreDistinct ys = distinct-map (put_at b) (put_keeps b) xs sound.distinct in
    let b_covered : b.held ≤ backing b = subst (λ n. x.held ≤ n) (sym (backing_inside b out)) held in
    let covered : All (λ c. c.held ≤ backing c) ys = All-put (λ c. c.held ≤ backing c) b xs b_covered sound.covered in
    let numbered : All (λ c. IsNumbered c.account c.asset) ys = All-put (λ c. IsNumbered c.account c.asset) b xs (numbered_of xs x.account x sound.numbered found) sound.numbered in
    let w_covered : w.held ≤ w.posted = subst (λ n. w.held ≤ n) (backing_inside w w_out) (covered_of ys w.account w covered w_found) in
    let d_covered : d.held ≤ backing d = subst (λ n. w.held ≤ n) (sym (backing_inside d w_out)) (omega (arith, w_covered, raised)) in
    let totals : (q : ℕ) → total_in (ledger (put d ys)) q ≡ total_in v q =
    λ q. total-put_inside d w ys q w_found w_out ∙ total-put_inside b x xs q found out in
    let w_part : (q n : ℕ) → cond (w.asset == q) n 0 ≡ cond (x.asset == q) n 0 = λ q n. ap (λ k. cond (k == q) n 0) asset in
    record {
      distinct = distinct-map (put_at d) (put_keeps d) ys distinct;
      numbered = All-put (λ c. IsNumbered c.account c.asset) d ys (numbered_of ys w.account w numbered w_found) numbered;
      covered = All-put (λ c. c.held ≤ backing c) d ys d_covered covered;
      balanced = λ q.
          between_step (x.asset == q) (inside v q) (inside (ledger ys) q) (inside (ledger (put d ys)) q) (total_in v q) x.posted y w.posted z
          (ap (λ n. inside (ledger ys) q + n) (sym (part_inside q x out)) ∙ inside-put b x xs q sound.distinct found ∙ ap (λ n. inside v q + n) (part_inside q b out))
          (ap (λ n. inside (ledger (put d ys)) q + n) (sym (part_inside q w w_out ∙ w_part q w.posted)) ∙ inside-put d w ys q distinct w_found ∙ ap (λ n. inside (ledger ys) q + n) (part_inside q d w_out ∙ w_part q z))
          (sound.balanced q) sums
          ∙ sym (totals q);
      at_most_top = λ q. subst (λ n. n ≤ TOP) (sym (totals q)) (sound.at_most_top q);
    }

-- ---- one more account

empty_step : (o : Option Balance) (t : Bool) (b : Balance) → b.posted ≡ 0 → option_map_or (λ c. c.posted) (option_or o (cond t (Some b) None)) 0 ≡ option_map_or (λ c. c.posted) o 0
empty_step None true b h = h
empty_step None false b h = refl
empty_step (Some x) t b h = refl

nothing_step : (t : Bool) → let nothing : ℕ = 0 in cond t nothing nothing ≡ nothing
nothing_step true = refl
nothing_step false = refl

covered_zero : (b : Balance) → b.held ≡ 0 → b.held ≤ backing b
covered_zero b h = omega (arith, h)

one_of : (P : Balance → Type 0) (b : Balance) → P b → All P (b ∷ [])
one_of P b h zero d lt = h
one_of P b h (suc k) d lt = absurd (omega (arith, lt))

pub sound_opened : (v : LedgerValue) (account : Account) (asset : ℕ) → IsSound v → balance_of v account ≡ None → IsNumbered account asset → IsSound (opened v account asset)
sound_opened v account asset sound fresh numbered =
    let xs = v.accounts in
    let b : Balance = record { account = account; asset = asset; posted = 0; held = 0 } in
    let totals : (q : ℕ) → total_in (opened v account asset) q ≡ total_in v q =
    λ q. ap (λ o. option_map_or (λ c. c.posted) o 0) (find-append (λ c. is_same_account c.account (Outside q)) xs (b ∷ []))
    ∙ empty_step (find_balance xs (Outside q)) (is_same_account account (Outside q)) b refl in
    let part : (q : ℕ) → inside_part q b ≡ 0 = λ q. nothing_step (not (is_outside account) && (asset == q)) in
    record {
      distinct = distinct-append xs b sound.distinct fresh;
      numbered = All-append (λ c. IsNumbered c.account c.asset) xs (b ∷ []) sound.numbered (one_of (λ c. IsNumbered c.account c.asset) b numbered);
      covered = All-append (λ c. c.held ≤ backing c) xs (b ∷ []) sound.covered (one_of (λ c. c.held ≤ backing c) b (covered_zero b refl));
      balanced = λ q. omega (arith, sum_by-append (inside_part q) xs (b ∷ []), part q, totals q, sound.balanced q);
      at_most_top = λ q. omega (arith, totals q, sound.at_most_top q);
    }

-- ---- as the calls have it

pub covered_inside : (v : LedgerValue) (a : Account) (x : Balance) → IsSound v → balance_of v a ≡ Some x → is_outside a ≡ false → x.held ≤ x.posted
covered_inside v a x sound found inside =
    subst (λ n. x.held ≤ n) (backing_inside x (ap is_outside (found_account v.accounts a x found) ∙ inside)) (covered_of v.accounts a x sound.covered found)

pub posted_top : (v : LedgerValue) (a : Account) (x : Balance) → IsSound v → balance_of v a ≡ Some x → is_outside a ≡ false → x.posted ≤ TOP
posted_top v a x sound found inside =
    omega (arith, posted_total v a x sound found (ap is_outside (found_account v.accounts a x found) ∙ inside), sound.at_most_top x.asset)

-- the outside stands at least as far below zero as an account above
pub posted_outside : (v : LedgerValue) (a : Account) (x w : Balance) → IsSound v → balance_of v a ≡ Some x → is_outside a ≡ false → balance_of v (Outside x.asset) ≡ Some w → x.posted ≤ w.posted
posted_outside v a x w sound found inside w_found =
    let total : total_in v x.asset ≡ w.posted = ap (λ o. option_map_or (λ c. c.posted) o 0) w_found in
    omega (arith, posted_total v a x sound found (ap is_outside (found_account v.accounts a x found) ∙ inside), total)

found_there : (v : LedgerValue) (a : Account) (x : Balance) → balance_of v a ≡ Some x → balance_of v x.account ≡ Some x
found_there v a x found = subst (λ c. balance_of v c ≡ Some x) (sym (found_account v.accounts a x found)) found

pub sound_deposit : (v : LedgerValue) (a : Account) (n : ℕ) (x w : Balance) → IsSound v → balance_of v a ≡ Some x → is_outside a ≡ false → balance_of v (Outside x.asset) ≡ Some w → w.posted + n ≤ TOP → IsSound (ledger (put (record w { posted = w.posted + n }) (put (record x { posted = x.posted + n }) v.accounts)))
sound_deposit v a n x w sound found inside w_found top =
    sound_with_outside v x w (x.posted + n) (w.posted + n) sound (found_there v a x found) (ap is_outside (found_account v.accounts a x found) ∙ inside)
    (found_there v (Outside x.asset) w w_found) (found_account v.accounts (Outside x.asset) w w_found)
    (omega (arith, covered_inside v a x sound found inside)) (omega arith) top

pub sound_withdrawal : (v : LedgerValue) (a : Account) (n : ℕ) (x w : Balance) → IsSound v → balance_of v a ≡ Some x → is_outside a ≡ false → balance_of v (Outside x.asset) ≡ Some w → n ≤ x.posted - x.held → IsSound (ledger (put (record w { posted = w.posted - n }) (put (record x { posted = x.posted - n }) v.accounts)))
sound_withdrawal v a n x w sound found inside w_found le =
    let total : total_in v x.asset ≡ w.posted = ap (λ o. option_map_or (λ c. c.posted) o 0) w_found in
    sound_with_outside v x w (x.posted - n) (w.posted - n) sound (found_there v a x found) (ap is_outside (found_account v.accounts a x found) ∙ inside)
    (found_there v (Outside x.asset) w w_found) (found_account v.accounts (Outside x.asset) w w_found)
    (omega (arith, covered_inside v a x sound found inside, le))
    (omega (arith, covered_inside v a x sound found inside, posted_outside v a x w sound found inside w_found, le))
    (omega (arith, total, sound.at_most_top x.asset))

-- a total is at most the largest value
pub outside_top : (v : LedgerValue) (s : ℕ) (w : Balance) → IsSound v → balance_of v (Outside s) ≡ Some w → w.posted ≤ TOP
outside_top v s w sound w_found =
    let total : total_in v s ≡ w.posted = ap (λ o. option_map_or (λ c. c.posted) o 0) w_found in
    omega (arith, total, sound.at_most_top s)
