-- Balances as sums over calls.
use Rattle.std.proofs.Common.{◌≡◌, ℕ, ◌+◌, ◌-◌, ◌≤◌, Bool, true, false, cond, List, [], ◌∷◌, sum_by, refl, sym, ap, subst, ◌∙◌, arith, zero-add}
use Rattle.std.specs.Prelude.{Some, None, not, ◌==◌, if◌then◌else◌}
use Rattle.std.specs.Option.{option_map, option_map_or, option_or, is_some}
use Rattle.std.specs.declared.option.Option.{Option}
use Rattle.std.proofs.lemmas.List.Sums.{sum_by-cons}
use Rattle.std.proofs.lemmas.List.Folds.{find-append}
use Rattle.op_model.specs.Balances.{Movement, comes, goes, came_to, went_from, is_same_account}
use Rattle.op_model.specs.declared.act.Account.{Account}
use Rattle.op_model.specs.declared.act.Account.TheVariants.{Outside, Pool, Fees}
use Rattle.op_ledger.specs.declared.values.Balance.{Balance}
use Rattle.op_ledger.specs.declared.values.Piece.{Piece}
use Rattle.op_ledger.specs.Balances.{LedgerValue, balance_of, is_there, is_outside, IsInside, posted_in, held_in, asset_in, total_in, moved_balance, moved, holding, opened, deposit_legs, withdrawal_legs}
use Rattle.op_ledger.specs.Sound.{IsSound}
use Rattle.op_ledger.specs.Pieces.{within_legs, between_legs, taken, is_within_one_asset, CanMoveWithin, CanMoveBetween}
use Rattle.op_ledger.specs.Runs.{Call, Opened, Deposited, Withdrawn, Held, Posted, Voided, CanPost, CanCall, after_call, AreCalls, after_calls, no_accounts, call_legs, calls_legs, held_by, freed_by, BalancesAreSums}
use Rattle.op_ledger.proofs.AccountTests.{account_is, is_same_account-sym, left_of, not_of, not_outside}
use Rattle.op_ledger.proofs.Index.{found_account, find_balance-map, there_is}
use Rattle.op_ledger.proofs.Soundness.{posted_total}
use Rattle.op_ledger.proofs.Moves.{moved_account, moved_outside, came-append, went-append}
use Rattle.op_ledger.proofs.Transfers.{there-moved, asset-moved, held-moved, posted-moved, there-holding, asset-holding, posted-holding, held-holding, came-comes, went-comes, came-goes, went-goes, apart_assets}
use Rattle.op_ledger.proofs.Runs.{sound_call, within_can, between_can}

-- ---- accounts that are not there

nothing_step : {X : Type 0} (f : X → ℕ) (o : Option X) → is_some o ≡ false → option_map_or f o 0 ≡ 0
nothing_step f None h = refl
nothing_step f (Some x) h = absurd (let e : true ≡ false = h in cc)

-- movements name accounts that are there
abbrev pub AreNamed : LedgerValue → List Movement → Type 0
AreNamed v [] = Unit {0}
AreNamed v (m ∷ moves) = (is_there v m.account ≡ true) × AreNamed v moves

unnamed_step : (t : Bool) (v : LedgerValue) (a c : Account) → is_same_account a c ≡ t → is_there v a ≡ true → is_there v c ≡ false → t ≡ false
unnamed_step true v a c e there absent = let same : is_there v a ≡ is_there v c = ap (is_there v) (account_is a c e) in cc
unnamed_step false v a c e there absent = refl

unnamed : (v : LedgerValue) (a c : Account) (n : ℕ) → is_there v a ≡ true → is_there v c ≡ false → cond (is_same_account a c) n 0 ≡ 0
unnamed v a c n there absent = ap (λ t. cond t n 0) (unnamed_step (is_same_account a c) v a c refl there absent)

came_unnamed : (v : LedgerValue) (moves : List Movement) (a : Account) → AreNamed v moves → is_there v a ≡ false → came_to moves a ≡ 0
came_unnamed v [] a named absent = refl
came_unnamed v (m ∷ moves) a named absent =
    omega (arith, sum_by-cons (λ k. if is_same_account k.account a then k.came else 0) m moves, unnamed v m.account a m.came named.0 absent, came_unnamed v moves a named.1 absent)

went_unnamed : (v : LedgerValue) (moves : List Movement) (a : Account) → AreNamed v moves → is_there v a ≡ false → went_from moves a ≡ 0
went_unnamed v [] a named absent = refl
went_unnamed v (m ∷ moves) a named absent =
    omega (arith, sum_by-cons (λ k. if is_same_account k.account a then k.went else 0) m moves, unnamed v m.account a m.went named.0 absent, went_unnamed v moves a named.1 absent)

-- ---- what movements post

posted_step : (t : Bool) (v : LedgerValue) (moves : List Movement) (a : Account) → is_there v a ≡ t → is_outside a ≡ false → AreNamed v moves → (t ≡ true → went_from moves a ≤ posted_in v a + came_to moves a) → posted_in (moved v moves) a + went_from moves a ≡ posted_in v a + came_to moves a
posted_step true v moves a e inside named enough = omega (arith, posted-moved v moves a e inside, enough refl)
posted_step false v moves a e inside named enough =
    omega (arith, nothing_step (λ b. b.posted) (balance_of v a) e, nothing_step (λ b. b.posted) (balance_of (moved v moves) a) (there-moved v moves a ∙ e), came_unnamed v moves a named e, went_unnamed v moves a named e)

posted_sum : (v : LedgerValue) (moves : List Movement) (a : Account) → is_outside a ≡ false → AreNamed v moves → went_from moves a ≤ posted_in v a + came_to moves a → posted_in (moved v moves) a + went_from moves a ≡ posted_in v a + came_to moves a
posted_sum v moves a inside named enough = posted_step (is_there v a) v moves a refl inside named (λ e. enough)

total-moved : (v : LedgerValue) (moves : List Movement) (s : ℕ) → is_there v (Outside s) ≡ true → total_in (moved v moves) s ≡ total_in v s + went_from moves (Outside s) - came_to moves (Outside s)
total-moved v moves s there =
    let x = there_is (balance_of v (Outside s)) there in
    let at : x.0.account ≡ Outside s = found_account v.accounts (Outside s) x.0 x.1 in
    let before : total_in v s ≡ x.0.posted = ap (λ o. option_map_or (λ b. b.posted) o 0) x.1 in
    ap (λ o. option_map_or (λ b. b.posted) o 0) (find_balance-map (moved_balance moves) (moved_account moves) v.accounts (Outside s) ∙ ap (option_map (moved_balance moves)) x.1)
    ∙ ap (λ (b : Balance). b.posted) (moved_outside moves x.0 (ap is_outside at))
    ∙ ap (λ c. x.0.posted + went_from moves c - came_to moves c) at
    ∙ ap (λ n. n + went_from moves (Outside s) - came_to moves (Outside s)) (sym before)

total_step : (t : Bool) (v : LedgerValue) (moves : List Movement) (s : ℕ) → is_there v (Outside s) ≡ t → AreNamed v moves → came_to moves (Outside s) ≤ total_in v s + went_from moves (Outside s) → total_in (moved v moves) s + came_to moves (Outside s) ≡ total_in v s + went_from moves (Outside s)
total_step true v moves s e named enough = omega (arith, total-moved v moves s e, enough)
total_step false v moves s e named enough =
    omega (arith, nothing_step (λ b. b.posted) (balance_of v (Outside s)) e, nothing_step (λ b. b.posted) (balance_of (moved v moves) (Outside s)) (there-moved v moves (Outside s) ∙ e), came_unnamed v moves (Outside s) named e, went_unnamed v moves (Outside s) named e)

total_sum : (v : LedgerValue) (moves : List Movement) (s : ℕ) → AreNamed v moves → came_to moves (Outside s) ≤ total_in v s + went_from moves (Outside s) → total_in (moved v moves) s + came_to moves (Outside s) ≡ total_in v s + went_from moves (Outside s)
total_sum v moves s named enough = total_step (is_there v (Outside s)) v moves s refl named enough

-- what is taken from an account is there
took_step : (t : Bool) (v : LedgerValue) (a c : Account) (n : ℕ) → is_same_account a c ≡ t → n ≤ posted_in v a → cond t n 0 ≤ posted_in v c
took_step true v a c n e le = subst (λ d. n ≤ posted_in v d) (account_is a c e) le
took_step false v a c n e le = omega arith

took : (v : LedgerValue) (a c : Account) (n : ℕ) → n ≤ posted_in v a → cond (is_same_account a c) n 0 ≤ posted_in v c
took v a c n le = took_step (is_same_account a c) v a c n refl le

both_step : (t : Bool) (v : LedgerValue) (a b c : Account) (m n : ℕ) → is_same_account a c ≡ t → is_same_account a b ≡ false → m ≤ posted_in v a → n ≤ posted_in v b → cond t m 0 + cond (is_same_account b c) n 0 ≤ posted_in v c
both_step true v a b c m n e apart le_a le_b =
    let other : is_same_account b c ≡ false = ap (is_same_account b) (sym (account_is a c e)) ∙ is_same_account-sym b a ∙ apart in
    let none : cond (is_same_account b c) n 0 ≡ 0 = ap (λ t. cond t n 0) other in
    let here : m ≤ posted_in v c = subst (λ d. m ≤ posted_in v d) (account_is a c e) le_a in
    omega (arith, none, here)
both_step false v a b c m n e apart le_a le_b = omega (arith, took v b c n le_b)

-- nothing reaches the outside from an account inside
no_came : (a : Account) (s n : ℕ) → is_outside a ≡ false → cond (is_same_account a (Outside s)) n 0 ≡ 0
no_came a s n inside = ap (λ t. cond t n 0) (not_outside a s inside)

no_went : (s : ℕ) (a : Account) (n : ℕ) → is_outside a ≡ false → cond (is_same_account (Outside s) a) n 0 ≡ 0
no_went s a n inside = ap (λ t. cond t n 0) (is_same_account-sym (Outside s) a ∙ not_outside a s inside)

there_of : (v : LedgerValue) (a : Account) → IsInside v a → is_there v a ≡ true
there_of v a h = left_of (is_there v a) (not (is_outside a)) h

inside_of : (v : LedgerValue) (a : Account) → IsInside v a → is_outside a ≡ false
inside_of v a h = not_of (is_there v a) (is_outside a) h

-- ---- a piece

within_named : (u : LedgerValue) (asset : ℕ) (piece : Piece) → CanMoveWithin u asset piece → AreNamed u (within_legs asset piece)
within_named u asset piece can = (there_of u piece.payer can.payer, (can.fees, (there_of u piece.payee can.payee, tt)))

within_went : (asset : ℕ) (piece : Piece) (a : Account) → went_from (within_legs asset piece) a ≡ cond (is_same_account piece.payer a) (piece.sent + piece.fee) 0
within_went asset piece a =
    omega (arith, went-goes (piece.sent + piece.fee) piece.payer (comes piece.fee (Fees asset) ∷ comes piece.sent piece.payee ∷ []) a, went-comes piece.fee (Fees asset) (comes piece.sent piece.payee ∷ []) a, went-comes piece.sent piece.payee [] a)

within_posted : (u : LedgerValue) (asset : ℕ) (piece : Piece) → CanMoveWithin u asset piece → (a : Account) → is_outside a ≡ false → posted_in (moved u (within_legs asset piece)) a + went_from (within_legs asset piece) a ≡ posted_in u a + came_to (within_legs asset piece) a
within_posted u asset piece can a inside =
    posted_sum u (within_legs asset piece) a inside (within_named u asset piece can)
    (omega (arith, within_went asset piece a, took u piece.payer a (piece.sent + piece.fee) (omega (arith, can.covered))))

within_total : (u : LedgerValue) (asset : ℕ) (piece : Piece) → CanMoveWithin u asset piece → (s : ℕ) → total_in (moved u (within_legs asset piece)) s + came_to (within_legs asset piece) (Outside s) ≡ total_in u s + went_from (within_legs asset piece) (Outside s)
within_total u asset piece can s =
    let rest = comes piece.sent piece.payee ∷ [] in
    let none : came_to (within_legs asset piece) (Outside s) ≡ 0 =
    omega (
      arith,
      came-goes (piece.sent + piece.fee) piece.payer (comes piece.fee (Fees asset) ∷ rest) (Outside s),
      came-comes piece.fee (Fees asset) rest (Outside s),
      came-comes piece.sent piece.payee [] (Outside s),
      no_came (Fees asset) s piece.fee refl,
      no_came piece.payee s piece.sent (inside_of u piece.payee can.payee),
    ) in
    total_sum u (within_legs asset piece) s (within_named u asset piece can) (omega (arith, none))

between_named : (u : LedgerValue) (source target : ℕ) (piece : Piece) → CanMoveBetween u source target piece → AreNamed u (between_legs source target piece)
between_named u source target piece can = (there_of u piece.payer can.payer, (can.fees, (can.source_pool, (can.target_pool, (there_of u piece.payee can.payee, tt)))))

between_posted : (u : LedgerValue) (source target : ℕ) (piece : Piece) → CanMoveBetween u source target piece → (a : Account) → is_outside a ≡ false → posted_in (moved u (between_legs source target piece)) a + went_from (between_legs source target piece) a ≡ posted_in u a + came_to (between_legs source target piece) a
between_posted u source target piece can a inside =
    let give = goes piece.delivered (Pool target) ∷ comes piece.delivered piece.payee ∷ [] in
    let rest = comes piece.sent (Pool source) ∷ give in
    let apart : is_same_account piece.payer (Pool target) ≡ false = apart_assets u piece.payer (Pool target) (λ e. can.two_assets (sym can.payer_asset ∙ e ∙ can.target_pool_asset)) in
    let went : went_from (between_legs source target piece) a ≡ cond (is_same_account piece.payer a) (piece.sent + piece.fee) 0 + cond (is_same_account (Pool target) a) piece.delivered 0 =
    omega (arith, went-goes (piece.sent + piece.fee) piece.payer (comes piece.fee (Fees source) ∷ rest) a, went-comes piece.fee (Fees source) rest a, went-comes piece.sent (Pool source) give a, went-goes piece.delivered (Pool target) (comes piece.delivered piece.payee ∷ []) a, went-comes piece.delivered piece.payee [] a) in
    posted_sum u (between_legs source target piece) a inside (between_named u source target piece can)
    (omega (arith, went, both_step (is_same_account piece.payer a) u piece.payer (Pool target) a (piece.sent + piece.fee) piece.delivered refl apart (omega (arith, can.covered)) (omega (arith, can.liquid))))

between_total : (u : LedgerValue) (source target : ℕ) (piece : Piece) → CanMoveBetween u source target piece → (s : ℕ) → total_in (moved u (between_legs source target piece)) s + came_to (between_legs source target piece) (Outside s) ≡ total_in u s + went_from (between_legs source target piece) (Outside s)
between_total u source target piece can s =
    let give = goes piece.delivered (Pool target) ∷ comes piece.delivered piece.payee ∷ [] in
    let rest = comes piece.sent (Pool source) ∷ give in
    let none : came_to (between_legs source target piece) (Outside s) ≡ 0 =
    omega (
      arith,
      came-goes (piece.sent + piece.fee) piece.payer (comes piece.fee (Fees source) ∷ rest) (Outside s),
      came-comes piece.fee (Fees source) rest (Outside s),
      came-comes piece.sent (Pool source) give (Outside s),
      came-goes piece.delivered (Pool target) (comes piece.delivered piece.payee ∷ []) (Outside s),
      came-comes piece.delivered piece.payee [] (Outside s),
      no_came (Fees source) s piece.fee refl,
      no_came (Pool source) s piece.sent refl,
      no_came piece.payee s piece.delivered (inside_of u piece.payee can.payee),
    ) in
    total_sum u (between_legs source target piece) s (between_named u source target piece can) (omega (arith, none))

piece_posted : (t : Bool) (v : LedgerValue) (piece : Piece) → is_within_one_asset v piece ≡ t → IsSound v → CanPost v piece → (a : Account) → is_outside a ≡ false → let legs = cond t (within_legs (asset_in v piece.payer) piece) (between_legs (asset_in v piece.payer) (asset_in v piece.payee) piece) in posted_in (moved (holding v piece.payer (λ h. h - taken piece)) legs) a + went_from legs a ≡ posted_in v a + came_to legs a
piece_posted true v piece e sound can a inside =
    omega (arith, within_posted (holding v piece.payer (λ h. h - taken piece)) (asset_in v piece.payer) piece (within_can v piece e sound can) a inside, posted-holding v piece.payer (λ h. h - taken piece) a)
piece_posted false v piece e sound can a inside =
    omega (arith, between_posted (holding v piece.payer (λ h. h - taken piece)) (asset_in v piece.payer) (asset_in v piece.payee) piece (between_can v piece e sound can) a inside, posted-holding v piece.payer (λ h. h - taken piece) a)

piece_total : (t : Bool) (v : LedgerValue) (piece : Piece) → is_within_one_asset v piece ≡ t → IsSound v → CanPost v piece → (s : ℕ) → let legs = cond t (within_legs (asset_in v piece.payer) piece) (between_legs (asset_in v piece.payer) (asset_in v piece.payee) piece) in total_in (moved (holding v piece.payer (λ h. h - taken piece)) legs) s + came_to legs (Outside s) ≡ total_in v s + went_from legs (Outside s)
piece_total true v piece e sound can s =
    omega (arith, within_total (holding v piece.payer (λ h. h - taken piece)) (asset_in v piece.payer) piece (within_can v piece e sound can) s, posted-holding v piece.payer (λ h. h - taken piece) (Outside s))
piece_total false v piece e sound can s =
    omega (arith, between_total (holding v piece.payer (λ h. h - taken piece)) (asset_in v piece.payer) (asset_in v piece.payee) piece (between_can v piece e sound can) s, posted-holding v piece.payer (λ h. h - taken piece) (Outside s))

-- ---- a call

opened_step : (f : Balance → ℕ) (o : Option Balance) (t : Bool) (b : Balance) → f b ≡ 0 → option_map_or f (option_or o (cond t (Some b) None)) 0 ≡ option_map_or f o 0
opened_step f None true b h = h
opened_step f None false b h = refl
opened_step f (Some x) t b h = refl

pub opened_field : (f : Balance → ℕ) (v : LedgerValue) (account : Account) (asset : ℕ) (a : Account) → f (record { account = account; asset = asset; posted = 0; held = 0 }) ≡ 0 → option_map_or f (balance_of (opened v account asset) a) 0 ≡ option_map_or f (balance_of v a) 0
opened_field f v account asset a h =
    let b : Balance = record { account = account; asset = asset; posted = 0; held = 0 } in
    ap (λ o. option_map_or f o 0) (find-append (λ c. is_same_account c.account a) v.accounts (b ∷ [])) ∙ opened_step f (balance_of v a) (is_same_account account a) b h

pub opened_there : (v : LedgerValue) (account : Account) (asset : ℕ) (a : Account) → is_there v a ≡ true → balance_of (opened v account asset) a ≡ balance_of v a
opened_there v account asset a there =
    let b : Balance = record { account = account; asset = asset; posted = 0; held = 0 } in
    let x = there_is (balance_of v a) there in
    find-append (λ c. is_same_account c.account a) v.accounts (b ∷ [])
    ∙ ap (λ o. option_or o (cond (is_same_account account a) (Some b) None)) x.1
    ∙ sym x.1

pub posted_call : (v : LedgerValue) (call : Call) → IsSound v → CanCall v call → (a : Account) → is_outside a ≡ false → posted_in (after_call v call) a + went_from (call_legs (asset_in v) call) a ≡ posted_in v a + came_to (call_legs (asset_in v) call) a
posted_call v (Opened account asset) sound can a inside = ap (λ n. n + 0) (opened_field (λ b. b.posted) v account asset a refl)
posted_call v (Deposited account n) sound can a inside =
    let s = asset_in v account in
    posted_sum v (deposit_legs v account n) a inside (there_of v account can.0, (can.1, tt))
    (omega (arith, went-comes n account (goes n (Outside s) ∷ []) a, went-goes n (Outside s) [] a, no_went s a n inside))
posted_call v (Withdrawn account n) sound can a inside =
    let s = asset_in v account in
    posted_sum v (withdrawal_legs v account n) a inside (there_of v account can.0, (can.1, tt))
    (omega (arith, went-goes n account (comes n (Outside s) ∷ []) a, went-comes n (Outside s) [] a, took v account a n (omega (arith, can.2))))
posted_call v (Held account n) sound can a inside = ap (λ k. k + 0) (posted-holding v account (λ h. h + n) a)
posted_call v (Posted piece) sound can a inside = piece_posted (is_within_one_asset v piece) v piece refl sound can a inside
posted_call v (Voided account n) sound can a inside = ap (λ k. k + 0) (posted-holding v account (λ h. h - n) a)

withdrawn_step : (t : Bool) (v : LedgerValue) (s q n : ℕ) → (s == q) ≡ t → is_same_account (Outside s) (Outside q) ≡ t → n ≤ total_in v s → cond t n 0 ≤ total_in v q
withdrawn_step true v s q n e same le = subst (λ d. n ≤ posted_in v d) (account_is (Outside s) (Outside q) same) le
withdrawn_step false v s q n e same le = omega arith

pub total_call : (v : LedgerValue) (call : Call) → IsSound v → CanCall v call → (s : ℕ) → total_in (after_call v call) s + came_to (call_legs (asset_in v) call) (Outside s) ≡ total_in v s + went_from (call_legs (asset_in v) call) (Outside s)
total_call v (Opened account asset) sound can s = ap (λ n. n + 0) (opened_field (λ b. b.posted) v account asset (Outside s) refl)
total_call v (Deposited account n) sound can s =
    let q = asset_in v account in
    total_sum v (deposit_legs v account n) s (there_of v account can.0, (can.1, tt))
    (omega (arith, came-comes n account (goes n (Outside q) ∷ []) (Outside s), came-goes n (Outside q) [] (Outside s), no_came account s n (inside_of v account can.0)))
total_call v (Withdrawn account n) sound can s =
    let q = asset_in v account in
    let x = there_is (balance_of v account) (there_of v account can.0) in
    let x_inside : is_outside x.0.account ≡ false = ap is_outside (found_account v.accounts account x.0 x.1) ∙ inside_of v account can.0 in
    let enough : n ≤ x.0.posted - x.0.held = subst (λ o. n ≤ option_map_or (λ b. b.posted) o 0 - option_map_or (λ b. b.held) o 0) x.1 can.2 in
    let le : n ≤ total_in v x.0.asset = omega (arith, enough, posted_total v account x.0 sound x.1 x_inside) in
    let covered : n ≤ total_in v q = subst (λ o. n ≤ total_in v (option_map_or (λ b. b.asset) o 0)) (sym x.1) le in
    total_sum v (withdrawal_legs v account n) s (there_of v account can.0, (can.1, tt))
    (omega (arith, came-goes n account (comes n (Outside q) ∷ []) (Outside s), came-comes n (Outside q) [] (Outside s), took v (Outside q) (Outside s) n covered))
total_call v (Held account n) sound can s = ap (λ k. k + 0) (posted-holding v account (λ h. h + n) (Outside s))
total_call v (Posted piece) sound can s = piece_total (is_within_one_asset v piece) v piece refl sound can s
total_call v (Voided account n) sound can s = ap (λ k. k + 0) (posted-holding v account (λ h. h - n) (Outside s))

-- ---- holds

holding_step : (t : Bool) (v : LedgerValue) (a : Account) (change : ℕ → ℕ) (c : Account) → is_there v c ≡ t → is_there v a ≡ true → held_in (holding v a change) c ≡ cond (is_same_account a c) (change (held_in v c)) (held_in v c)
holding_step true v a change c e there =
    held-holding v a change c e ∙ ap (λ t. cond t (change (held_in v c)) (held_in v c)) (is_same_account-sym c a)
holding_step false v a change c e there =
    let apart : is_same_account a c ≡ false = unnamed_step (is_same_account a c) v a c refl there e in
    let none : held_in v c ≡ 0 = nothing_step (λ b. b.held) (balance_of v c) e in
    let then_none : held_in (holding v a change) c ≡ 0 = nothing_step (λ b. b.held) (balance_of (holding v a change) c) (there-holding v a change c ∙ e) in
    then_none ∙ sym none ∙ sym (ap (λ t. cond t (change (held_in v c)) (held_in v c)) apart)

more_step : (t : Bool) (h n : ℕ) → cond t (h + n) h + 0 ≡ h + cond t n 0
more_step true h n = omega arith
more_step false h n = omega arith

less_step : (t : Bool) (v : LedgerValue) (a c : Account) (n : ℕ) → is_same_account a c ≡ t → n ≤ held_in v a → cond t (held_in v c - n) (held_in v c) + cond t n 0 ≡ held_in v c + 0
less_step true v a c n e le = let here : n ≤ held_in v c = subst (λ d. n ≤ held_in v d) (account_is a c e) le in omega (arith, here)
less_step false v a c n e le = omega arith

pub held_call : (v : LedgerValue) (call : Call) → CanCall v call → (a : Account) → held_in (after_call v call) a + freed_by a call ≡ held_in v a + held_by a call
held_call v (Opened account asset) can a = ap (λ n. n + 0) (opened_field (λ b. b.held) v account asset a refl)
held_call v (Deposited account n) can a = ap (λ k. k + 0) (held-moved v (deposit_legs v account n) a)
held_call v (Withdrawn account n) can a = ap (λ k. k + 0) (held-moved v (withdrawal_legs v account n) a)
held_call v (Held account n) can a =
    ap (λ k. k + 0) (holding_step (is_there v a) v account (λ h. h + n) a refl (there_of v account can.0)) ∙ more_step (is_same_account account a) (held_in v a) n
held_call v (Posted piece) can a =
    let change : ℕ → ℕ = λ h. h - taken piece in
    ap (λ k. k + cond (is_same_account piece.payer a) (taken piece) 0)
    (held-moved (holding v piece.payer change) (call_legs (asset_in v) (Posted piece)) a ∙ holding_step (is_there v a) v piece.payer change a refl (there_of v piece.payer can.payer))
    ∙ less_step (is_same_account piece.payer a) v piece.payer a (taken piece) refl can.covered
held_call v (Voided account n) can a =
    ap (λ k. k + cond (is_same_account account a) n 0) (holding_step (is_there v a) v account (λ h. h - n) a refl can.0)
    ∙ less_step (is_same_account account a) v account a n refl can.1

-- ---- accounts stay, in their assets

pub there_call : (v : LedgerValue) (call : Call) (a : Account) → is_there v a ≡ true → is_there (after_call v call) a ≡ true
there_call v (Opened account asset) a h = ap is_some (opened_there v account asset a h) ∙ h
there_call v (Deposited account n) a h = there-moved v (deposit_legs v account n) a ∙ h
there_call v (Withdrawn account n) a h = there-moved v (withdrawal_legs v account n) a ∙ h
there_call v (Held account n) a h = there-holding v account (λ k. k + n) a ∙ h
there_call v (Posted piece) a h = there-moved (holding v piece.payer (λ k. k - taken piece)) (call_legs (asset_in v) (Posted piece)) a ∙ there-holding v piece.payer (λ k. k - taken piece) a ∙ h
there_call v (Voided account n) a h = there-holding v account (λ k. k - n) a ∙ h

pub asset_call : (v : LedgerValue) (call : Call) (a : Account) → is_there v a ≡ true → asset_in (after_call v call) a ≡ asset_in v a
asset_call v (Opened account asset) a h = ap (λ o. option_map_or (λ b. b.asset) o 0) (opened_there v account asset a h)
asset_call v (Deposited account n) a h = asset-moved v (deposit_legs v account n) a
asset_call v (Withdrawn account n) a h = asset-moved v (withdrawal_legs v account n) a
asset_call v (Held account n) a h = asset-holding v account (λ k. k + n) a
asset_call v (Posted piece) a h = asset-moved (holding v piece.payer (λ k. k - taken piece)) (call_legs (asset_in v) (Posted piece)) a ∙ asset-holding v piece.payer (λ k. k - taken piece) a
asset_call v (Voided account n) a h = asset-holding v account (λ k. k - n) a

-- a table has the assets of a ledger's accounts
abbrev pub Agrees : LedgerValue → (Account → ℕ) → Type 0
Agrees v asset_of = (a : Account) → is_there v a ≡ true → asset_in v a ≡ asset_of a

agrees_before : (calls : List Call) (v : LedgerValue) (asset_of : Account → ℕ) → Agrees (after_calls v calls) asset_of → Agrees v asset_of
agrees_before [] v asset_of h = h
agrees_before (call ∷ calls) v asset_of h =
    λ a there. sym (asset_call v call a there) ∙ agrees_before calls (after_call v call) asset_of h a (there_call v call a there)

legs_agree : (v : LedgerValue) (asset_of : Account → ℕ) (call : Call) → Agrees v asset_of → CanCall v call → call_legs (asset_in v) call ≡ call_legs asset_of call
legs_agree v asset_of (Opened account asset) agrees can = refl
legs_agree v asset_of (Deposited account n) agrees can = ap (λ s. comes n account ∷ goes n (Outside s) ∷ []) (agrees account (there_of v account can.0))
legs_agree v asset_of (Withdrawn account n) agrees can = ap (λ s. goes n account ∷ comes n (Outside s) ∷ []) (agrees account (there_of v account can.0))
legs_agree v asset_of (Held account n) agrees can = refl
legs_agree v asset_of (Posted piece) agrees can =
    ap (λ s. cond (s == asset_in v piece.payee) (within_legs s piece) (between_legs s (asset_in v piece.payee) piece)) (agrees piece.payer (there_of v piece.payer can.payer))
    ∙ ap (λ t. cond (asset_of piece.payer == t) (within_legs (asset_of piece.payer) piece) (between_legs (asset_of piece.payer) t piece)) (agrees piece.payee (there_of v piece.payee can.payee))
legs_agree v asset_of (Voided account n) agrees can = refl

-- ---- all calls

record SumsFrom (old new : LedgerValue) (asset_of : Account → ℕ) (calls : List Call) : Type 0 where
  posted : (a : Account) → is_outside a ≡ false → posted_in new a + went_from (calls_legs asset_of calls) a ≡ posted_in old a + came_to (calls_legs asset_of calls) a
  total : (s : ℕ) → total_in new s + came_to (calls_legs asset_of calls) (Outside s) ≡ total_in old s + went_from (calls_legs asset_of calls) (Outside s)
  held : (a : Account) → held_in new a + sum_by (freed_by a) calls ≡ held_in old a + sum_by (held_by a) calls

sums_from : (calls : List Call) (v : LedgerValue) (asset_of : Account → ℕ) → IsSound v → AreCalls v calls → Agrees (after_calls v calls) asset_of → SumsFrom v (after_calls v calls) asset_of calls
sums_from [] v asset_of sound can agrees = record { posted = λ a inside. refl; total = λ s. refl; held = λ a. refl }
sums_from (call ∷ calls) v asset_of sound can agrees =
    let next = after_call v call in
    let rest = sums_from calls next asset_of (sound_call v call sound can.0) can.1 agrees in
    let legs : call_legs (asset_in v) call ≡ call_legs asset_of call = legs_agree v asset_of call (agrees_before (call ∷ calls) v asset_of agrees) can.0 in
    let here = call_legs asset_of call in
    let later = calls_legs asset_of calls in
    let posted : (a : Account) → is_outside a ≡ false → posted_in next a + went_from here a ≡ posted_in v a + came_to here a =
    λ a inside. subst (λ moves. posted_in next a + went_from moves a ≡ posted_in v a + came_to moves a) legs (posted_call v call sound can.0 a inside) in
    let total : (s : ℕ) → total_in next s + came_to here (Outside s) ≡ total_in v s + went_from here (Outside s) =
    λ s. subst (λ moves. total_in next s + came_to moves (Outside s) ≡ total_in v s + went_from moves (Outside s)) legs (total_call v call sound can.0 s) in
    record {
      posted = λ a inside. omega (arith, posted a inside, rest.posted a inside, came-append here later a, went-append here later a);
      total = λ s. omega (arith, total s, rest.total s, came-append here later (Outside s), went-append here later (Outside s));
      held = λ a. omega (arith, held_call v call can.0 a, rest.held a, sum_by-cons (freed_by a) call calls, sum_by-cons (held_by a) call calls);
    }

pub sound_empty : IsSound no_accounts
sound_empty =
    record {
      distinct = tt;
      numbered = λ k d lt. absurd (omega (arith, lt));
      covered = λ k d lt. absurd (omega (arith, lt));
      balanced = λ q. refl;
      at_most_top = λ q. omega arith;
    }

pub balances_are_sums : BalancesAreSums
balances_are_sums calls can =
    let last = after_calls no_accounts calls in
    let sums = sums_from calls no_accounts (asset_in last) sound_empty can (λ a there. refl) in
    record {
      posted = λ a inside. sums.posted a inside ∙ zero-add (came_to (calls_legs (asset_in last) calls) a);
      total = λ s. sums.total s ∙ zero-add (went_from (calls_legs (asset_in last) calls) (Outside s));
      held = λ a. sums.held a ∙ zero-add (sum_by (held_by a) calls);
    }
