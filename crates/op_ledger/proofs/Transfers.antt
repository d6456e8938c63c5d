-- Values that go from one account to another.
use Rattle.std.proofs.Common.{◌≡◌, ℕ, ◌+◌, ◌-◌, ◌≤◌, Bool, true, false, cond, List, [], ◌∷◌, ◌++◌, refl, sym, ap, subst, ◌∙◌, arith}
use Rattle.std.specs.Prelude.{Some, None, not, ◌&&◌, slice_get, if◌then◌else◌}
use Rattle.std.specs.Option.{option_map, option_map_or, is_some}
use Rattle.std.specs.declared.option.Option.{Option}
use Rattle.std.proofs.lemmas.List.Sums.{sum_by-cons}
use Rattle.op_amount.specs.declared.TheConstants.{TOP}
use Rattle.op_model.specs.Balances.{Movement, comes, goes, came_to, went_from, is_same_account}
use Rattle.op_model.specs.declared.act.Account.{Account}
use Rattle.op_model.specs.declared.act.Account.TheVariants.{Pool, Fees}
use Rattle.op_ledger.specs.declared.values.Balance.{Balance}
use Rattle.op_ledger.specs.declared.values.Piece.{Piece}
use Rattle.op_ledger.specs.Balances.{LedgerValue, find_balance, balance_of, is_there, posted_in, held_in, available_in, asset_in, is_outside, moved_balance, moved, with_held, holding, transfer_legs}
use Rattle.op_ledger.specs.Indexed.{AreDistinct, put_at, put}
use Rattle.op_ledger.specs.Sound.{inside, inside_part, IsSound}
use Rattle.op_ledger.specs.Pieces.{within_legs, between_legs}
use Rattle.op_ledger.proofs.Replaced.{map_same}
use Rattle.op_ledger.proofs.AccountTests.{account_is, is_account, is_same_account-sym, number_same}
use Rattle.op_ledger.proofs.Index.{found_account, find_balance-map, put_keeps, there_is}
use Rattle.op_ledger.proofs.Puts.{ledger, find_balance-put, inside-put, part_inside, posted_inside}
use Rattle.op_ledger.proofs.Soundness.{sound_between, covered_inside}
use Rattle.op_ledger.proofs.Moves.{same_found, moved_inside, moved_account, moved-append, IsCovered}

-- ---- what movements and holds leave

field_step : (f : Balance → ℕ) (t : Bool) (x y : Balance) (n : ℕ) → f x ≡ n → f y ≡ n → f (cond t x y) ≡ n
field_step f true x y n p q = p
field_step f false x y n p q = q

field-map : (f : Balance → ℕ) (g : Balance → Balance) → ((b : Balance) → f (g b) ≡ f b) → (o : Option Balance) → option_map_or f (option_map g o) 0 ≡ option_map_or f o 0
field-map f g keeps None = refl
field-map f g keeps (Some b) = keeps b

some-map : (g : Balance → Balance) (o : Option Balance) → is_some (option_map g o) ≡ is_some o
some-map g None = refl
some-map g (Some b) = refl

pub there-moved : (v : LedgerValue) (moves : List Movement) (a : Account) → is_there (moved v moves) a ≡ is_there v a
there-moved v moves a =
    ap is_some (find_balance-map (moved_balance moves) (moved_account moves) v.accounts a) ∙ some-map (moved_balance moves) (balance_of v a)

moved_field : (f : Balance → ℕ) (moves : List Movement) (b : Balance) → ((n : ℕ) → f (record b { posted = n }) ≡ f b) → f (moved_balance moves b) ≡ f b
moved_field f moves b keeps =
    field_step f (is_outside b.account) (record b { posted = b.posted + went_from moves b.account - came_to moves b.account }) (record b { posted = b.posted + came_to moves b.account - went_from moves b.account }) (f b)
    (keeps (b.posted + went_from moves b.account - came_to moves b.account)) (keeps (b.posted + came_to moves b.account - went_from moves b.account))

pub asset-moved : (v : LedgerValue) (moves : List Movement) (a : Account) → asset_in (moved v moves) a ≡ asset_in v a
asset-moved v moves a =
    ap (λ o. option_map_or (λ b. b.asset) o 0) (find_balance-map (moved_balance moves) (moved_account moves) v.accounts a)
    ∙ field-map (λ b. b.asset) (moved_balance moves) (λ b. moved_field (λ c. c.asset) moves b (λ n. refl)) (balance_of v a)

pub held-moved : (v : LedgerValue) (moves : List Movement) (a : Account) → held_in (moved v moves) a ≡ held_in v a
held-moved v moves a =
    ap (λ o. option_map_or (λ b. b.held) o 0) (find_balance-map (moved_balance moves) (moved_account moves) v.accounts a)
    ∙ field-map (λ b. b.held) (moved_balance moves) (λ b. moved_field (λ c. c.held) moves b (λ n. refl)) (balance_of v a)

pub posted-moved : (v : LedgerValue) (moves : List Movement) (a : Account) → is_there v a ≡ true → is_outside a ≡ false → posted_in (moved v moves) a ≡ posted_in v a + came_to moves a - went_from moves a
posted-moved v moves a there inside =
    let x = there_is (balance_of v a) there in
    let at : x.0.account ≡ a = found_account v.accounts a x.0 x.1 in
    let before : posted_in v a ≡ x.0.posted = ap (λ o. option_map_or (λ b. b.posted) o 0) x.1 in
    ap (λ o. option_map_or (λ b. b.posted) o 0) (find_balance-map (moved_balance moves) (moved_account moves) v.accounts a ∙ ap (option_map (moved_balance moves)) x.1)
    ∙ ap (λ (b : Balance). b.posted) (moved_inside moves x.0 (ap is_outside at ∙ inside))
    ∙ ap (λ c. x.0.posted + came_to moves c - went_from moves c) at
    ∙ ap (λ n. n + came_to moves a - went_from moves a) (sym before)

held_keeps_step : (t : Bool) (x y : Balance) → x.account ≡ y.account → (cond t x y).account ≡ y.account
held_keeps_step true x y e = e
held_keeps_step false x y e = refl

pub held_keeps : (a : Account) (change : ℕ → ℕ) (b : Balance) → (with_held a change b).account ≡ b.account
held_keeps a change b = held_keeps_step (is_same_account b.account a) (record b { held = change b.held }) b refl

held_field : (f : Balance → ℕ) (a : Account) (change : ℕ → ℕ) (b : Balance) → ((n : ℕ) → f (record b { held = n }) ≡ f b) → f (with_held a change b) ≡ f b
held_field f a change b keeps = field_step f (is_same_account b.account a) (record b { held = change b.held }) b (f b) (keeps (change b.held)) refl

pub there-holding : (v : LedgerValue) (a : Account) (change : ℕ → ℕ) (c : Account) → is_there (holding v a change) c ≡ is_there v c
there-holding v a change c =
    ap is_some (find_balance-map (with_held a change) (held_keeps a change) v.accounts c) ∙ some-map (with_held a change) (balance_of v c)

pub asset-holding : (v : LedgerValue) (a : Account) (change : ℕ → ℕ) (c : Account) → asset_in (holding v a change) c ≡ asset_in v c
asset-holding v a change c =
    ap (λ o. option_map_or (λ b. b.asset) o 0) (find_balance-map (with_held a change) (held_keeps a change) v.accounts c)
    ∙ field-map (λ b. b.asset) (with_held a change) (λ b. held_field (λ d. d.asset) a change b (λ n. refl)) (balance_of v c)

pub posted-holding : (v : LedgerValue) (a : Account) (change : ℕ → ℕ) (c : Account) → posted_in (holding v a change) c ≡ posted_in v c
posted-holding v a change c =
    ap (λ o. option_map_or (λ b. b.posted) o 0) (find_balance-map (with_held a change) (held_keeps a change) v.accounts c)
    ∙ field-map (λ b. b.posted) (with_held a change) (λ b. held_field (λ d. d.posted) a change b (λ n. refl)) (balance_of v c)

changed_step : (t : Bool) (b : Balance) (change : ℕ → ℕ) → (cond t (record b { held = change b.held }) b).held ≡ cond t (change b.held) b.held
changed_step true b change = refl
changed_step false b change = refl

pub held-holding : (v : LedgerValue) (a : Account) (change : ℕ → ℕ) (c : Account) → is_there v c ≡ true → held_in (holding v a change) c ≡ cond (is_same_account c a) (change (held_in v c)) (held_in v c)
held-holding v a change c there =
    let x = there_is (balance_of v c) there in
    let at : x.0.account ≡ c = found_account v.accounts c x.0 x.1 in
    let before : held_in v c ≡ x.0.held = ap (λ o. option_map_or (λ b. b.held) o 0) x.1 in
    ap (λ o. option_map_or (λ b. b.held) o 0) (find_balance-map (with_held a change) (held_keeps a change) v.accounts c ∙ ap (option_map (with_held a change)) x.1)
    ∙ changed_step (is_same_account x.0.account a) x.0 change
    ∙ ap (λ d. cond (is_same_account d a) (change x.0.held) x.0.held) at
    ∙ ap (λ n. cond (is_same_account c a) (change n) n) (sym before)

-- ---- sums of lists of movements

none : (t : Bool) → let nothing : ℕ = 0 in cond t nothing nothing ≡ nothing
none true = refl
none false = refl

pub came-comes : (n : ℕ) (a : Account) (moves : List Movement) (e : Account) → came_to (comes n a ∷ moves) e ≡ cond (is_same_account a e) n 0 + came_to moves e
came-comes n a moves e = sum_by-cons (λ m. if is_same_account m.account e then m.came else 0) (comes n a) moves

pub went-comes : (n : ℕ) (a : Account) (moves : List Movement) (e : Account) → went_from (comes n a ∷ moves) e ≡ went_from moves e
went-comes n a moves e = omega (arith, sum_by-cons (λ m. if is_same_account m.account e then m.went else 0) (comes n a) moves, none (is_same_account a e))

pub came-goes : (n : ℕ) (a : Account) (moves : List Movement) (e : Account) → came_to (goes n a ∷ moves) e ≡ came_to moves e
came-goes n a moves e = omega (arith, sum_by-cons (λ m. if is_same_account m.account e then m.came else 0) (goes n a) moves, none (is_same_account a e))

pub went-goes : (n : ℕ) (a : Account) (moves : List Movement) (e : Account) → went_from (goes n a ∷ moves) e ≡ cond (is_same_account a e) n 0 + went_from moves e
went-goes n a moves e = sum_by-cons (λ m. if is_same_account m.account e then m.went else 0) (goes n a) moves

pub came-transfer : (a c : Account) (n : ℕ) (e : Account) → came_to (transfer_legs a c n) e ≡ cond (is_same_account c e) n 0
came-transfer a c n e = omega (arith, came-goes n a (comes n c ∷ []) e, came-comes n c [] e)

pub went-transfer : (a c : Account) (n : ℕ) (e : Account) → went_from (transfer_legs a c n) e ≡ cond (is_same_account a e) n 0
went-transfer a c n e = omega (arith, went-goes n a (comes n c ∷ []) e, went-comes n c [] e)

-- what is available on the source behind a transfer, and on an account that is no source
pub available_source : (v : LedgerValue) (a c : Account) (n m : ℕ) → is_there v a ≡ true → is_outside a ≡ false → m + n ≤ available_in v a → m ≤ available_in (moved v (transfer_legs a c n)) a
available_source v a c n m there inside le =
    let went : went_from (transfer_legs a c n) a ≡ n = went-transfer a c n a ∙ ap (λ t. cond t n 0) (is_account a) in
    omega (arith, went, posted-moved v (transfer_legs a c n) a there inside, held-moved v (transfer_legs a c n) a, le)

pub available_other : (v : LedgerValue) (a c e : Account) (n : ℕ) → is_there v e ≡ true → is_outside e ≡ false → is_same_account a e ≡ false → available_in v e ≤ available_in (moved v (transfer_legs a c n)) e
available_other v a c e n there inside apart =
    let went : went_from (transfer_legs a c n) e ≡ 0 = went-transfer a c n e ∙ ap (λ t. cond t n 0) apart in
    omega (arith, went, posted-moved v (transfer_legs a c n) e there inside, held-moved v (transfer_legs a c n) e)

-- movements with equal sums
pub moved_same : (v : LedgerValue) (l r : List Movement) → ((a : Account) → came_to l a ≡ came_to r a) → ((a : Account) → went_from l a ≡ went_from r a) → moved v l ≡ moved v r
moved_same v l r came went =
    ap ledger (map_same (moved_balance l) (moved_balance r) v.accounts
    (λ k b at.
    ap (λ n. cond (is_outside b.account) (record b { posted = b.posted + went_from l b.account - n }) (record b { posted = b.posted + n - went_from l b.account })) (came b.account)
    ∙ ap (λ n. cond (is_outside b.account) (record b { posted = b.posted + n - came_to r b.account }) (record b { posted = b.posted + came_to r b.account - n })) (went b.account)))

-- ---- transfers that cover one another

apart_step : (t : Bool) (a c : Account) → is_same_account a c ≡ t → is_outside a ≡ false → is_outside c ≡ true → t ≡ false
apart_step true a c e in_a out_c = let same : is_outside a ≡ is_outside c = ap is_outside (account_is a c e) in cc
apart_step false a c e in_a out_c = refl

pub apart_of : (a c : Account) → is_outside a ≡ false → is_outside c ≡ true → is_same_account a c ≡ false
apart_of a c in_a out_c = apart_step (is_same_account a c) a c refl in_a out_c

paid_step : (t : Bool) (b x : Balance) (n m : ℕ) → (t ≡ true → b ≡ x) → n ≤ x.posted → cond t n 0 ≤ b.posted + m
paid_step true b x n m same le = let e : b.posted ≡ x.posted = ap (λ (c : Balance). c.posted) (same refl) in omega (arith, e, le)
paid_step false b x n m same le = omega arith

-- movements that take from one account inside what it has, and bring nothing outside
pub covered_by : (v : LedgerValue) (moves : List Movement) (a : Account) (n : ℕ) → AreDistinct v.accounts → is_there v a ≡ true → n ≤ posted_in v a → ((e : Account) → went_from moves e ≡ cond (is_same_account a e) n 0) → ((e : Account) → is_outside e ≡ true → came_to moves e ≡ 0) → (k : ℕ) (b : Balance) → slice_get v.accounts k ≡ Some b → IsCovered moves b
covered_by v moves a n distinct there le went came k b at =
    let x = there_is (balance_of v a) there in
    let before : posted_in v a ≡ x.0.posted = ap (λ o. option_map_or (λ b. b.posted) o 0) x.1 in
    let paid : cond (is_same_account a b.account) n 0 ≤ b.posted + came_to moves b.account =
    paid_step (is_same_account a b.account) b x.0 n (came_to moves b.account)
    (λ e. same_found v.accounts k b a x.0 distinct at x.1 (is_same_account-sym b.account a ∙ e)) (omega (arith, before, le)) in (
      λ out. omega (arith, came b.account out),
      λ in_b. subst (λ m. m ≤ b.posted + came_to moves b.account) (sym (went b.account)) paid,
    )

added : (t : Bool) (m n : ℕ) → cond t (m + n) 0 ≡ cond t m 0 + cond t n 0
added true m n = refl
added false m n = refl

nothing : (a e : Account) (n : ℕ) → is_outside a ≡ false → is_outside e ≡ true → cond (is_same_account a e) n 0 ≡ 0
nothing a e n in_a out_e = ap (λ t. cond t n 0) (apart_of a e in_a out_e)

-- a piece within an asset, as two transfers
pub within_is : (v : LedgerValue) (asset : ℕ) (piece : Piece) → AreDistinct v.accounts → is_there v piece.payer ≡ true → piece.sent + piece.fee ≤ posted_in v piece.payer → moved (moved v (transfer_legs piece.payer (Fees asset) piece.fee)) (transfer_legs piece.payer piece.payee piece.sent) ≡ moved v (within_legs asset piece)
within_is v asset piece distinct there le =
    let p = piece.payer in
    let fee = transfer_legs p (Fees asset) piece.fee in
    let pay = transfer_legs p piece.payee piece.sent in
    sym (moved-append v fee pay
    (covered_by v fee p piece.fee distinct there (omega (arith, le)) (went-transfer p (Fees asset) piece.fee)
    (λ e out. came-transfer p (Fees asset) piece.fee e ∙ nothing (Fees asset) e piece.fee refl out)))
    ∙ moved_same v (fee ++ pay) (within_legs asset piece)
    (λ e.
    omega (
      arith,
      came-goes piece.fee p (comes piece.fee (Fees asset) ∷ pay) e,
      came-comes piece.fee (Fees asset) pay e,
      came-goes piece.sent p (comes piece.sent piece.payee ∷ []) e,
      came-goes (piece.sent + piece.fee) p (comes piece.fee (Fees asset) ∷ comes piece.sent piece.payee ∷ []) e,
      came-comes piece.fee (Fees asset) (comes piece.sent piece.payee ∷ []) e,
    ))
    (λ e.
    omega (
      arith,
      went-goes piece.fee p (comes piece.fee (Fees asset) ∷ pay) e,
      went-comes piece.fee (Fees asset) pay e,
      went-goes piece.sent p (comes piece.sent piece.payee ∷ []) e,
      went-goes (piece.sent + piece.fee) p (comes piece.fee (Fees asset) ∷ comes piece.sent piece.payee ∷ []) e,
      went-comes piece.fee (Fees asset) (comes piece.sent piece.payee ∷ []) e,
      went-comes piece.sent piece.payee [] e,
      added (is_same_account p e) piece.sent piece.fee,
    ))

-- a piece between two assets, as three transfers
pub between_is : (v : LedgerValue) (source target : ℕ) (piece : Piece) → AreDistinct v.accounts → is_there v piece.payer ≡ true → piece.sent + piece.fee ≤ posted_in v piece.payer → moved (moved (moved v (transfer_legs piece.payer (Fees source) piece.fee)) (transfer_legs piece.payer (Pool source) piece.sent)) (transfer_legs (Pool target) piece.payee piece.delivered) ≡ moved v (between_legs source target piece)
between_is v source target piece distinct there le =
    let p = piece.payer in
    let fee = transfer_legs p (Fees source) piece.fee in
    let pay = transfer_legs p (Pool source) piece.sent in
    let give = transfer_legs (Pool target) piece.payee piece.delivered in
    let fee_covered = covered_by v fee p piece.fee distinct there (omega (arith, le)) (went-transfer p (Fees source) piece.fee)
    (λ e out. came-transfer p (Fees source) piece.fee e ∙ nothing (Fees source) e piece.fee refl out) in
    let both_went : (e : Account) → went_from (fee ++ pay) e ≡ cond (is_same_account p e) (piece.sent + piece.fee) 0 =
    λ e. omega (arith, went-goes piece.fee p (comes piece.fee (Fees source) ∷ pay) e, went-comes piece.fee (Fees source) pay e, went-transfer p (Pool source) piece.sent e, added (is_same_account p e) piece.sent piece.fee) in
    let both_came : (e : Account) → is_outside e ≡ true → came_to (fee ++ pay) e ≡ 0 =
    λ e out. omega (arith, came-goes piece.fee p (comes piece.fee (Fees source) ∷ pay) e, came-comes piece.fee (Fees source) pay e, came-transfer p (Pool source) piece.sent e, nothing (Fees source) e piece.fee refl out, nothing (Pool source) e piece.sent refl out) in
    let rest = comes piece.sent (Pool source) ∷ give in
    sym (moved-append v (fee ++ pay) give (covered_by v (fee ++ pay) p (piece.sent + piece.fee) distinct there le both_went both_came)
    ∙ ap (λ u. moved u give) (moved-append v fee pay fee_covered))
    ∙ moved_same v ((fee ++ pay) ++ give) (between_legs source target piece)
    (λ e.
    omega (
      arith,
      came-goes piece.fee p (comes piece.fee (Fees source) ∷ goes piece.sent p ∷ rest) e,
      came-comes piece.fee (Fees source) (goes piece.sent p ∷ rest) e,
      came-goes piece.sent p rest e,
      came-goes (piece.sent + piece.fee) p (comes piece.fee (Fees source) ∷ rest) e,
      came-comes piece.fee (Fees source) rest e,
    ))
    (λ e.
    omega (
      arith,
      went-goes piece.fee p (comes piece.fee (Fees source) ∷ goes piece.sent p ∷ rest) e,
      went-comes piece.fee (Fees source) (goes piece.sent p ∷ rest) e,
      went-goes piece.sent p rest e,
      went-goes (piece.sent + piece.fee) p (comes piece.fee (Fees source) ∷ rest) e,
      went-comes piece.fee (Fees source) rest e,
      added (is_same_account p e) piece.sent piece.fee,
    ))

-- ---- the two balances of a transfer

found_step : (f : Balance → ℕ) (t : Bool) (y x : Balance) (a : Account) (xs : List Balance) → is_same_account y.account a ≡ t → find_balance xs y.account ≡ Some x → f y ≡ f x → option_map_or f (cond t (Some y) (find_balance xs a)) 0 ≡ option_map_or f (find_balance xs a) 0
found_step f true y x a xs e found same =
    let here : find_balance xs a ≡ Some x = subst (λ c. find_balance xs c ≡ Some x) (account_is y.account a e) found in
    same ∙ sym (ap (λ o. option_map_or f o 0) here)
found_step f false y x a xs e found same = refl

field-put : (f : Balance → ℕ) (y x : Balance) (xs : List Balance) (a : Account) → find_balance xs y.account ≡ Some x → f y ≡ f x → option_map_or f (find_balance (put y xs) a) 0 ≡ option_map_or f (find_balance xs a) 0
field-put f y x xs a found same =
    ap (λ o. option_map_or f o 0) (find_balance-put y x xs a found) ∙ found_step f (is_same_account y.account a) y x a xs refl found same

pub there-put : (y : Balance) (xs : List Balance) (a : Account) → is_some (find_balance (put y xs) a) ≡ is_some (find_balance xs a)
there-put y xs a = ap is_some (find_balance-map (put_at y) (put_keeps y) xs a) ∙ some-map (put_at y) (find_balance xs a)

module _ (v : LedgerValue) (a c : Account) (n : ℕ) (x w : Balance) (sound : IsSound v) (found : balance_of v a ≡ Some x) (a_inside : is_outside a ≡ false) (w_found : find_balance (put (record x { posted = x.posted - n }) v.accounts) c ≡ Some w) (c_inside : is_outside c ≡ false) (one_asset : asset_in v a ≡ asset_in v c) (enough : n ≤ x.posted - x.held) where
  target_asset : w.asset ≡ x.asset
  target_asset =
      let x_found : balance_of v x.account ≡ Some x = subst (λ e. balance_of v e ≡ Some x) (sym (found_account v.accounts a x found)) found in
      ap (λ o. option_map_or (λ b. b.asset) o 0) (sym w_found)
      ∙ field-put (λ b. b.asset) (record x { posted = x.posted - n }) x v.accounts c x_found refl
      ∙ sym one_asset
      ∙ ap (λ o. option_map_or (λ b. b.asset) o 0) found

  pub transfer_fits : w.posted + n ≤ TOP
  transfer_fits =
      let xs = v.accounts in
      let y : Balance = record x { posted = x.posted - n } in
      let at : x.account ≡ a = found_account xs a x found in
      let x_found : balance_of v x.account ≡ Some x = subst (λ e. balance_of v e ≡ Some x) (sym at) found in
      let x_inside : is_outside x.account ≡ false = ap is_outside at ∙ a_inside in
      let w_inside : is_outside w.account ≡ false = ap is_outside (found_account (put y xs) c w w_found) ∙ c_inside in
      let part_x : inside_part x.asset x ≡ x.posted = part_inside x.asset x x_inside ∙ ap (λ t. cond t x.posted 0) (number_same x.asset) in
      let part_y : inside_part x.asset y ≡ x.posted - n = part_inside x.asset y x_inside ∙ ap (λ t. cond t (x.posted - n) 0) (number_same x.asset) in
      let le : w.posted ≤ inside (ledger (put y xs)) x.asset = subst (λ q. w.posted ≤ inside (ledger (put y xs)) q) target_asset (posted_inside (put y xs) c w w_found w_inside) in
      omega (arith, le, inside-put y x xs x.asset sound.distinct x_found, part_x, part_y, sound.balanced x.asset, sound.at_most_top x.asset, enough)

  pub sound_transfer : IsSound (ledger (put (record w { posted = w.posted + n }) (put (record x { posted = x.posted - n }) v.accounts)))
  sound_transfer =
      let xs = v.accounts in
      let y : Balance = record x { posted = x.posted - n } in
      let at : x.account ≡ a = found_account xs a x found in
      let at_w : w.account ≡ c = found_account (put y xs) c w w_found in
      let x_found : balance_of v x.account ≡ Some x = subst (λ e. balance_of v e ≡ Some x) (sym at) found in
      let w_there : find_balance (put y xs) w.account ≡ Some w = subst (λ e. find_balance (put y xs) e ≡ Some w) (sym at_w) w_found in
      let held : x.held ≤ x.posted = covered_inside v a x sound found a_inside in
      sound_between v x w (x.posted - n) (w.posted + n) sound x_found (ap is_outside at ∙ a_inside) w_there (ap is_outside at_w ∙ c_inside) target_asset (omega (arith, held, enough)) (omega arith) (omega (arith, held, enough))

-- ---- what stands before a further transfer

pub stays_there : (v : LedgerValue) (moves : List Movement) (a : Account) → (is_there v a && not (is_outside a)) ≡ true → (is_there (moved v moves) a && not (is_outside a)) ≡ true
stays_there v moves a h = ap (λ t. t && not (is_outside a)) (there-moved v moves a) ∙ h

pub same_asset : (v : LedgerValue) (moves : List Movement) (a c : Account) (asset : ℕ) → asset_in v a ≡ asset → asset_in v c ≡ asset → asset_in (moved v moves) a ≡ asset_in (moved v moves) c
same_asset v moves a c asset h k = asset-moved v moves a ∙ h ∙ sym (asset-moved v moves c ∙ k)

apart_assets_step : (t : Bool) (v : LedgerValue) (a c : Account) → is_same_account a c ≡ t → (asset_in v a ≡ asset_in v c → ⊥) → t ≡ false
apart_assets_step true v a c e differ = absurd (differ (ap (asset_in v) (account_is a c e)))
apart_assets_step false v a c e differ = refl

-- accounts of two assets are two
pub apart_assets : (v : LedgerValue) (a c : Account) → (asset_in v a ≡ asset_in v c → ⊥) → is_same_account a c ≡ false
apart_assets v a c differ = apart_assets_step (is_same_account a c) v a c refl differ
