-- Accounts that are opened.
use Rattle.std.proofs.Common.{◌≡◌, ℕ, suc, ◌+◌, Bool, true, false, cond, List, [], ◌∷◌, ◌++◌, length, refl, ◌∙◌, sym, ap, subst, arith, inl, inr, Some, None, Option, Result, Ok, Err, OnOk, OnErr}
use Rattle.std.specs.Prelude.{◌||◌, ◌==◌, is_some, slice_get}
use Rattle.std.specs.Option.{option_map_or, option_or, unwrap_or}
use Rattle.std.proofs.lemmas.Bool.Decides.{nat_tests}
use Rattle.std.proofs.lemmas.List.Folds.{find-append}
use Rattle.std.proofs.lemmas.List.{length_push}
use Rattle.op_ledger.specs.declared.values.Balance.{Balance}
use Rattle.op_ledger.specs.Balances.{LedgerValue, balance_of, is_there, asset_in, opened}
use Rattle.op_ledger.specs.Runs.{Call, Opened, CanCall}
use Rattle.op_ledger.proofs.AccountTests.{is_account}
use Rattle.op_ledger.proofs.Runs.{sound_call}
use Rattle.op_ledger.proofs.Sums.{posted_call, total_call, held_call, there_call}
use Rattle.op_model.specs.Balances.{legs, held, is_same_account}
use Rattle.op_model.specs.History.{AssetRow, AddressRow, nth, assets, addresses, no_address}
use Rattle.op_model.specs.declared.act.Account.{Account}
use Rattle.op_model.specs.declared.act.Account.TheVariants.{Outside, Pool, Fees, Wallet}
use Rattle.op_model.specs.declared.act.Entry.{Entry}
use Rattle.op_laws.proofs.Lists.{is_counted, counted_some, some_counted, nth_counted, nth_uncounted}
use Rattle.op_paying.specs.Ledgers.{StandsAs, MayOpen}
use Rattle.op_paying.proofs.Ledgers.{came_next, went_next}

-- ---- one item more

counted_where : {X : Type 0} (b : Bool) (xs : List X) (n : ℕ) → is_counted n (length xs) ≡ b → is_some (nth xs n) ≡ b
counted_where true xs n h = counted_some xs n h
counted_where false xs n h = ap is_some (nth_uncounted xs n h)

some_is_counted : {X : Type 0} (xs : List X) (n : ℕ) → is_some (nth xs n) ≡ is_counted n (length xs)
some_is_counted xs n = counted_where (is_counted n (length xs)) xs n refl

counted_or : (b : Bool) (count n m : ℕ) → is_counted m count ≡ b → n ≡ 1 + count → (b || (n == m)) ≡ is_counted m (count + 1)
counted_or true count n m h is = grind (arith, nat_tests)
counted_or false count n m h is = grind (arith, nat_tests)

pub some_next : {X : Type 0} (xs : List X) (x : X) (n m : ℕ) → n ≡ 1 + length xs → (is_some (nth xs m) || (n == m)) ≡ is_some (nth (xs ++ x ∷ []) m)
some_next xs x n m is =
    ap (λ b. b || (n == m)) (some_is_counted xs m) ∙ counted_or (is_counted m (length xs)) (length xs) n m refl is
    ∙ sym (ap (is_counted m) (length_push xs x)) ∙ sym (some_is_counted (xs ++ x ∷ []) m)

last_uncounted : (n : ℕ) → is_counted (1 + n) n ≡ false
last_uncounted n = grind (arith, nat_tests)

pub none_next : {X : Type 0} (xs : List X) (n : ℕ) → n ≡ 1 + length xs → is_some (nth xs n) ≡ false
none_next xs n is = ap (λ k. is_some (nth xs k)) is ∙ some_is_counted xs (1 + length xs) ∙ last_uncounted (length xs)

end_got : {X : Type 0} (xs : List X) (x : X) → slice_get (xs ++ x ∷ []) (length xs) ≡ Some x
end_got [] x = refl
end_got (y ∷ ys) x = end_got ys x

pub last_here : {X : Type 0} (xs : List X) (x : X) (n : ℕ) → n ≡ 1 + length xs → nth (xs ++ x ∷ []) n ≡ Some x
last_here xs x n is = let e : n ≡ suc (length xs) = omega (arith, is) in ap (nth (xs ++ x ∷ [])) e ∙ end_got xs x

either_number : (b : Bool) (n m : ℕ) → (n == m) ≡ b → (false || b) ≡ true → n ≡ m
either_number b n m is h = let e : (n == m) ≡ true = is ∙ h in grind (arith, nat_tests)

row_case : (P : ℕ → Type 0) (b : Bool) (rows : List AssetRow) (row : AssetRow) (n : ℕ) → is_some (nth rows n) ≡ b → is_some (nth (rows ++ row ∷ []) n) ≡ true → (is_some (nth rows n) ≡ true → P n) → P (1 + length rows) → P n
row_case P true rows row n is h old new = old is
row_case P false rows row n is h old new =
    let last : 1 + length rows ≡ n = either_number ((1 + length rows) == n) (1 + length rows) n refl (sym (ap (λ b. b || ((1 + length rows) == n)) is) ∙ some_next rows row (1 + length rows) n refl ∙ h) in
    subst P last new

-- ---- an account that is opened

or_there : (o : Option Balance) (t : Bool) (b : Balance) → is_some (option_or o (cond t (Some b) None)) ≡ (is_some o || t)
or_there None true b = refl
or_there None false b = refl
or_there (Some x) t b = refl

or_asset : (o : Option Balance) (t : Bool) (b : Balance) → option_map_or (λ c. c.asset) (option_or o (cond t (Some b) None)) 0 ≡ cond (is_some o) (option_map_or (λ c. c.asset) o 0) (cond t b.asset 0)
or_asset None true b = refl
or_asset None false b = refl
or_asset (Some x) t b = refl

pub there_opened : (v : LedgerValue) (account : Account) (asset : ℕ) (a : Account) → is_there (opened v account asset) a ≡ (is_there v a || is_same_account account a)
there_opened v account asset a =
    let b : Balance = record { account = account; asset = asset; posted = 0; held = 0 } in
    ap is_some (find-append (λ c. is_same_account c.account a) v.accounts (b ∷ [])) ∙ or_there (balance_of v a) (is_same_account account a) b

asset_opened : (v : LedgerValue) (account : Account) (asset : ℕ) (a : Account) → asset_in (opened v account asset) a ≡ cond (is_there v a) (asset_in v a) (cond (is_same_account account a) asset 0)
asset_opened v account asset a =
    let b : Balance = record { account = account; asset = asset; posted = 0; held = 0 } in
    ap (λ o. option_map_or (λ c. c.asset) o 0) (find-append (λ c. is_same_account c.account a) v.accounts (b ∷ [])) ∙ or_asset (balance_of v a) (is_same_account account a) b

-- an account of an asset may be opened before its asset is there
record IsNoWallet (account : Account) : Type 0 where
  apart : (n : ℕ) → is_same_account account (Wallet n) ≡ false

or_false : (b : Bool) → (b || false) ≡ b
or_false true = refl
or_false false = refl

no_asset_step : (b : Bool) (x : ℕ) → (b ≡ false → x ≡ 0) → cond b x 0 ≡ x
no_asset_step true x h = refl
no_asset_step false x h = sym (h refl)

absent_asset : (o : Option Balance) → is_some o ≡ false → option_map_or (λ c. c.asset) o 0 ≡ 0
absent_asset None h = refl
absent_asset (Some x) h = absurd (let e : true ≡ false = h in cc)

opened_stands : (history : List Entry) (v : LedgerValue) (account : Account) (asset : ℕ) → StandsAs history v → IsNoWallet account → CanCall v (Opened account asset) → StandsAs history (opened v account asset)
opened_stands history v account asset stands inner can =
    let call : Call = Opened account asset in
    record {
      sound = sound_call v call stands.sound can;
      outsides = λ n h. there_call v call (Outside n) (stands.outsides n h);
      pools = λ n h. there_call v call (Pool n) (stands.pools n h);
      fees = λ n h. there_call v call (Fees n) (stands.fees n h);
      wallets = λ n. there_opened v account asset (Wallet n) ∙ ap (λ t. is_there v (Wallet n) || t) (inner.apart n) ∙ or_false (is_there v (Wallet n)) ∙ stands.wallets n;
      asset =
          λ n. asset_opened v account asset (Wallet n)
          ∙ ap (λ t. cond (is_there v (Wallet n)) (asset_in v (Wallet n)) (cond t asset 0)) (inner.apart n)
          ∙ no_asset_step (is_there v (Wallet n)) (asset_in v (Wallet n)) (absent_asset (balance_of v (Wallet n)))
          ∙ stands.asset n;
      posted = λ a inside. omega (arith, posted_call v call stands.sound can a inside, stands.posted a inside);
      total = λ n. omega (arith, total_call v call stands.sound can n, stands.total n);
      held_is = λ a. omega (arith, held_call v call can a, stands.held_is a);
    }

may_stand : (history : List Entry) (old new : LedgerValue) (account : Account) (n : ℕ) → IsNoWallet account → MayOpen old new account n → StandsAs history old → StandsAs history new
may_stand history old new account n inner (inl same) stands = subst (StandsAs history) (sym same) stands
may_stand history old new account n inner (inr more) stands = subst (StandsAs history) (sym more.1) (opened_stands history old account n stands inner more.0)

pub outside_stands : (history : List Entry) (old new : LedgerValue) (n : ℕ) → MayOpen old new (Outside n) n → StandsAs history old → StandsAs history new
outside_stands history old new n may stands = may_stand history old new (Outside n) n (record { apart = λ m. refl }) may stands

pub pool_stands : (history : List Entry) (old new : LedgerValue) (n : ℕ) → MayOpen old new (Pool n) n → StandsAs history old → StandsAs history new
pool_stands history old new n may stands = may_stand history old new (Pool n) n (record { apart = λ m. refl }) may stands

pub fees_stands : (history : List Entry) (old new : LedgerValue) (n : ℕ) → MayOpen old new (Fees n) n → StandsAs history old → StandsAs history new
fees_stands history old new n may stands = may_stand history old new (Fees n) n (record { apart = λ m. refl }) may stands

pub there_stays : (old new : LedgerValue) (account : Account) (asset : ℕ) (a : Account) → MayOpen old new account asset → is_there old a ≡ true → is_there new a ≡ true
there_stays old new account asset a (inl same) there = ap (λ (v : LedgerValue). is_there v a) same ∙ there
there_stays old new account asset a (inr more) there = ap (λ (v : LedgerValue). is_there v a) more.1 ∙ there_call old (Opened account asset) a there

pub ok_on : {X F : Type 0} (result : Result X F) (P Q : Type 0) → (P → Q) → OnOk result P → OnOk result Q
ok_on (Ok x) P Q step h = step h
ok_on (Err e) P Q step h = h

pub on_err : {X F : Type 0} (result : Result X F) (P : Type 0) → P → OnErr result P
on_err (Ok x) P h = tt
on_err (Err e) P h = h

or_true : (b : Bool) → (b || true) ≡ true
or_true true = refl
or_true false = refl

pub there_itself : (v : LedgerValue) (account : Account) (asset : ℕ) → is_there (opened v account asset) account ≡ true
there_itself v account asset = there_opened v account asset account ∙ ap (λ t. is_there v account || t) (is_account account) ∙ or_true (is_there v account)

-- ---- an asset that is added

pub asset_stands : (history : List Entry) (e : Entry) (v : LedgerValue) (row : AssetRow) → StandsAs history v → legs history e ≡ [] → ((a : Account) → held (history ++ e ∷ []) a ≡ held history a) → assets (history ++ e ∷ []) ≡ assets history ++ row ∷ [] → addresses (history ++ e ∷ []) ≡ addresses history
    → is_there v (Outside (1 + length (assets history))) ≡ true → is_there v (Pool (1 + length (assets history))) ≡ true → is_there v (Fees (1 + length (assets history))) ≡ true → StandsAs (history ++ e ∷ []) v
asset_stands history e v row stands no_legs same added stay outside pool fees =
    let rows = assets history in
    let next : (n : ℕ) → is_some (nth (assets (history ++ e ∷ [])) n) ≡ true → is_some (nth (rows ++ row ∷ []) n) ≡ true = λ n h. ap (λ (l : List AssetRow). is_some (nth l n)) (sym added) ∙ h in
    record {
      sound = stands.sound;
      outsides = λ n h. row_case (λ m. is_there v (Outside m) ≡ true) (is_some (nth rows n)) rows row n refl (next n h) (stands.outsides n) outside;
      pools = λ n h. row_case (λ m. is_there v (Pool m) ≡ true) (is_some (nth rows n)) rows row n refl (next n h) (stands.pools n) pool;
      fees = λ n h. row_case (λ m. is_there v (Fees m) ≡ true) (is_some (nth rows n)) rows row n refl (next n h) (stands.fees n) fees;
      wallets = λ n. stands.wallets n ∙ ap (λ (l : List AddressRow). is_some (nth l n)) (sym stay);
      asset = λ n. stands.asset n ∙ ap (λ (l : List AddressRow). (unwrap_or (nth l n) no_address).asset) (sym stay);
      posted =
          λ a inside.
          let came = came_next history e [] a no_legs in
          let went = went_next history e [] a no_legs in
          omega (arith, came, went, stands.posted a inside);
      total =
          λ n.
          let came = came_next history e [] (Outside n) no_legs in
          let went = went_next history e [] (Outside n) no_legs in
          omega (arith, came, went, stands.total n);
      held_is = λ a. stands.held_is a ∙ sym (same a);
    }

-- ---- an address that is added

asset_where : (b t : Bool) (rows : List AddressRow) (row : AddressRow) (n m x : ℕ) → is_some (nth rows m) ≡ b → (n == m) ≡ t → n ≡ 1 + length rows → (b ≡ true → x ≡ (unwrap_or (nth rows m) no_address).asset)
    → cond b x (cond t row.asset 0) ≡ (unwrap_or (nth (rows ++ row ∷ []) m) no_address).asset
asset_where true t rows row n m x there same is old =
    old refl ∙ ap (λ o. (unwrap_or o no_address).asset) (sym (nth_counted rows row m (some_counted rows m there)))
asset_where false true rows row n m x there same is old =
    let here : m ≡ 1 + length rows = grind (arith, nat_tests) in
    sym (ap (λ o. (unwrap_or o no_address).asset) (last_here rows row m here))
asset_where false false rows row n m x there same is old =
    let none : is_some (nth (rows ++ row ∷ []) m) ≡ false = sym (some_next rows row n m is) ∙ ap (λ b. b || (n == m)) there ∙ same in
    sym (no_address_where (nth (rows ++ row ∷ []) m) none)
  where
    no_address_where : (o : Option AddressRow) → is_some o ≡ false → (unwrap_or o no_address).asset ≡ 0
    no_address_where None h = refl
    no_address_where (Some r) h = absurd (let e : true ≡ false = h in cc)

pub address_stands : (history : List Entry) (e : Entry) (v : LedgerValue) (row : AddressRow) (n : ℕ) → StandsAs history v → legs history e ≡ [] → ((a : Account) → held (history ++ e ∷ []) a ≡ held history a) → CanCall v (Opened (Wallet n) row.asset) → n ≡ 1 + length (addresses history)
    → addresses (history ++ e ∷ []) ≡ addresses history ++ row ∷ [] → assets (history ++ e ∷ []) ≡ assets history → StandsAs (history ++ e ∷ []) (opened v (Wallet n) row.asset)
address_stands history e v row n stands no_legs same can is added stay =
    let call : Call = Opened (Wallet n) row.asset in
    let rows = addresses history in
    let back : (m : ℕ) → is_some (nth (assets (history ++ e ∷ [])) m) ≡ true → is_some (nth (assets history) m) ≡ true = λ m h. ap (λ (l : List AssetRow). is_some (nth l m)) (sym stay) ∙ h in
    record {
      sound = sound_call v call stands.sound can;
      outsides = λ m h. there_call v call (Outside m) (stands.outsides m (back m h));
      pools = λ m h. there_call v call (Pool m) (stands.pools m (back m h));
      fees = λ m h. there_call v call (Fees m) (stands.fees m (back m h));
      wallets =
          λ m. there_opened v (Wallet n) row.asset (Wallet m) ∙ ap (λ b. b || (n == m)) (stands.wallets m) ∙ some_next rows row n m is
          ∙ ap (λ (l : List AddressRow). is_some (nth l m)) (sym added);
      asset =
          λ m. asset_opened v (Wallet n) row.asset (Wallet m)
          ∙ ap (λ b. cond b (asset_in v (Wallet m)) (cond (n == m) row.asset 0)) (stands.wallets m)
          ∙ asset_where (is_some (nth rows m)) (n == m) rows row n m (asset_in v (Wallet m)) refl refl is (λ h. stands.asset m)
          ∙ ap (λ (l : List AddressRow). (unwrap_or (nth l m) no_address).asset) (sym added);
      posted =
          λ a inside.
          let came = came_next history e [] a no_legs in
          let went = went_next history e [] a no_legs in
          omega (arith, came, went, posted_call v call stands.sound can a inside, stands.posted a inside);
      total =
          λ m.
          let came = came_next history e [] (Outside m) no_legs in
          let went = went_next history e [] (Outside m) no_legs in
          omega (arith, came, went, total_call v call stands.sound can m, stands.total m);
      held_is = λ a. let before = held_call v call can a in omega (arith, before, same a, stands.held_is a);
    }
