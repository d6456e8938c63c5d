-- How an entry changes the ledger that a history has.
use Rattle.std.proofs.Common.{◌≡◌, ℕ, ◌+◌, false, cond, List, [], ◌∷◌, ◌++◌, refl, ◌∙◌, sym, ap, arith, sum_by}
use Rattle.std.specs.Prelude.{if◌then◌else◌, ◌&&◌, is_some}
use Rattle.std.specs.Option.{unwrap_or}
use Rattle.std.proofs.lemmas.List.Sums.{sum_by-cons}
use Rattle.op_ledger.specs.Balances.{LedgerValue, is_there, is_outside, posted_in, held_in, asset_in, total_in}
use Rattle.op_ledger.specs.Sound.{IsSound}
use Rattle.op_ledger.specs.Runs.{Call, CanCall, after_call, call_legs}
use Rattle.op_ledger.proofs.Moves.{came-append, went-append}
use Rattle.op_ledger.proofs.Runs.{sound_call}
use Rattle.op_ledger.proofs.Sums.{posted_call, total_call}
use Rattle.op_model.specs.Balances.{Movement, movements, legs, came_to, went_from, held, is_payer}
use Rattle.op_model.specs.History.{AssetRow, AddressRow, nth, assets, addresses, no_address}
use Rattle.op_model.specs.Payments.{outgoings, is_sending, left_to_post}
use Rattle.op_model.specs.declared.row.OutgoingRow.{OutgoingRow}
use Rattle.op_model.specs.declared.act.Account.{Account}
use Rattle.op_model.specs.declared.act.Account.TheVariants.{Outside, Pool, Fees, Wallet}
use Rattle.op_model.specs.declared.act.Entry.{Entry}
use Rattle.op_model.proofs.Next.{movements-next}
use Rattle.op_paying.specs.Ledgers.{StandsAs}

-- ---- what a history posts, with one entry more

pub came_next : (history : List Entry) (e : Entry) (moves : List Movement) (a : Account) → legs history e ≡ moves → came_to (movements (history ++ e ∷ [])) a ≡ came_to (movements history) a + came_to moves a
came_next history e moves a is =
    ap (λ l. came_to l a) (movements-next history e ∙ ap (λ l. movements history ++ l) is) ∙ came-append (movements history) moves a

pub went_next : (history : List Entry) (e : Entry) (moves : List Movement) (a : Account) → legs history e ≡ moves → went_from (movements (history ++ e ∷ [])) a ≡ went_from (movements history) a + went_from moves a
went_next history e moves a is =
    ap (λ l. went_from l a) (movements-next history e ∙ ap (λ l. movements history ++ l) is) ∙ went-append (movements history) moves a

-- ---- the sums behind an entry

pub record SumsFollow (history : List Entry) (v : LedgerValue) : Type 0 where
  pub sound : IsSound v
  pub posted : (a : Account) → is_outside a ≡ false → posted_in v a + went_from (movements history) a ≡ came_to (movements history) a
  pub total : (n : ℕ) → total_in v n + came_to (movements history) (Outside n) ≡ went_from (movements history) (Outside n)
  pub held_is : (a : Account) → held_in v a ≡ held history a

-- the entry moves what the call moves
pub call_sums : (history : List Entry) (e : Entry) (v : LedgerValue) (call : Call) → StandsAs history v → CanCall v call → legs history e ≡ call_legs (asset_in v) call → ((a : Account) → held_in (after_call v call) a ≡ held (history ++ e ∷ []) a) → SumsFollow (history ++ e ∷ []) (after_call v call)
call_sums history e v call stands can legs_are held_is =
    let moves = call_legs (asset_in v) call in
    record {
      sound = sound_call v call stands.sound can;
      posted =
          λ a inside.
          let came = came_next history e moves a legs_are in
          let went = went_next history e moves a legs_are in
          omega (arith, came, went, posted_call v call stands.sound can a inside, stands.posted a inside);
      total =
          λ n.
          let came = came_next history e moves (Outside n) legs_are in
          let went = went_next history e moves (Outside n) legs_are in
          omega (arith, came, went, total_call v call stands.sound can n, stands.total n);
      held_is = held_is;
    }

-- the entry moves nothing
pub still_sums : (history : List Entry) (e : Entry) (v : LedgerValue) → StandsAs history v → legs history e ≡ [] → ((a : Account) → held_in v a ≡ held (history ++ e ∷ []) a) → SumsFollow (history ++ e ∷ []) v
still_sums history e v stands no_legs held_is = record {
  sound = stands.sound;
  posted =
      λ a inside.
      let came = came_next history e [] a no_legs in
      let went = went_next history e [] a no_legs in
      omega (arith, came, went, stands.posted a inside);
  total =
      λ n.
      let came = came_next history e [] (Outside n) no_legs in
      let went = went_next history e [] (Outside n) no_legs in
      omega (arith, came, went, stands.total n);
  held_is = held_is;
}

-- ---- an entry that opens no accounts

pub record KeepsNames (history : List Entry) (e : Entry) : Type 0 where
  pub assets_stay : assets (history ++ e ∷ []) ≡ assets history
  pub addresses_stay : addresses (history ++ e ∷ []) ≡ addresses history

pub record KeepsAccounts (v w : LedgerValue) : Type 0 where
  pub there : (a : Account) → is_there w a ≡ is_there v a
  pub asset : (a : Account) → asset_in w a ≡ asset_in v a

pub stands_next : (history : List Entry) (e : Entry) (v w : LedgerValue) → StandsAs history v → KeepsNames history e → KeepsAccounts v w → SumsFollow (history ++ e ∷ []) w → StandsAs (history ++ e ∷ []) w
stands_next history e v w stands keeps accounts sums =
    let assets_are : (n : ℕ) → is_some (nth (assets history) n) ≡ is_some (nth (assets (history ++ e ∷ [])) n) = λ n. ap (λ (rows : List AssetRow). is_some (nth rows n)) (sym keeps.assets_stay) in
    record {
      sound = sums.sound;
      outsides = λ n h. accounts.there (Outside n) ∙ stands.outsides n (assets_are n ∙ h);
      pools = λ n h. accounts.there (Pool n) ∙ stands.pools n (assets_are n ∙ h);
      fees = λ n h. accounts.there (Fees n) ∙ stands.fees n (assets_are n ∙ h);
      wallets = λ n. accounts.there (Wallet n) ∙ stands.wallets n ∙ ap (λ (rows : List AddressRow). is_some (nth rows n)) (sym keeps.addresses_stay);
      asset = λ n. accounts.asset (Wallet n) ∙ stands.asset n ∙ ap (λ (rows : List AddressRow). (unwrap_or (nth rows n) no_address).asset) (sym keeps.addresses_stay);
      posted = sums.posted;
      total = sums.total;
      held_is = sums.held_is;
    }

pub same_accounts : (v : LedgerValue) → KeepsAccounts v v
same_accounts v = record { there = λ a. refl; asset = λ a. refl }

-- ---- what is held

-- an entry that moves nothing and changes no payments
pub still_stands : (history : List Entry) (e : Entry) (v : LedgerValue) → StandsAs history v → KeepsNames history e → legs history e ≡ [] → ((a : Account) → held (history ++ e ∷ []) a ≡ held history a) → StandsAs (history ++ e ∷ []) v
still_stands history e v stands keeps no_legs same =
    stands_next history e v v stands keeps (same_accounts v) (still_sums history e v stands no_legs (λ a. stands.held_is a ∙ sym (same a)))

-- nothing is held on an account that is no wallet
zero_sum : {X : Type 0} (f : X → ℕ) (xs : List X) → ((x : X) → f x ≡ 0) → sum_by f xs ≡ 0
zero_sum f [] zero = refl
zero_sum f (x ∷ xs) zero = let e = zero x in let rest = zero_sum f xs zero in omega (arith, sum_by-cons f x xs, e, rest)

pub none_held : (history : List Entry) (a : Account) → ((row : OutgoingRow) → is_payer a row ≡ false) → held history a ≡ 0
none_held history a never =
    zero_sum (λ row. if is_payer a row && is_sending row.state then left_to_post row else 0) (outgoings history)
    (λ row. ap (λ b. cond (b && is_sending row.state) (left_to_post row) 0) (never row))
