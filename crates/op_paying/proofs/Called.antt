-- A call on the ledger that stands for an entry which opens no account.
use Rattle.std.proofs.Common.{◌≡◌, ℕ, false, List, [], ◌∷◌, ◌++◌, refl, arith}
use Rattle.op_ledger.specs.Balances.{LedgerValue, held_in, asset_in}
use Rattle.op_ledger.specs.Runs.{Call, CanCall, after_call, call_legs, held_by, freed_by}
use Rattle.op_ledger.proofs.Sums.{held_call}
use Rattle.op_model.specs.Balances.{legs, held, is_same_account}
use Rattle.op_model.specs.declared.act.Account.{Account}
use Rattle.op_model.specs.declared.act.Account.TheVariants.{Outside, Pool, Fees, Wallet}
use Rattle.op_model.specs.declared.act.Entry.{Entry}
use Rattle.op_paying.specs.Ledgers.{StandsAs}
use Rattle.op_paying.proofs.Ledgers.{KeepsNames, KeepsAccounts, call_sums, stands_next, none_held}

-- the call frees and holds on wallets alone
pub record IsOnWallets (call : Call) : Type 0 where
  pub frees : (a : Account) → ((n : ℕ) → is_same_account (Wallet n) a ≡ false) → freed_by a call ≡ 0
  pub holds : (a : Account) → ((n : ℕ) → is_same_account (Wallet n) a ≡ false) → held_by a call ≡ 0

other_held : (history : List Entry) (e : Entry) (v : LedgerValue) (call : Call) (a : Account) → StandsAs history v → CanCall v call → IsOnWallets call → ((n : ℕ) → is_same_account (Wallet n) a ≡ false) → held_in (after_call v call) a ≡ held (history ++ e ∷ []) a
other_held history e v call a stands can wallets apart =
    let before = stands.held_is a in
    let none = none_held history a (λ row. apart row.terms.payer) in
    let after = none_held (history ++ e ∷ []) a (λ row. apart row.terms.payer) in
    omega (arith, held_call v call can a, wallets.frees a apart, wallets.holds a apart, before, none, after)

all_held : (history : List Entry) (e : Entry) (v : LedgerValue) (call : Call) → StandsAs history v → CanCall v call → IsOnWallets call → ((n : ℕ) → held_in (after_call v call) (Wallet n) ≡ held (history ++ e ∷ []) (Wallet n)) → (a : Account) → held_in (after_call v call) a ≡ held (history ++ e ∷ []) a
all_held history e v call stands can wallets held_is (Wallet n) = held_is n
all_held history e v call stands can wallets held_is (Outside n) = other_held history e v call (Outside n) stands can wallets (λ m. refl)
all_held history e v call stands can wallets held_is (Pool n) = other_held history e v call (Pool n) stands can wallets (λ m. refl)
all_held history e v call stands can wallets held_is (Fees n) = other_held history e v call (Fees n) stands can wallets (λ m. refl)

pub called_stands : (history : List Entry) (e : Entry) (v : LedgerValue) (call : Call) → StandsAs history v → CanCall v call → legs history e ≡ call_legs (asset_in v) call → KeepsNames history e → KeepsAccounts v (after_call v call) → IsOnWallets call
    → ((n : ℕ) → held_in (after_call v call) (Wallet n) ≡ held (history ++ e ∷ []) (Wallet n)) → StandsAs (history ++ e ∷ []) (after_call v call)
called_stands history e v call stands can legs_are keeps accounts wallets held_is =
    stands_next history e v (after_call v call) stands keeps accounts
    (call_sums history e v call stands can legs_are (all_held history e v call stands can wallets held_is))
