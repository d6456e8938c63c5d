-- The test whether two accounts are one.
use Rattle.std.proofs.Common.{◌≡◌, ℕ, Bool, true, false, refl, sym, ap, arith}
use Rattle.std.specs.Prelude.{◌==◌, ◌&&◌, not}
use Rattle.std.proofs.lemmas.Bool.Decides.{nat_tests}
use Rattle.op_model.specs.Balances.{is_same_account}
use Rattle.op_model.specs.declared.act.Account.{Account}
use Rattle.op_model.specs.declared.act.Account.TheVariants.{Outside, Pool, Fees, Wallet}
use Rattle.op_ledger.specs.Balances.{is_outside}

pub same_number : (m n : ℕ) → (m == n) ≡ true → m ≡ n
same_number m n h = grind (arith, nat_tests)

pub number_same : (n : ℕ) → (n == n) ≡ true
number_same n = grind (arith, nat_tests)

number_sym : (m n : ℕ) → (m == n) ≡ (n == m)
number_sym m n = grind (arith, nat_tests)

differ : false ≡ true → ⊥
differ e = cc

pub account_is : (a b : Account) → is_same_account a b ≡ true → a ≡ b
account_is (Outside m) (Outside n) h = ap (λ k. Outside k) (same_number m n h)
account_is (Pool m) (Pool n) h = ap (λ k. Pool k) (same_number m n h)
account_is (Fees m) (Fees n) h = ap (λ k. Fees k) (same_number m n h)
account_is (Wallet m) (Wallet n) h = ap (λ k. Wallet k) (same_number m n h)
account_is (Outside m) (Pool n) h = absurd (differ h)
account_is (Outside m) (Fees n) h = absurd (differ h)
account_is (Outside m) (Wallet n) h = absurd (differ h)
account_is (Pool m) (Outside n) h = absurd (differ h)
account_is (Pool m) (Fees n) h = absurd (differ h)
account_is (Pool m) (Wallet n) h = absurd (differ h)
account_is (Fees m) (Outside n) h = absurd (differ h)
account_is (Fees m) (Pool n) h = absurd (differ h)
account_is (Fees m) (Wallet n) h = absurd (differ h)
account_is (Wallet m) (Outside n) h = absurd (differ h)
account_is (Wallet m) (Pool n) h = absurd (differ h)
account_is (Wallet m) (Fees n) h = absurd (differ h)

pub is_account : (a : Account) → is_same_account a a ≡ true
is_account (Outside n) = number_same n
is_account (Pool n) = number_same n
is_account (Fees n) = number_same n
is_account (Wallet n) = number_same n

pub is_same_account-sym : (a b : Account) → is_same_account a b ≡ is_same_account b a
is_same_account-sym (Outside m) (Outside n) = number_sym m n
is_same_account-sym (Pool m) (Pool n) = number_sym m n
is_same_account-sym (Fees m) (Fees n) = number_sym m n
is_same_account-sym (Wallet m) (Wallet n) = number_sym m n
is_same_account-sym (Outside m) (Pool n) = refl
is_same_account-sym (Outside m) (Fees n) = refl
is_same_account-sym (Outside m) (Wallet n) = refl
is_same_account-sym (Pool m) (Outside n) = refl
is_same_account-sym (Pool m) (Fees n) = refl
is_same_account-sym (Pool m) (Wallet n) = refl
is_same_account-sym (Fees m) (Outside n) = refl
is_same_account-sym (Fees m) (Pool n) = refl
is_same_account-sym (Fees m) (Wallet n) = refl
is_same_account-sym (Wallet m) (Outside n) = refl
is_same_account-sym (Wallet m) (Pool n) = refl
is_same_account-sym (Wallet m) (Fees n) = refl

-- an account that is not outside is no outside
pub not_outside : (a : Account) (asset : ℕ) → is_outside a ≡ false → is_same_account a (Outside asset) ≡ false
not_outside (Outside m) asset h = absurd (differ (sym h))
not_outside (Pool m) asset h = refl
not_outside (Fees m) asset h = refl
not_outside (Wallet m) asset h = refl

-- ---- parts of a test

pub left_of : (p q : Bool) → (p && q) ≡ true → p ≡ true
left_of true q h = refl
left_of false q h = absurd (differ h)

pub right_of : (p q : Bool) → (p && q) ≡ true → q ≡ true
right_of true q h = h
right_of false q h = absurd (differ h)

pub not_of : (p q : Bool) → (p && not q) ≡ true → q ≡ false
not_of true true h = absurd (differ h)
not_of true false h = refl
not_of false q h = absurd (differ h)

pub with_inside : (p : Bool) → p ≡ true → (p && true) ≡ true
with_inside true h = refl
with_inside false h = absurd (differ h)
