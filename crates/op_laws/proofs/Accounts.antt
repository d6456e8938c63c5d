-- The test whether two accounts are one.
use Rattle.std.proofs.Common.{◌≡◌, true, false, ap}
use Rattle.op_model.specs.Balances.{is_same_account}
use Rattle.op_model.specs.declared.act.Account.{Account}
use Rattle.op_model.specs.declared.act.Account.TheVariants.{Outside, Pool, Fees, Wallet}
use Rattle.op_model.proofs.Numbered.{same_number}

pub account_is : (a b : Account) → is_same_account a b ≡ true → a ≡ b
account_is (Outside m) (Outside n) h = ap (λ k. Outside k) (same_number m n h)
account_is (Pool m) (Pool n) h = ap (λ k. Pool k) (same_number m n h)
account_is (Fees m) (Fees n) h = ap (λ k. Fees k) (same_number m n h)
account_is (Wallet m) (Wallet n) h = ap (λ k. Wallet k) (same_number m n h)
account_is (Outside m) _ h = absurd (let e : false ≡ true = h in cc)
account_is (Pool m) _ h = absurd (let e : false ≡ true = h in cc)
account_is (Fees m) _ h = absurd (let e : false ≡ true = h in cc)
account_is (Wallet m) _ h = absurd (let e : false ≡ true = h in cc)
