-- The laws on the worked purchase, by computation.
use Rattle.std.proofs.Common.{◌≡◌, refl, take, sum_by}
use Rattle.std.specs.Prelude.{count_by}
use Rattle.op_model.specs.Balances.{available, held, posted}
use Rattle.op_model.specs.Grants.{spent}
use Rattle.op_model.specs.History.{along}
use Rattle.op_model.specs.Laws.{asset_came, asset_went, payer_legs, payee_legs, is_step_of}
use Rattle.op_model.specs.Payments.{received}
use Rattle.op_model.specs.declared.act.Account.TheVariants.{Wallet}
use Rattle.op_model.proofs.Purchase.{purchase}

-- assets sum to zero: 10000 deposited, and two pieces of 500 with 5 of the fee each
came_is : asset_came purchase 1 ≡ 11010
came_is = refl

went_is : asset_went purchase 1 ≡ 11010
went_is = refl

-- spending within its cap of 5000
spent_is : spent purchase 3 0 ≡ 1010
spent_is = refl

-- what the pieces moved from the payer, and to the payee
debited_is : sum_by (λ m. m.went) (along (payer_legs 1) purchase) ≡ 1010
debited_is = refl

debited_in_between : sum_by (λ m. m.went) (along (payer_legs 1) (take 14 purchase)) ≡ 505
debited_in_between = refl

delivered_is : sum_by (λ m. m.came) (along (payee_legs 1) purchase) ≡ 1000
delivered_is = refl

-- nothing is overdrawn: what is held of the payer's wallet is covered by what is posted
posted_in_between : posted (take 14 purchase) (Wallet 1) ≡ 9495
posted_in_between = refl

held_in_between : held (take 14 purchase) (Wallet 1) ≡ 505
held_in_between = refl

available_in_between : available (take 14 purchase) (Wallet 1) ≡ 8990
available_in_between = refl

-- no step is taken twice
step_once : count_by (λ e. is_step_of 1 1 e.act) purchase ≡ 1
step_once = refl

received_is : received purchase 1 ≡ 1000
received_is = refl
