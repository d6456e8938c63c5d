-- The refusal of an access, from grants and what an access looks at.
use Rattle.std.specs.Prelude.{ℕ, ◌≡◌, List, Some, None, Ok, Err}
use Rattle.std.specs.Option.{option_map, option_map_or, option_and_then}
use Rattle.std.specs.declared.option.Option.{Option}
use Rattle.std.specs.declared.result.Result.{Result}
use Rattle.op_access.specs.declared.rules.AccessFacts.{AccessFacts}
use Rattle.op_access.specs.declared.rules.SpendFault.{SpendFault}
use Rattle.op_access.specs.declared.rules.SpendFault.TheVariants as broken
use Rattle.op_grant.specs.Limits.{may_pay_answer}
use Rattle.op_grant.specs.Rows.{at_row}
use Rattle.op_grant.specs.Value.{GrantsValue, interval_in, spent_in}
use Rattle.op_grant.specs.declared.fault.GrantFault.{GrantFault}
use Rattle.op_grant.specs.declared.fault.GrantFault.TheVariants as faults
use Rattle.op_grant.specs.declared.limits.Spending.{Spending}
use Rattle.op_model.specs.Access.{Looked, PaymentLooked, is_same_client, access_refusal}
use Rattle.op_model.specs.Grants.{grant_row, item_of}
use Rattle.op_model.specs.History.{address_asset}
use Rattle.op_model.specs.declared.act.Entry.{Entry}
use Rattle.op_model.specs.declared.reply.Refusal.{Refusal}
use Rattle.op_model.specs.declared.row.GrantRow.{GrantRow}
use Rattle.op_granting.specs.Keeping.{IsGrantsOf}
use Rattle.op_granting.specs.declared.access.Looks.{Looks}

-- ---- the limit that a spending breaks

abbrev pub limit_named : GrantFault → Option SpendFault
limit_named faults.LimitReceiver = Some broken.LimitReceiver
limit_named faults.LimitAsset = Some broken.LimitAsset
limit_named faults.OutsideInterval = Some broken.OutsideInterval
limit_named (faults.OverLimit spent) = Some broken.OverLimit
limit_named _ = None

abbrev pub limit_of : Result ℕ GrantFault → Option SpendFault
limit_of (Ok interval) = None
limit_of (Err fault) = limit_named fault

-- the first limit that a payment breaks under grant n, where one is to be made
abbrev pub limit_broken_by : GrantsValue → (n t : ℕ) → Option Spending → Option SpendFault
limit_broken_by value n t payment = option_and_then (λ asked. limit_of (at_row (may_pay_answer value n t asked) value n)) payment

-- what was spent under it in the interval of a moment
abbrev pub spent_before : GrantsValue → (n t : ℕ) → ℕ
spent_before value n t = option_map_or (spent_in value n) (interval_in value n t) 0

-- ---- what an access looks at

-- the payment that is to be made, as the limits of a grant look at it
abbrev pub spending_of : List Entry → PaymentLooked → Spending
spending_of history payment =
    record {
      receiver = payment.incoming;
      debit = option_map (λ payer. record { asset = address_asset history payer; value = payment.debit }) payment.payer;
      receive_asset = address_asset history payment.payee;
      receive = payment.receive;
    }

-- what a client's access looks at, with the rows found and the owner compared
pub record AreLooksOf (looks : Looks) (history : List Entry) (client : Option (List ℕ)) (looked : Looked) : Type 0 where
  pub kind : looks.kind ≡ looked.kind
  pub need : looks.need ≡ looked.need
  pub all : looks.all ≡ looked.all
  pub address : looks.address ≡ looked.address
  pub own : looks.own ≡ option_map (is_same_client client) looked.owner
  pub payment : looks.payment ≡ option_map (spending_of history) looked.payment

-- what the rules look at
abbrev pub facts_of : GrantRow → Option (List ℕ) → Looks → Option SpendFault → AccessFacts
facts_of row client looks spend =
    record {
      same_client = is_same_client client row.client;
      actions = option_map (λ item. item.actions) (item_of looks.kind row.items);
      need = looks.need;
      all = looks.all;
      identifier = option_and_then (λ item. item.identifier) (item_of looks.kind row.items);
      address = looks.address;
      own = looks.own;
      spend = spend;
    }

-- The answer is the model's, on each history whose grants these are: none where the access passes, else the denial by the
-- first rule that fails.
abbrev pub IsRefusalOf : Option Refusal → GrantsValue → (n t : ℕ) → Option (List ℕ) → Looks → Type 0
IsRefusalOf refusal value n t client looks =
    (history : List Entry) (row : GrantRow) (looked : Looked) → IsGrantsOf history value → grant_row history n ≡ Some row
    → AreLooksOf looks history client looked → refusal ≡ access_refusal history t client n row looked
