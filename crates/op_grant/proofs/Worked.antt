-- Worked rows: how long a token lives, a continuation, two payments under one limit, a payment that is closed.
use Rattle.std.proofs.Common.{◌≡◌, refl, ℕ, ◌+◌, true, false, List, [], ◌∷◌, codes, Ok, Err}
use Rattle.std.specs.Prelude.{Some, None, replicate}
use Rattle.std.specs.Fmt.{digits}
use Rattle.hex.proofs.OnLiterals.{hex_on_literals}
use Rattle.std.specs.declared.option.Option.{Option}
use Rattle.op_model.specs.declared.grant.Cap.{Cap}
use Rattle.op_model.specs.declared.grant.Sum.{Sum}
use Rattle.op_model.specs.declared.grant.Finish.{Finish}
use Rattle.op_model.specs.declared.grant.Interact.TheVariants.{Missing, Redirect}
use Rattle.op_model.specs.declared.grant.Item.{Item}
use Rattle.op_model.specs.declared.grant.Limits.{Limits}
use Rattle.op_model.specs.declared.row.GrantRow.{GrantRow}
use Rattle.op_grant.specs.Value.{GrantsValue, no_grants, with_grant, with_row, spent_in, spent_more, spent_less}
use Rattle.op_grant.specs.Limits.{may_pay_answer, may_spend_answer}
use Rattle.op_grant.specs.declared.limits.Spending.{Spending}
use Rattle.op_grant.specs.Rows.{asked_row, decide_answer, decided, proceed_answer, proceeded_row, rotated, revoked, cancelled, grant_of_live}
use Rattle.op_grant.specs.declared.fault.GrantFault.TheVariants as faults
use Rattle.op_grant.specs.declared.fault.Proceeded.TheVariants as answers

-- 2024-03-01T12:00:00Z
abbrev start : ℕ
start = 1709294400000

-- sixteen equal bytes
abbrev word : ℕ → List ℕ
word k = replicate 16 k

abbrev shop : List ℕ
shop = codes "https://wallet.example/shop"

-- ---- how long a token lives

abbrev own_item : Item
own_item = record { kind = 1; actions = 1; identifier = None; limits = None }

abbrev at_once : GrantsValue
at_once = with_grant no_grants (asked_row start (word 5) 5 (record { client = shop; items = own_item ∷ []; interact = Missing; strange = false }))

abbrev token : List ℕ
token = codes "a05050505050505050505050505050505-5"

found_at_its_end : grant_of_live at_once (start + 599999) token ≡ Some 1
unfolding hex_on_literals digits
found_at_its_end = refl

not_found_behind_it : grant_of_live at_once (start + 600000) token ≡ None
unfolding hex_on_literals digits
not_found_behind_it = refl

abbrev turned : GrantsValue
turned = with_row (rotated (start + 1000) (word 6) 6) at_once 1

old_value_not_found : grant_of_live turned (start + 1000) token ≡ None
unfolding hex_on_literals digits
old_value_not_found = refl

new_value_found : grant_of_live turned (start + 1000) (codes "a06060606060606060606060606060606-6") ≡ Some 1
unfolding hex_on_literals digits
new_value_found = refl

revoked_not_found : grant_of_live (with_row revoked at_once 1) start token ≡ None
unfolding hex_on_literals digits
revoked_not_found = refl

cancelled_not_found : grant_of_live (with_row cancelled at_once 1) start token ≡ None
unfolding hex_on_literals digits
cancelled_not_found = refl

-- ---- a continuation

abbrev end : Finish
end = record { uri = codes "https://wallet.example/done"; nonce = codes "n" }

abbrev pay_item : Option Limits → Item
pay_item limits = record { kind = 3; actions = 5; identifier = Some 1; limits = limits }

abbrev waiting : GrantRow
waiting = asked_row start (word 9) 9 (record { client = shop; items = pay_item None ∷ []; interact = Redirect (Some end); strange = false })

abbrev continuation : List ℕ
continuation = codes "c09090909090909090909090909090909-9"

too_early : proceed_answer (start + 4999) continuation None waiting ≡ Err faults.TooFast
unfolding hex_on_literals digits
too_early = refl

in_time : proceed_answer (start + 5000) continuation None waiting ≡ Ok answers.Polled
unfolding hex_on_literals digits
in_time = refl

too_early_again : proceed_answer (start + 9999) continuation None (proceeded_row (start + 5000) (word 1) 10 answers.Polled waiting) ≡ Err faults.TooFast
unfolding hex_on_literals digits
too_early_again = refl

abbrev accepted : GrantRow
accepted = decided true (word 10) 10 waiting

wrong_reference : proceed_answer (start + 5000) continuation (Some (codes "i0b0b0b0b0b0b0b0b0b0b0b0b0b0b0b0b-10")) accepted ≡ Err faults.InvalidInteraction
unfolding hex_on_literals digits
wrong_reference = refl

no_reference : proceed_answer (start + 5000) continuation None accepted ≡ Err faults.InvalidInteraction
unfolding hex_on_literals digits
no_reference = refl

right_reference : proceed_answer start continuation (Some (codes "i0a0a0a0a0a0a0a0a0a0a0a0a0a0a0a0a-10")) accepted ≡ Ok answers.Issued
unfolding hex_on_literals digits
right_reference = refl

not_twice : proceed_answer (start + 5000) continuation None (proceeded_row start (word 11) 11 answers.Issued accepted) ≡ Err faults.InvalidContinuation
unfolding hex_on_literals digits
not_twice = refl

user_denied : proceed_answer start continuation None (decided false (word 10) 10 waiting) ≡ Err faults.UserDenied
unfolding hex_on_literals digits
user_denied = refl

decided_once : decide_answer waiting ≡ Ok tt
decided_once = refl

not_pending : decide_answer accepted ≡ Err faults.NotPending
not_pending = refl

-- ---- limits

abbrev limited : Cap → GrantsValue
limited cap =
    with_grant no_grants (asked_row start (word 9) 9 (record { client = shop; items = pay_item (Some (record { receiver = Some 7; cap = Some cap; interval = None })) ∷ []; interact = Redirect None; strange = false }))

abbrev sum : ℕ → Sum
sum value = record { asset = 1; value = value }

abbrev debit_cap : GrantsValue
debit_cap = limited (record { debit = true; sum = sum 100 })

abbrev row_of : Cap → GrantRow
row_of cap =
    asked_row start (word 9) 9 (record { client = shop; items = pay_item (Some (record { receiver = Some 7; cap = Some cap; interval = None })) ∷ []; interact = Redirect None; strange = false })

abbrev debit_row : GrantRow
debit_row = row_of (record { debit = true; sum = sum 100 })

first_payment : may_spend_answer debit_cap 1 start 7 (sum 60) (sum 1) debit_row ≡ Ok 0
first_payment = refl

second_payment : may_spend_answer (spent_more debit_cap 1 0 60) 1 start 7 (sum 60) (sum 1) debit_row ≡ Err (faults.OverLimit 60)
second_payment = refl

up_to_the_cap : may_spend_answer (spent_more debit_cap 1 0 60) 1 start 7 (sum 40) (sum 1) debit_row ≡ Ok 0
up_to_the_cap = refl

receive_cap : may_spend_answer (limited (record { debit = false; sum = sum 100 })) 1 start 7 (sum 1) (sum 101) (row_of (record { debit = false; sum = sum 100 })) ≡ Err (faults.OverLimit 0)
receive_cap = refl

-- another receiver is told before another asset, and that before the cap
-- what is not there passes the cap: a price that a payment has not, and an address that does not pay
abbrev pub nothing_received : Spending
nothing_received = record { receiver = 7; debit = Some (sum 1000); receive_asset = 1; receive = None }

no_price : may_pay_answer (limited (record { debit = false; sum = sum 100 })) 1 start nothing_received (row_of (record { debit = false; sum = sum 100 })) ≡ Ok 0
no_price = refl

asset_without_price : may_pay_answer (limited (record { debit = false; sum = sum 100 })) 1 start (record nothing_received { receive_asset = 2 }) (row_of (record { debit = false; sum = sum 100 })) ≡ Err faults.LimitAsset
asset_without_price = refl

nobody_pays : may_pay_answer debit_cap 1 start (record nothing_received { debit = None }) debit_row ≡ Ok 0
nobody_pays = refl

somebody_pays : may_pay_answer debit_cap 1 start nothing_received debit_row ≡ Err (faults.OverLimit 0)
somebody_pays = refl

receiver_first : may_spend_answer debit_cap 1 start 8 (record { asset = 2; value = 101 }) (sum 1) debit_row ≡ Err faults.LimitReceiver
receiver_first = refl

asset_next : may_spend_answer debit_cap 1 start 7 (record { asset = 2; value = 101 }) (sum 1) debit_row ≡ Err faults.LimitAsset
asset_next = refl

-- a payment of 102 that was closed with 45 sent
closed_after_three_pieces : spent_in (spent_less (spent_more (limited (record { debit = true; sum = sum 102 })) 1 0 102) 1 0 57) 1 0 ≡ 45
closed_after_three_pieces = refl

-- ---- an interval of months

abbrev monthly : GrantRow
monthly =
    asked_row start (word 9) 9 (record {
      client = shop;
      items = pay_item (Some (record { receiver = None; cap = Some (record { debit = true; sum = sum 100 }); interval = Some (codes "R12/2024-03-01T00:00:00Z/P1M") })) ∷ [];
      interact = Redirect None;
      strange = false;
    })

before_the_first : may_spend_answer (with_grant no_grants monthly) 1 1709251199999 7 (sum 60) (sum 1) monthly ≡ Err faults.OutsideInterval
before_the_first = refl

in_the_first : may_spend_answer (with_grant no_grants monthly) 1 start 7 (sum 60) (sum 1) monthly ≡ Ok 0
in_the_first = refl

in_the_second : may_spend_answer (spent_more (with_grant no_grants monthly) 1 0 100) 1 1711929600000 7 (sum 60) (sum 1) monthly ≡ Ok 1
in_the_second = refl
