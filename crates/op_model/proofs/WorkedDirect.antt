-- Worked payments without a quote, by computation: the worked purchase goes on.
use Rattle.std.proofs.Common.{◌≡◌, refl, lit≤, ℕ, List, [], ◌∷◌, ◌++◌, codes, false}
use Rattle.std.specs.Prelude.{Some, None}
use Rattle.std.specs.Option.{option_map}
use Rattle.std.specs.Fmt.{digits}
use Rattle.hex.proofs.OnLiterals.{hex_on_literals}
use Rattle.std.specs.Str.Lossy.{utf8_valid_len}
use Rattle.url.proofs.OnLiterals.{url_on_literals}
use Rattle.std.specs.declared.option.Option.{Option}
use Rattle.op_amount.specs.declared.Amount.{Amount}
use Rattle.op_names.specs.declared.Kind.TheVariants as kinds
use Rattle.op_names.specs.declared.RowName.{RowName}
use Rattle.op_model.specs.History.{with_act}
use Rattle.op_model.specs.Balances.{posted, held}
use Rattle.op_model.specs.Payments.{outgoing_row, received}
use Rattle.op_model.specs.Grants.{spent}
use Rattle.op_model.specs.Answer.{answer, fee_asked, Outcome}
use Rattle.op_model.specs.Legal.{asked_by, IsNext}
use Rattle.op_model.specs.declared.act.Account.TheVariants.{Fees, Wallet}
use Rattle.op_model.specs.declared.act.Entry.{Entry}
use Rattle.op_model.specs.declared.act.Act.{Act}
use Rattle.op_model.specs.declared.act.Act.TheVariants as acts
use Rattle.op_model.specs.declared.grant.Item.{Item}
use Rattle.op_model.specs.declared.request.PaymentAsked.TheVariants.{Direct}
use Rattle.op_model.specs.declared.request.Request.TheVariants as requests
use Rattle.op_model.specs.declared.request.Task.{Task}
use Rattle.op_model.specs.declared.request.Task.TheVariants as tasks
use Rattle.op_model.specs.declared.reply.GrantSpent.{GrantSpent}
use Rattle.op_model.specs.declared.reply.GrantSpent.TheVariants as spents
use Rattle.op_model.specs.declared.reply.ReplyBody.{ReplyBody}
use Rattle.op_model.specs.declared.reply.ReplyBody.TheVariants as bodies
use Rattle.op_model.specs.declared.reply.Refusal.TheVariants as refusals
use Rattle.op_model.proofs.Purchase.{purchase, at, item, shop, word, turn, usd}
use Rattle.op_model.proofs.WorkedPayments.{one_percent, by, amount, named, eur, moved}

-- ---- what is asked

abbrev incoming : ℕ → Option RowName
incoming n = Some (record { origin = codes "https://wallet.example"; id = record { kind = kinds.Incoming; number = n } })

abbrev pay_by : (token : List ℕ) (receiver : Option RowName) (debit : Amount) → Task
pay_by token receiver debit = by token (requests.MakeOutgoing (named (codes "/alice")) (Direct receiver debit) None)

-- the answer, with the fee of one percent, rounded up
abbrev answered : List Entry → ℕ → (debit : ℕ) → Task → Outcome
answered history t debit task = answer history t (word 99) (one_percent debit) task

-- ---- the purchase goes on: an incoming payment without an amount, and a payment of 505 to it

abbrev open_incoming : List Entry
open_incoming = with_act purchase (turn 16)
    (answer purchase (turn 16) (word 16) 0 (by (codes "a05050505050505050505050505050505-5") (requests.MakeIncoming (named (codes "/shop")) None None None))).act

abbrev pay : (receiver debit : ℕ) → Task
pay receiver debit = pay_by (codes "a0b0b0b0b0b0b0b0b0b0b0b0b0b0b0b0b-11") (incoming receiver) (amount debit)

abbrev before : List Entry
before = purchase ++ at 16 (acts.IncomingMade 1 2 None 1711886416000 None) ∷ []

incoming_is_made : open_incoming ≡ before
unfolding hex_on_literals digits
incoming_is_made = refl

abbrev direct : Act
direct = acts.OutgoingDirect 3 1 2 505 499 6 499 1 1 None

-- the rule is asked on the debit, and answers 6
fee_is_asked : fee_asked before (turn 17) (pay 2 505) ≡ Some (record { pair = record { source = usd; target = usd }; amount = 505 })
fee_is_asked = refl

fee_is : one_percent 505 ≡ 6
fee_is = refl

act_is : (answered before (turn 17) 505 (pay 2 505)).act ≡ Some direct
unfolding hex_on_literals digits
act_is = refl

abbrev spent_of : ReplyBody → Option GrantSpent
spent_of (bodies.OutgoingMade outgoing spent) = spent
spent_of _ = None

abbrev quote_of : ReplyBody → Option (Option ℕ)
quote_of (bodies.OutgoingMade outgoing spent) = Some outgoing.quote
quote_of _ = None

abbrev receive_of : ReplyBody → Option Amount
receive_of (bodies.OutgoingMade outgoing spent) = Some outgoing.receive
receive_of _ = None

abbrev made : ReplyBody
made = (answered before (turn 17) 505 (pay 2 505)).reply.body

spent_is_told : spent_of made ≡ Some (spents.Debit (amount 1515))
unfolding hex_on_literals digits
spent_is_told = refl

no_quote_is_told : quote_of made ≡ Some None
unfolding hex_on_literals digits
no_quote_is_told = refl

receive_is_told : receive_of made ≡ Some (amount 499)
unfolding hex_on_literals digits
receive_is_told = refl

-- its entry may follow
direct_may_follow : IsNext before (at 17 direct)
unfolding hex_on_literals digits url_on_literals utf8_valid_len
direct_may_follow = record { later = lit≤ tt; limit = lit≤ tt; proper = refl; fee = lit≤ tt; act = refl }

-- another fee is another price: it is another act
another_fee : (answer before (turn 17) (word 99) 5 (asked_by before direct)).act ≡ Some (acts.OutgoingDirect 3 1 2 505 500 5 500 1 1 None)
unfolding hex_on_literals digits
another_fee = refl

-- ---- its steps

abbrev after : List Entry
after = before ++ at 17 direct ∷ []

abbrev step_at : (k : ℕ) → List Entry → ℕ → List Entry
step_at turned history k = with_act history (turn turned) (answer history (turn turned) [] 0 (tasks.Step 2 k)).act

abbrev funded : List Entry
funded = step_at 17 after 0

abbrev half : List Entry
half = step_at 18 funded 1

abbrev done : List Entry
done = step_at 19 half 2

steps_are : done ≡ after ++ at 17 (acts.OutgoingFunded 2 0) ∷ at 18 (acts.OutgoingSent 2 1) ∷ at 19 (acts.OutgoingCompleted 2 2) ∷ []
steps_are = refl

expires_in_five_minutes : option_map (λ row. row.expiry) (outgoing_row after 2) ≡ Some 1709294717000
expires_in_five_minutes = refl

all_is_held : held funded (Wallet 1) ≡ 505
all_is_held = refl

first_piece : option_map moved (outgoing_row half 2) ≡ Some (record { sent = 250; fee = 3; delivered = 250 })
first_piece = refl

both_pieces : option_map moved (outgoing_row done 2) ≡ Some (record { sent = 499; fee = 6; delivered = 499 })
both_pieces = refl

alice_has : posted done (Wallet 1) ≡ 8485
alice_has = refl

shop_has : posted done (Wallet 2) ≡ 1499
shop_has = refl

fees_are : posted done (Fees 1) ≡ 16
fees_are = refl

received_is : received done 2 ≡ 499
received_is = refl

spent_is : spent done 3 0 ≡ 1515
spent_is = refl

-- ---- what is refused

abbrev refused : (receiver debit : ℕ) → ReplyBody
refused receiver debit = (answered before (turn 17) debit (pay receiver debit)).reply.body

over_limit : refused 2 4000 ≡ bodies.Refused (refusals.AccessDenied 9 (Some 1010))
unfolding hex_on_literals digits
over_limit = refl

to_the_limit : (answered before (turn 17) 3990 (pay 2 3990)).act ≡ Some (acts.OutgoingDirect 3 1 2 3990 3950 40 3950 1 1 None)
unfolding hex_on_literals digits
to_the_limit = refl

too_small : refused 2 1 ≡ bodies.Refused refusals.TooSmall
unfolding hex_on_literals digits
too_small = refl

receiver_closed : refused 1 505 ≡ bodies.Refused refusals.ReceiverClosed
unfolding hex_on_literals digits
receiver_closed = refl

no_receiver : refused 3 505 ≡ bodies.Refused refusals.NotFound
unfolding hex_on_literals digits
no_receiver = refl

-- the limit comes first: a receiver that is closed is not told behind it
limit_before_receiver : refused 1 4000 ≡ bodies.Refused (refusals.AccessDenied 9 (Some 1010))
unfolding hex_on_literals digits
limit_before_receiver = refl

-- an asset that is not here comes before a receiver that is closed
no_such_asset : (answered before (turn 17) 505 (pay_by (codes "a0b0b0b0b0b0b0b0b0b0b0b0b0b0b0b0b-11") (incoming 1) (record { value = 505; asset = eur }))).reply.body ≡ bodies.Refused refusals.NotFound
unfolding hex_on_literals digits
no_such_asset = refl

-- the rule is not asked where the receiver is not there, or the debit is in another asset
no_fee_without_receiver : fee_asked before (turn 17) (pay 3 505) ≡ None
no_fee_without_receiver = refl

no_fee_in_another_asset : fee_asked before (turn 17) (pay_by [] (incoming 2) (record { value = 505; asset = eur })) ≡ None
no_fee_in_another_asset = refl

-- it is asked whoever asks
fee_for_nobody : fee_asked before (turn 17) (pay_by [] (incoming 1) (amount 505)) ≡ Some (record { pair = record { source = usd; target = usd }; amount = 505 })
fee_for_nobody = refl

-- ---- a receive cap: 400 for each month, to any receiver

abbrev receive_item : (receiver : Option ℕ) → Item
receive_item receiver =
    record {
      kind = 3;
      actions = 5;
      identifier = Some 1;
      limits = Some (record { receiver = receiver; cap = Some (record { debit = false; sum = record { asset = 1; value = 400 } }); interval = None });
    }

abbrev receiving : (receiver : Option ℕ) → List Entry
receiving receiver =
    at 0 (acts.AssetAdded (codes "USD") 2 2)
    ∷ at 0 (acts.AssetAdded (codes "EUR") 2 1)
    ∷ at 0 (acts.AddressAdded (codes "/alice") 1 None)
    ∷ at 0 (acts.AddressAdded (codes "/shop") 1 None)
    ∷ at 0 (acts.AddressAdded (codes "/laden") 2 None)
    ∷ at 0 (acts.GrantAsked shop (item 1 7 ∷ []) None (word 1))
    ∷ at 0 (acts.IncomingMade 1 2 None 1709296200123 None)
    ∷ at 0 (acts.IncomingMade 1 2 (Some 100) 1709296200123 None)
    ∷ at 0 (acts.IncomingMade 1 3 None 1709296200123 None)
    ∷ at 0 (acts.GrantAsked shop (receive_item receiver ∷ []) None (word 2))
    ∷ at 0 (acts.GrantAccepted 2 (word 3))
    ∷ at 5 (acts.GrantContinued 2 (word 4))
    ∷ []

abbrev receiving_token : List ℕ
receiving_token = codes "a04040404040404040404040404040404-12"

abbrev received_by : (receiver debit : ℕ) → Outcome
received_by receiver debit = answered (receiving None) (turn 6) debit (pay_by receiving_token (incoming receiver) (amount debit))

-- what the payee receives is looked at, by the price
receives_to_the_cap : (received_by 1 405).act ≡ Some (acts.OutgoingDirect 2 1 1 405 400 5 400 1 1 None)
unfolding hex_on_literals digits
receives_to_the_cap = refl

spent_receive_is_told : spent_of (received_by 1 405).reply.body ≡ Some (spents.Receive (amount 400))
unfolding hex_on_literals digits
spent_receive_is_told = refl

receives_over_the_cap : (received_by 1 406).reply.body ≡ bodies.Refused (refusals.AccessDenied 9 (Some 0))
unfolding hex_on_literals digits
receives_over_the_cap = refl

-- with another fee it is another price, which the cap covers
another_fee_fits : (answer (receiving None) (turn 6) (word 99) 6 (pay_by receiving_token (incoming 1) (amount 406))).act ≡ Some (acts.OutgoingDirect 2 1 1 406 400 6 400 1 1 None)
unfolding hex_on_literals digits
another_fee_fits = refl

-- without a price the cap passes, and what refuses the price follows
no_price_is_too_small : (received_by 1 1).reply.body ≡ bodies.Refused refusals.TooSmall
unfolding hex_on_literals digits
no_price_is_too_small = refl

no_price_over_receiver : (received_by 2 4000).reply.body ≡ bodies.Refused (refusals.OverReceiver 100)
unfolding hex_on_literals digits
no_price_over_receiver = refl

no_price_in_another_asset : (answered (receiving None) (turn 6) 4000 (pay_by receiving_token (incoming 1) (record { value = 4000; asset = eur }))).reply.body ≡ bodies.Refused refusals.AssetMismatch
unfolding hex_on_literals digits
no_price_in_another_asset = refl

-- the cap's asset is the receiver's
receiver_of_another_asset : (received_by 3 405).reply.body ≡ bodies.Refused (refusals.AccessDenied 7 None)
unfolding hex_on_literals digits
receiver_of_another_asset = refl

-- the limits name a receiver
abbrev named_receiver : (receiver debit : ℕ) → ReplyBody
named_receiver receiver debit = (answered (receiving (Some 1)) (turn 6) debit (pay_by receiving_token (incoming receiver) (amount debit))).reply.body

another_receiver : named_receiver 2 50 ≡ bodies.Refused (refusals.AccessDenied 6 None)
unfolding hex_on_literals digits
another_receiver = refl

missing_receiver : named_receiver 4 4000 ≡ bodies.Refused refusals.NotFound
unfolding hex_on_literals digits
missing_receiver = refl

-- ---- a payer that is not there: the cap has nothing to look at

abbrev nobody_pays : (receiver debit : ℕ) → ReplyBody
nobody_pays receiver debit =
    (answered before (turn 17) debit (by (codes "a0b0b0b0b0b0b0b0b0b0b0b0b0b0b0b0b-11")
    (requests.MakeOutgoing (named (codes "/nobody")) (Direct (incoming receiver) (amount debit)) None))).reply.body

no_payer : nobody_pays 2 4000 ≡ bodies.Refused refusals.NotFound
unfolding hex_on_literals digits
no_payer = refl
