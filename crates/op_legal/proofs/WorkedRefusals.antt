-- Entries that may not follow the worked purchase's history, and tasks that have no act on it, by computation.
use Rattle.std.proofs.Common.{◌≡◌, refl, lit≤, ℕ, ◌+◌, ◌≤◌, List, [], ◌∷◌, codes, take, true, Some, None, Option, arith}
use Rattle.std.specs.Fmt.{digits}
use Rattle.hex.proofs.OnLiterals.{hex_on_literals}
use Rattle.op_names.specs.declared.Kind.TheVariants as kinds
use Rattle.op_model.specs.Answer.{answer}
use Rattle.op_model.specs.Legal.{IsNext, asked_by, by_token, by_continuation, name_of_address, name_of_row}
use Rattle.op_model.specs.declared.act.Account.TheVariants.{Pool, Wallet}
use Rattle.op_model.specs.declared.act.Act.{Act}
use Rattle.op_model.specs.declared.act.Act.TheVariants as acts
use Rattle.op_model.specs.declared.act.Entry.{Entry}
use Rattle.op_model.specs.declared.act.QuoteMode.TheVariants as quote_modes
use Rattle.op_model.specs.declared.request.PaymentAsked.TheVariants.{Quoted}
use Rattle.op_model.specs.declared.request.Request.TheVariants as requests
use Rattle.op_model.specs.declared.request.Task.{Task}
use Rattle.op_model.specs.declared.request.Task.TheVariants.{Ask, Step}
use Rattle.op_model.specs.declared.request.Verdict.{Verdict}
use Rattle.op_model.proofs.Purchase.{purchase, turn, shop, at, word, item, outgoing_item}

nothing_acts : {P : Type 0} (act : Act) → None ≡ Some act → P
nothing_acts act h = absurd (let e : None ≡ Some act = h in cc)

abbrev act_on : List Entry → ℕ → List ℕ → ℕ → Task → Option Act
act_on history t word fee task = (answer history t word fee task).act

-- ---- a recorded fee above its amount

abbrev dear_quote : Act
dear_quote = acts.QuoteMade 2 1 1 quote_modes.Receive 100 1000100 100 1000000 100 1 1

-- the price stands, and the task that it spells has this act again
dear_quote_answers : act_on (take 7 purchase) (turn 8) [] 1000000 (asked_by (take 7 purchase) dear_quote) ≡ Some dear_quote
unfolding hex_on_literals digits
dear_quote_answers = refl

-- but the fee is above the amount on which the rule is asked
dear_quote_refused : IsNext (take 7 purchase) (record { at = turn 8; act = dear_quote }) → ⊥
unfolding hex_on_literals digits
dear_quote_refused next = let above : 1000000 ≤ 100 = next.fee in absurd (omega (arith, above))

-- ---- an expiry that is spelled anew

abbrev unlimited : Task
unlimited = by_token (take 5 purchase) 1 (requests.MakeIncoming (Some (name_of_address (take 5 purchase) 2)) None None None)

abbrev made_unlimited : ℕ → Act
made_unlimited expiry = acts.IncomingMade 1 2 None expiry None

-- a request without an expiry records the one that it gets, and the entry spells that
default_expiry : act_on (take 5 purchase) (turn 6) [] 0 unlimited ≡ Some (made_unlimited (turn 6 + 2592000000))
unfolding hex_on_literals digits
default_expiry = refl

default_expiry_follows : IsNext (take 5 purchase) (record { at = turn 6; act = made_unlimited (turn 6 + 2592000000) })
unfolding hex_on_literals digits
default_expiry_follows = record { later = lit≤ tt; limit = lit≤ tt; proper = refl; fee = tt; act = refl }

-- an expiry that is not to come may not follow
past_expiry_refused : IsNext (take 5 purchase) (record { at = turn 6; act = made_unlimited (turn 6) }) → ⊥
unfolding hex_on_literals digits
past_expiry_refused next = nothing_acts (made_unlimited (turn 6)) next.act

-- ---- a poll with a reference

abbrev polling : Option (Option (List ℕ)) → Task
polling reference = by_continuation (take 9 purchase) 3 (requests.ContinueGrant (Some 3) reference)

poll_without : act_on (take 9 purchase) (turn 14) [] 0 (polling None) ≡ Some (acts.GrantPolled 3)
unfolding hex_on_literals digits
poll_without = refl

poll_with_refused : act_on (take 9 purchase) (turn 14) [] 0 (polling (Some (Some (codes "i0a0a0a0a0a0a0a0a0a0a0a0a0a0a0a0a-10")))) ≡ None
unfolding hex_on_literals digits
poll_with_refused = refl

-- ---- a cancel of another client's grant

abbrev cancelling : List ℕ → Task
cancelling client =
    let verdict : Verdict = record { client = Some client; proved = true; token = Some (codes "c09090909090909090909090909090909-9") } in
    Ask (requests.CancelGrant (Some 3)) verdict

own_cancel : act_on (take 9 purchase) (turn 10) [] 0 (cancelling shop) ≡ Some (acts.GrantCancelled 3)
unfolding hex_on_literals digits
own_cancel = refl

other_cancel_refused : act_on (take 9 purchase) (turn 10) [] 0 (cancelling (codes "https://wallet.example/alice")) ≡ None
unfolding hex_on_literals digits
other_cancel_refused = refl

-- ---- a step with the number after it

step_after_refused : IsNext (take 13 purchase) (record { at = turn 13; act = acts.OutgoingSent 1 2 }) → ⊥
step_after_refused next = nothing_acts (acts.OutgoingSent 1 2) next.act

-- ---- a quote of another address

abbrev paying : ℕ → Task
paying address =
    by_token (take 11 purchase) 3 (requests.MakeOutgoing (Some (name_of_address (take 11 purchase) address)) (Quoted (Some (name_of_row (take 11 purchase) kinds.Quote 1))) None)

own_quote : act_on (take 11 purchase) (turn 12) [] 0 (paying 1) ≡ Some (acts.OutgoingMade 3 1 None)
unfolding hex_on_literals digits
own_quote = refl

other_address_refused : act_on (take 11 purchase) (turn 12) [] 0 (paying 2) ≡ None
unfolding hex_on_literals digits
other_address_refused = refl

-- ---- what was not made

unmade_grant_refused : IsNext (take 9 purchase) (record { at = turn 10; act = acts.GrantAccepted 4 [] }) → ⊥
unmade_grant_refused next = nothing_acts (acts.GrantAccepted 4 []) next.act

-- ---- a piece that the target's pool does not cover

-- a payment of 100 at 3/7 in seven pieces, each of 15 and a delivery of 6, from a pool of so much
abbrev funded_with : ℕ → List Entry
funded_with pool =
    at 0 (acts.AssetAdded (codes "USD") 2 7)
    ∷ at 0 (acts.AssetAdded (codes "EUR") 2 1)
    ∷ at 0 (acts.AddressAdded (codes "/alice") 1 None)
    ∷ at 0 (acts.AddressAdded (codes "/shop") 2 None)
    ∷ at 0 (acts.Deposited (codes "a") (Wallet 1) 500)
    ∷ at 0 (acts.Deposited (codes "b") (Pool 2) pool)
    ∷ at 0 (acts.RateSet 1 2 3 7)
    ∷ at 0 (acts.GrantAsked shop (item 1 7 ∷ item 2 1 ∷ []) None (word 1))
    ∷ at 0 (acts.IncomingMade 1 2 None 1709296200123 None)
    ∷ at 0 (acts.QuoteMade 1 1 1 quote_modes.Debit 102 102 100 2 42 3 7)
    ∷ at 0 (acts.GrantAsked shop (outgoing_item ∷ []) None (word 2))
    ∷ at 0 (acts.GrantAccepted 2 (word 3))
    ∷ at 5 (acts.GrantContinued 2 (word 4))
    ∷ at 5 (acts.OutgoingMade 2 1 None)
    ∷ at 6 (acts.OutgoingFunded 1 0)
    ∷ []

covered_piece : act_on (funded_with 6) (turn 6) [] 0 (Step 1 1) ≡ Some (acts.OutgoingSent 1 1)
covered_piece = refl

uncovered_piece_refused : IsNext (funded_with 5) (record { at = turn 6; act = acts.OutgoingSent 1 1 }) → ⊥
uncovered_piece_refused next = nothing_acts (acts.OutgoingSent 1 1) next.act
