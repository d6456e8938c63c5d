-- Worked rows: pieces, a step twice, a receiver that closed, held money, and paying oneself.
use Rattle.std.specs.Prelude.{◌≡◌, ℕ, zero, suc, List, [], ◌∷◌, map, Some, None, refl}
use Rattle.std.specs.declared.option.Option.{Option}
use Rattle.op_incoming.specs.Rows.{made, completed, received_by}
use Rattle.op_incoming.specs.declared.incoming.Incoming.{Incoming}
use Rattle.op_ledger.specs.Balances.{LedgerValue, posted_in, held_in, available_in}
use Rattle.op_model.specs.Payments.{made_from_quote, made_directly}
use Rattle.op_model.specs.declared.act.Account.TheVariants.{Fees, Outside, Pool, Wallet}
use Rattle.op_model.specs.declared.act.FailReason.TheVariants.{ReceiverClosed}
use Rattle.op_model.specs.declared.reply.Shortage.TheVariants.{NotFunded}
use Rattle.op_model.specs.declared.reply.StepAnswer.{StepAnswer}
use Rattle.op_model.specs.declared.reply.StepAnswer.TheVariants as answers
use Rattle.op_model.specs.declared.row.IncomingRow.{IncomingRow}
use Rattle.op_model.specs.declared.row.OutgoingRow.{OutgoingRow}
use Rattle.op_model.specs.declared.row.QuoteRow.{QuoteRow}
use Rattle.op_model.specs.declared.row.Terms.{Terms}
use Rattle.op_outgoing.specs.Answers.{row_answer}
use Rattle.op_outgoing.specs.Steps.{stepped_row, stepped_ledger, stepped_incomings}
use Rattle.op_outgoing.specs.Value.{fresh_row}

-- ---- a payment with its surroundings

record Scene : Type 0 where
  row : OutgoingRow
  ledger : LedgerValue
  incomings : List Incoming

-- step k at 10
abbrev answer_at : ℕ → Scene → StepAnswer
answer_at k s = row_answer s.ledger s.incomings k 10 s.row

abbrev behind : ℕ → Scene → Scene
behind k s =
    let answer = answer_at k s in
    record { row = stepped_row answer s.row; ledger = stepped_ledger s.ledger answer s.row; incomings = stepped_incomings s.incomings answer s.row }

-- behind the steps from 0 on, n of them
abbrev behind_first : ℕ → Scene → Scene
behind_first zero s = s
behind_first (suc n) s = let before = behind_first n s in behind before.row.step before

record Sums : Type 0 where
  sent : ℕ
  fee : ℕ
  delivered : ℕ

abbrev sums : Scene → Sums
sums s = record { sent = s.row.sent; fee = s.row.fee; delivered = s.row.delivered }

abbrev quote : Terms → QuoteRow
quote terms = record { grant = 1; made = 0; expiry = 300000; terms = terms }

abbrev incoming : Option ℕ → IncomingRow
incoming amount = record { address = 2; grant = 1; amount = amount; expiry = 1000; made = 0; metadata = None }

-- alice, address 1, stands in asset 1, and the shop, address 2, in asset 2
abbrev ledger_of : (alice pool : ℕ) → LedgerValue
ledger_of alice pool =
    record {
      accounts =
          record { account = Outside 1; asset = 1; posted = alice; held = 0 } ∷ record { account = Pool 1; asset = 1; posted = 0; held = 0 }
          ∷ record { account = Fees 1; asset = 1; posted = 0; held = 0 } ∷ record { account = Wallet 1; asset = 1; posted = alice; held = 0 }
          ∷ record { account = Outside 2; asset = 2; posted = pool; held = 0 } ∷ record { account = Pool 2; asset = 2; posted = pool; held = 0 }
          ∷ record { account = Fees 2; asset = 2; posted = 0; held = 0 } ∷ record { account = Wallet 2; asset = 2; posted = 0; held = 0 } ∷ [];
    }

abbrev scene : Terms → (alice pool : ℕ) → Option ℕ → Scene
scene terms alice pool amount =
    record { row = fresh_row (made_from_quote 0 1 1 None (quote terms)); ledger = ledger_of alice pool; incomings = made [] (incoming amount) }

-- ---- rate 3/7, seven pieces

abbrev seven_pieces : Scene
seven_pieces = scene (record { payer = 1; payee = 2; incoming = 1; debit = 102; source = 100; fee = 2; receive = 42; num = 3; den = 7; piece = 15 }) 102 42 None

sums_of_seven :
    map (λ n. sums (behind_first n seven_pieces)) (2 ∷ 3 ∷ 4 ∷ 5 ∷ 6 ∷ 7 ∷ 8 ∷ []) ≡ record { sent = 15; fee = 0; delivered = 6 }
    ∷ record { sent = 30; fee = 0; delivered = 12 } ∷ record { sent = 45; fee = 0; delivered = 19 } ∷ record { sent = 60; fee = 1; delivered = 25 }
    ∷ record { sent = 75; fee = 1; delivered = 32 } ∷ record { sent = 90; fee = 1; delivered = 38 } ∷ record { sent = 100; fee = 2; delivered = 42 } ∷ []
sums_of_seven = refl

sixth_is_sent : answer_at 6 (behind_first 6 seven_pieces) ≡ answers.Sent
sixth_is_sent = refl

seventh_completes : answer_at 7 (behind_first 7 seven_pieces) ≡ answers.Completed
seventh_completes = refl

-- one step twice
once_more : answer_at 1 (behind_first 2 seven_pieces) ≡ answers.Stale 2
once_more = refl

-- ---- the receiver closes behind three pieces

abbrev closed : Scene
closed = let before = behind_first 4 seven_pieces in record { row = before.row; ledger = before.ledger; incomings = completed before.incomings 1 }

fourth_fails : answer_at 4 closed ≡ answers.Failed ReceiverClosed
fourth_fails = refl

sums_stay : sums (behind 4 closed) ≡ record { sent = 45; fee = 0; delivered = 19 }
sums_stay = refl

-- 57 were held, and are held no more; 45 were debited
held_before : held_in closed.ledger (Wallet 1) ≡ 57
held_before = refl

held_behind : held_in (behind 4 closed).ledger (Wallet 1) ≡ 0
held_behind = refl

left_behind : posted_in (behind 4 closed).ledger (Wallet 1) ≡ 57
left_behind = refl

arrived_behind : posted_in (behind 4 closed).ledger (Wallet 2) ≡ 19
arrived_behind = refl

-- ---- rate 3/2, of which one piece passes the bound of 101

abbrev one_piece : Scene
one_piece = scene (record { payer = 1; payee = 2; incoming = 1; debit = 69; source = 68; fee = 1; receive = 102; num = 3; den = 2; piece = 68 }) 69 102 (Some 101)

first_completes : answer_at 1 (behind_first 1 one_piece) ≡ answers.Completed
first_completes = refl

all_sent : sums (behind_first 2 one_piece) ≡ record { sent = 68; fee = 1; delivered = 102 }
all_sent = refl

nothing_left : available_in (behind_first 2 one_piece).ledger (Wallet 1) ≡ 0
nothing_left = refl

all_received : received_by (behind_first 2 one_piece).incomings 1 ≡ 102
all_received = refl

-- ---- held money

abbrev costly : Terms
costly = record { payer = 1; payee = 2; incoming = 1; debit = 1010; source = 1000; fee = 10; receive = 1000; num = 1; den = 1; piece = 1000 }

abbrev second_payment : Scene
second_payment = let first = behind_first 1 (scene costly 1010 0 None) in record { row = fresh_row (made_from_quote 0 1 2 None (quote costly)); ledger = first.ledger; incomings = first.incomings }

second_waits : answer_at 0 second_payment ≡ answers.Waiting (NotFunded 0 1010)
second_waits = refl

-- ---- paying oneself

abbrev to_oneself : Scene
to_oneself = scene (record { payer = 1; payee = 1; incoming = 1; debit = 50; source = 50; fee = 0; receive = 50; num = 1; den = 1; piece = 50 }) 50 0 None

own_sums : sums (behind_first 2 to_oneself) ≡ record { sent = 50; fee = 0; delivered = 50 }
own_sums = refl

own_balance : available_in (behind_first 2 to_oneself).ledger (Wallet 1) ≡ 50
own_balance = refl

then_ended : answer_at 2 (behind_first 2 to_oneself) ≡ answers.Ended
then_ended = refl
