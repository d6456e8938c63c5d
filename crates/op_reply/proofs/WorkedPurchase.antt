-- The worked purchase: a shop is paid 10 dollars by alice, in the usual order of Open Payments calls. What is asked, one
-- task after another, and the history that the plain wallet makes of it.
use Rattle.std.specs.Prelude.{ℕ, ◌+◌, ◌*◌, true, false, List, [], ◌∷◌, codes, replicate, take, fold, Some, None}
use Rattle.std.specs.declared.option.Option.{Option}
use Rattle.op_amount.specs.declared.Asset.{Asset}
use Rattle.op_amount.specs.declared.Amount.{Amount}
use Rattle.op_names.specs.declared.AddressName.{AddressName}
use Rattle.op_names.specs.declared.RowName.{RowName}
use Rattle.op_names.specs.declared.Kind.{Kind}
use Rattle.op_names.specs.declared.Kind.TheVariants as kinds
use Rattle.op_model.specs.History.{with_act}
use Rattle.op_model.specs.Answer.{Outcome, answer}
use Rattle.op_model.specs.declared.act.Entry.{Entry}
use Rattle.op_model.specs.declared.grant.Finish.{Finish}
use Rattle.op_model.specs.declared.grant.Interact.TheVariants.{Missing, Redirect}
use Rattle.op_model.specs.declared.request.AccountName.TheVariants as accounts
use Rattle.op_model.specs.declared.request.AskedItem.{AskedItem}
use Rattle.op_model.specs.declared.request.QuoteAsked.TheVariants as asked
use Rattle.op_model.specs.declared.request.PaymentAsked.TheVariants.{Quoted}
use Rattle.op_model.specs.declared.request.Request.{Request}
use Rattle.op_model.specs.declared.request.Request.TheVariants as requests
use Rattle.op_model.specs.declared.request.Task.{Task}
use Rattle.op_model.specs.declared.request.Task.TheVariants as tasks

-- ---- who asks, and for what

abbrev pub usd : Asset
usd = record { code = codes "USD"; scale = 2 }

abbrev pub amount : ℕ → Amount
amount value = record { value = value; asset = usd }

abbrev pub origin : List ℕ
origin = codes "https://wallet.example"

abbrev pub named : List ℕ → Option AddressName
named path = Some (record { origin = origin; path = path })

abbrev pub row : Kind → ℕ → Option RowName
row kind number = Some (record { origin = origin; id = record { kind = kind; number = number } })

abbrev pub client : List ℕ
client = codes "https://wallet.example/shop"

-- a grant's item of a type (1 for incoming payments, 2 for quotes) with actions (1 create, 2 complete, 4 read)
abbrev pub item : (kind actions : ℕ) → AskedItem
item kind actions = record { kind = kind; actions = actions; identifier = None; limits = None }

-- to create and read outgoing payments from alice, of 50 dollars a month
abbrev pub spending : AskedItem
spending = record {
  kind = 3;
  actions = 5;
  identifier = Some (named (codes "/alice"));
  limits = Some (record {
    receiver = None;
    cap = Some (record { debit = true; amount = amount 5000 });
    interval = Some (codes "R12/2024-03-01T00:00:00Z/P1M");
  });
}

abbrev pub finish : Finish
finish = record { uri = codes "https://shop.example/done"; nonce = codes "n" }

-- the provider asks, and the client with a proof, and with one of its secrets
abbrev pub provider : Request → Task
provider request = tasks.Ask request (record { client = None; proved = false; token = None })

abbrev pub shop : Request → Task
shop request = tasks.Ask request (record { client = Some client; proved = true; token = None })

abbrev pub shop_with : (secret : List ℕ) → Request → Task
shop_with secret request = tasks.Ask request (record { client = Some client; proved = true; token = Some secret })

-- ---- what is done: the requests, and the steps of the payment between them

-- a task, with the turn in which it is done and what the fee rule answers
pub record Done : Type 0 where
  pub turn : ℕ
  pub fee : ℕ
  pub task : Task

abbrev pub in_turn : ℕ → Task → Done
in_turn k task = record { turn = k; fee = 0; task = task }

abbrev pub read_payment : Task
read_payment = shop_with (codes "a0b0b0b0b0b0b0b0b0b0b0b0b0b0b0b0b-11") (requests.ReadOutgoing (Some 1))

-- the fee on 1000 is one percent; the incoming payment lives until 2024-03-01T12:30:00.123Z
abbrev pub purchase : List Done
purchase =
    in_turn 0 (provider (requests.AddAsset usd 2))
    ∷ in_turn 1 (provider (requests.AddAddress (codes "/alice") usd (Some (codes "Alice"))))
    ∷ in_turn 2 (provider (requests.AddAddress (codes "/shop") usd None))
    ∷ in_turn 3 (provider (requests.Deposit (codes "dep-1") (accounts.Address (named (codes "/alice"))) (amount 10000)))
    ∷ in_turn 4 (provider (requests.ReadAddress (codes "/alice")))
    ∷ in_turn 5 (shop (requests.AskGrant (item 1 7 ∷ []) (Some client) Missing))
    ∷ in_turn 6 (shop_with (codes "a05050505050505050505050505050505-5") (requests.MakeIncoming (named (codes "/shop")) (Some (amount 1000)) (Some 1709296200123) None))
    ∷ in_turn 7 (shop (requests.AskGrant (item 2 1 ∷ []) (Some client) Missing))
    ∷ record { turn = 8; fee = 10; task = shop_with (codes "a07070707070707070707070707070707-7") (requests.MakeQuote (named (codes "/alice")) (row kinds.Incoming 1) asked.Rest) }
    ∷ in_turn 9 (shop (requests.AskGrant (spending ∷ []) (Some client) (Redirect (Some finish))))
    ∷ in_turn 10 (provider (requests.AcceptGrant (Some 3)))
    ∷ in_turn 11 (shop_with (codes "c09090909090909090909090909090909-9") (requests.ContinueGrant (Some 3) (Some (Some (codes "i0a0a0a0a0a0a0a0a0a0a0a0a0a0a0a0a-10")))))
    ∷ in_turn 12 (shop_with (codes "a0b0b0b0b0b0b0b0b0b0b0b0b0b0b0b0b-11") (requests.MakeOutgoing (named (codes "/alice")) (Quoted (row kinds.Quote 1)) None))
    ∷ in_turn 12 (tasks.Step 1 0)
    ∷ in_turn 13 read_payment
    ∷ in_turn 13 (tasks.Step 1 1)
    ∷ in_turn 14 read_payment
    ∷ in_turn 14 (tasks.Step 1 2)
    ∷ in_turn 15 read_payment
    ∷ []

-- ---- what the plain wallet makes of it: turn k is k seconds after 2024-03-01T12:00:00Z, and its word is sixteen bytes k

abbrev pub moment : ℕ → ℕ
moment k = 1709294400000 + 1000 * k

abbrev pub outcome : List Entry → Done → Outcome
outcome history done = answer history (moment done.turn) (replicate 16 done.turn) done.fee done.task

abbrev pub after : List Entry → Done → List Entry
after history done = with_act history (moment done.turn) (outcome history done).act

-- the history that the first n tasks leave
abbrev pub history_after : ℕ → List Entry
history_after n = fold after [] (take n purchase)
