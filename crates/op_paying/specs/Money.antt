-- The money of a wallet is what its history says.
use Rattle.std.specs.Prelude.{ℕ, ◌≡◌, List, map, length, Some}
use Rattle.op_incoming.specs.Models.{StandsAs as IsIncoming}
use Rattle.op_incoming.specs.declared.incoming.Incoming.{Incoming}
use Rattle.op_model.specs.History.{nth, assets, addresses}
use Rattle.op_model.specs.Legal.{IsLegal}
use Rattle.op_model.specs.Payments.{incomings, outgoings, quotes}
use Rattle.op_model.specs.declared.act.Entry.{Entry}
use Rattle.op_paying.specs.Ledgers.{StandsAs}
use Rattle.op_paying.specs.declared.money.Money.{Money}

-- the incoming payments are those of the history
pub record AreIncomings (history : List Entry) (rows : List Incoming) : Type 0 where
  pub rows_are : map (λ x. x.row) rows ≡ incomings history
  pub each : (i : ℕ) (x : Incoming) → nth rows i ≡ Some x → IsIncoming history i x

-- Accounts, payments and quotes are those of a legal history, with the pieces of each asset and the number of addresses.
pub record IsMoneyOf (history : List Entry) (money : Money) : Type 0 where
  pub legal : IsLegal history
  pub stands : StandsAs history money.ledger
  pub received : AreIncomings history money.incomings
  pub payments_are : money.outgoings.rows ≡ outgoings history
  pub quotes_are : money.outgoings.quotes ≡ quotes history
  pub pieces_are : money.pieces.items ≡ map (λ row. row.pieces) (assets history)
  pub counted : money.addresses ≡ length (addresses history)

-- it is the money of some history
abbrev pub HasHistory : Money → Type 0
HasHistory money = (history : List Entry) × IsMoneyOf history money
