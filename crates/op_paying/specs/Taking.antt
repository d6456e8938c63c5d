-- Taking an entry: the money of any history that it may follow becomes that of the longer one.
use Rattle.std.specs.Prelude.{◌+◌, ◌<◌, ◌^◌, Bool, true, false, List, [], ◌∷◌, ◌++◌, length, Some, None}
use Rattle.std.specs.declared.option.Option.{Option}
use Rattle.op_amount.specs.declared.Priced.{Priced}
use Rattle.op_model.specs.History.{assets, addresses}
use Rattle.op_model.specs.Legal.{IsNext}
use Rattle.op_model.specs.declared.act.Act.{Act}
use Rattle.op_model.specs.declared.act.Act.TheVariants as acts
use Rattle.op_model.specs.declared.act.Entry.{Entry}
use Rattle.op_paying.specs.Money.{IsMoneyOf}
use Rattle.op_paying.specs.declared.money.Money.{Money}

-- the entry may follow a history whose money this is, and one more asset and address have numbers
pub record CanTake (money : Money) (e : Entry) : Type 0 where
  pub history : List Entry
  pub is : IsMoneyOf history money
  pub next : IsNext history e
  pub assets_fit : 1 + length (assets history) < 2 ^ 32
  pub addresses_fit : 1 + length (addresses history) < 2 ^ 32

abbrev pub TakesEntry : Entry → Money → Money → Type 0
TakesEntry e old new = (history : List Entry) → IsMoneyOf history old → IsNext history e → IsMoneyOf (history ++ e ∷ []) new

abbrev pub KeepsHistories : Money → Money → Type 0
KeepsHistories old new = (history : List Entry) → IsMoneyOf history old → IsMoneyOf history new

-- an act that makes a row, and so wants memory
abbrev pub makes_rows : Act → Bool
makes_rows (acts.AssetAdded code scale pieces) = true
makes_rows (acts.AddressAdded path asset name) = true
makes_rows (acts.IncomingMade grant address amount expiry metadata) = true
makes_rows (acts.QuoteMade grant address incoming mode asked debit source fee receive num den) = true
makes_rows (acts.OutgoingMade grant quote metadata) = true
makes_rows (acts.OutgoingDirect grant address incoming debit source fee receive num den metadata) = true
makes_rows _ = false

-- an act that makes a quote or an outgoing payment
abbrev pub makes_payment : Act → Bool
makes_payment (acts.QuoteMade grant address incoming mode asked debit source fee receive num den) = true
makes_payment (acts.OutgoingMade grant quote metadata) = true
makes_payment (acts.OutgoingDirect grant address incoming debit source fee receive num den metadata) = true
makes_payment _ = false

-- the price that an act records
abbrev pub price_in : Act → Option Priced
price_in (acts.QuoteMade grant address incoming mode asked debit source fee receive num den) =
    Some (record { debit = debit; source = source; fee = fee; receive = receive; num = num; den = den })
price_in (acts.OutgoingDirect grant address incoming debit source fee receive num den metadata) =
    Some (record { debit = debit; source = source; fee = fee; receive = receive; num = num; den = den })
price_in _ = None

-- an act that leaves all money as it is
abbrev pub leaves_money : Act → Bool
leaves_money (acts.OriginSet origin) = true
leaves_money (acts.RateSet source target num den) = true
leaves_money (acts.GrantAsked client items finish word) = true
leaves_money (acts.GrantAccepted grant word) = true
leaves_money (acts.GrantRejected grant word) = true
leaves_money (acts.GrantPolled grant) = true
leaves_money (acts.GrantContinued grant word) = true
leaves_money (acts.GrantCancelled grant) = true
leaves_money (acts.TokenRotated grant word) = true
leaves_money (acts.TokenRevoked grant) = true
leaves_money (acts.Attempted event outcome) = true
leaves_money _ = false
