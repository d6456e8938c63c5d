-- What an act names was made before it.
use Rattle.std.specs.Prelude.{◌≡◌, ℕ, true, List, ◌∷◌, ◌++◌, Some, is_some, IfSome, IsTrue}
use Rattle.std.specs.List.{AllByRecursion}
use Rattle.op_model.specs.Answer.{answer}
use Rattle.op_model.specs.Events.{event_row}
use Rattle.op_model.specs.Grants.{grant_row}
use Rattle.op_model.specs.History.{nth, assets, addresses}
use Rattle.op_model.specs.Legal.{IsLegal, is_proper}
use Rattle.op_model.specs.Payments.{incoming_row, quote_row, outgoing_row}
use Rattle.op_model.specs.declared.act.Account.{Account}
use Rattle.op_model.specs.declared.act.Account.TheVariants.{Outside, Pool, Fees, Wallet}
use Rattle.op_model.specs.declared.act.Act.{Act}
use Rattle.op_model.specs.declared.act.Act.TheVariants as acts
use Rattle.op_model.specs.declared.act.Entry.{Entry}
use Rattle.op_model.specs.declared.grant.Item.{Item}
use Rattle.op_model.specs.declared.grant.Limits.{Limits}
use Rattle.op_model.specs.declared.request.Task.{Task}

-- ---- what is there

abbrev pub HasAsset : List Entry → ℕ → Type 0
HasAsset history n = is_some (nth (assets history) n) ≡ true

abbrev pub HasAddress : List Entry → ℕ → Type 0
HasAddress history n = is_some (nth (addresses history) n) ≡ true

abbrev pub HasIncoming : List Entry → ℕ → Type 0
HasIncoming history n = is_some (incoming_row history n) ≡ true

abbrev pub HasQuote : List Entry → ℕ → Type 0
HasQuote history n = is_some (quote_row history n) ≡ true

abbrev pub HasOutgoing : List Entry → ℕ → Type 0
HasOutgoing history n = is_some (outgoing_row history n) ≡ true

abbrev pub HasGrant : List Entry → ℕ → Type 0
HasGrant history n = is_some (grant_row history n) ≡ true

abbrev pub HasEvent : List Entry → ℕ → Type 0
HasEvent history n = is_some (event_row history n) ≡ true

-- an account of the provider's or of an address; the outside is none
abbrev pub HasAccount : List Entry → Account → Type 0
HasAccount history (Outside asset) = ⊥
HasAccount history (Pool asset) = HasAsset history asset
HasAccount history (Fees asset) = HasAsset history asset
HasAccount history (Wallet address) = HasAddress history address

-- ---- what a grant's items name

pub record LimitsNameMade (history : List Entry) (limits : Limits) : Type 0 where
  pub receiver : IfSome limits.receiver (HasIncoming history)
  pub cap : IfSome limits.cap (λ cap. HasAsset history cap.sum.asset)

pub record ItemNamesMade (history : List Entry) (item : Item) : Type 0 where
  pub identifier : IfSome item.identifier (HasAddress history)
  pub limits : IfSome item.limits (LimitsNameMade history)

-- ---- what an act names

abbrev pub NamesMade : List Entry → Act → Type 0
NamesMade history (acts.OriginSet origin) = Unit {0}
NamesMade history (acts.AssetAdded code scale pieces) = Unit {0}
NamesMade history (acts.AddressAdded path asset name) = HasAsset history asset
NamesMade history (acts.Deposited transfer account value) = HasAccount history account
NamesMade history (acts.Withdrawn transfer account value) = HasAccount history account
NamesMade history (acts.RateSet source target num den) = HasAsset history source × HasAsset history target
NamesMade history (acts.IncomingMade grant address amount expiry metadata) = HasGrant history grant × HasAddress history address
NamesMade history (acts.IncomingCompleted grant incoming) = HasGrant history grant × HasIncoming history incoming
NamesMade history (acts.IncomingExpired incoming) = HasIncoming history incoming
NamesMade history (acts.QuoteMade grant address incoming mode asked debit source fee receive num den) =
    HasGrant history grant × HasAddress history address × HasIncoming history incoming
NamesMade history (acts.GrantAsked client items finish word) = AllByRecursion (ItemNamesMade history) items
NamesMade history (acts.GrantAccepted grant word) = HasGrant history grant
NamesMade history (acts.GrantRejected grant word) = HasGrant history grant
NamesMade history (acts.GrantPolled grant) = HasGrant history grant
NamesMade history (acts.GrantContinued grant word) = HasGrant history grant
NamesMade history (acts.GrantCancelled grant) = HasGrant history grant
NamesMade history (acts.TokenRotated grant word) = HasGrant history grant
NamesMade history (acts.TokenRevoked grant) = HasGrant history grant
NamesMade history (acts.OutgoingMade grant quote metadata) = HasGrant history grant × HasQuote history quote
NamesMade history (acts.OutgoingDirect grant address incoming debit source fee receive num den metadata) =
    HasGrant history grant × HasAddress history address × HasIncoming history incoming
NamesMade history (acts.OutgoingFunded payment step) = HasOutgoing history payment
NamesMade history (acts.OutgoingSent payment step) = HasOutgoing history payment
NamesMade history (acts.OutgoingCompleted payment step) = HasOutgoing history payment
NamesMade history (acts.OutgoingFailed payment step reason) = HasOutgoing history payment
NamesMade history (acts.Attempted event outcome) = HasEvent history event

-- the act of an answer, whether the history is legal or not
abbrev pub AnswersNameMade : Type 0
AnswersNameMade =
    (history : List Entry) (t : ℕ) (word : List ℕ) (fee : ℕ) (task : Task) (act : Act) →
    IsTrue (is_proper history task) → (answer history t word fee task).act ≡ Some act → NamesMade history act

-- each entry of a legal history
abbrev pub EntriesNameMade : Type 0
EntriesNameMade = (before : List Entry) (e : Entry) (after : List Entry) → IsLegal (before ++ e ∷ after) → NamesMade before e.act
