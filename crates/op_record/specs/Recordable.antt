-- What can be written: the bounds that the types of an entry do not keep, and those that they keep.
use Rattle.std.specs.Prelude.{◌≡◌, ◌⊎◌, ℕ, ◌^◌, ◌<◌, ◌≤◌, true, List, [], ◌∷◌, length, Option, Some, None, IfSome}
use Rattle.op_time.specs.declared.TheConstants.{LAST}
use Rattle.op_model.specs.Legal.{has_actions, is_outcome}
use Rattle.op_model.specs.declared.act.Entry.{Entry}
use Rattle.op_model.specs.declared.act.Act.{Act}
use Rattle.op_model.specs.declared.act.Act.TheVariants as acts
use Rattle.op_model.specs.declared.act.Account.{Account}
use Rattle.op_model.specs.declared.act.Account.TheVariants.{Outside, Pool, Fees, Wallet}
use Rattle.op_model.specs.declared.grant.Cap.{Cap}
use Rattle.op_model.specs.declared.grant.Limits.{Limits}
use Rattle.op_model.specs.declared.grant.Item.{Item}
use Rattle.op_model.specs.declared.grant.Finish.{Finish}

-- at most so many bytes
abbrev pub IsShort : ℕ → List ℕ → Type 0
IsShort limit bytes = length bytes ≤ limit

-- ---- bounds of the record

abbrev pub IsInside : Account → Type 0
IsInside (Outside n) = ⊥
IsInside (Pool n) = Unit {0}
IsInside (Fees n) = Unit {0}
IsInside (Wallet n) = Unit {0}

abbrev pub AreLimits : Limits → Type 0
AreLimits l = IfSome l.interval (IsShort 128)

-- a type from 1 to 3, actions of this type, and limits
abbrev pub IsItem : Item → Type 0
IsItem i = (i.kind ≤ 3) × (has_actions i.kind i.actions ≡ true) × IfSome i.limits AreLimits

-- items in ascending type, above a type
abbrev pub AreAbove : ℕ → List Item → Type 0
AreAbove low [] = Unit {0}
AreAbove low (x ∷ xs) = (low < x.kind) × IsItem x × AreAbove x.kind xs

abbrev pub AreItems : List Item → Type 0
AreItems xs = (1 ≤ length xs) × AreAbove 0 xs

abbrev pub IsFinish : Finish → Type 0
IsFinish f = IsShort 512 f.uri × IsShort 128 f.nonce

abbrev pub IsWithinLimits : Act → Type 0
IsWithinLimits (acts.AddressAdded path asset name) = IsShort 128 path × IfSome name (IsShort 128)
IsWithinLimits (acts.Deposited transfer account value) = IsShort 64 transfer × IsInside account
IsWithinLimits (acts.Withdrawn transfer account value) = IsShort 64 transfer × IsInside account
IsWithinLimits (acts.IncomingMade grant address amount expiry metadata) = IfSome metadata (IsShort 1024)
IsWithinLimits (acts.GrantAsked client items finish word) = IsShort 256 client × AreItems items × IfSome finish IsFinish
IsWithinLimits (acts.OutgoingMade grant quote metadata) = IfSome metadata (IsShort 1024)
IsWithinLimits (acts.OutgoingDirect grant address incoming debit source fee receive num den metadata) = IfSome metadata (IsShort 1024)
IsWithinLimits (acts.Attempted event outcome) = is_outcome outcome ≡ true
IsWithinLimits _ = Unit {0}

-- an entry that can be written: its texts are within their limits, its account is inside, its items are one to three in ascending type
-- with actions of their types, its outcome is none or a status
abbrev pub IsWritable : Entry → Type 0
IsWritable entry = IsWithinLimits entry.act

-- an act that version 1 has: all but a payment without a quote
abbrev pub IsOfVersion1 : Act → Type 0
IsOfVersion1 (acts.OutgoingDirect grant address incoming debit source fee receive num den metadata) = ⊥
IsOfVersion1 _ = Unit {0}

-- an entry that has a record, which is of version 1
abbrev pub IsRecordable : Entry → Type 0
IsRecordable entry = IsWritable entry × IsOfVersion1 entry.act

-- ---- bounds of the types

abbrev pub IsByte : ℕ → Type 0
IsByte n = n < 2 ^ 8

abbrev pub IsU16 : ℕ → Type 0
IsU16 n = n < 2 ^ 16

abbrev pub IsU32 : ℕ → Type 0
IsU32 n = n < 2 ^ 32

abbrev pub IsU64 : ℕ → Type 0
IsU64 n = n < 2 ^ 64

abbrev pub IsMoment : ℕ → Type 0
IsMoment n = n ≤ LAST

abbrev pub IsWord : List ℕ → Type 0
IsWord bytes = length bytes ≡ 16

abbrev pub FitsAccount : Account → Type 0
FitsAccount (Outside n) = IsU32 n
FitsAccount (Pool n) = IsU32 n
FitsAccount (Fees n) = IsU32 n
FitsAccount (Wallet n) = IsU32 n

abbrev pub FitsCap : Cap → Type 0
FitsCap c = IsU32 c.sum.asset × IsU64 c.sum.value

abbrev pub FitsLimits : Limits → Type 0
FitsLimits l = IfSome l.receiver IsU64 × IfSome l.cap FitsCap

abbrev pub FitsItem : Item → Type 0
FitsItem i = IfSome i.identifier IsU32 × IfSome i.limits FitsLimits

abbrev pub FitItems : List Item → Type 0
FitItems [] = Unit {0}
FitItems (x ∷ xs) = FitsItem x × FitItems xs

abbrev pub FitsAct : Act → Type 0
FitsAct (acts.OriginSet origin) = IsShort 200 origin
FitsAct (acts.AssetAdded code scale pieces) = IsShort 8 code × IsByte scale × IsByte pieces
FitsAct (acts.AddressAdded path asset name) = IsU32 asset
FitsAct (acts.Deposited transfer account value) = FitsAccount account × IsU64 value
FitsAct (acts.Withdrawn transfer account value) = FitsAccount account × IsU64 value
FitsAct (acts.RateSet source target num den) = IsU32 source × IsU32 target × IsU64 num × IsU64 den
FitsAct (acts.IncomingMade grant address amount expiry metadata) = IsU64 grant × IsU32 address × IfSome amount IsU64 × IsMoment expiry
FitsAct (acts.IncomingCompleted grant incoming) = IsU64 grant × IsU64 incoming
FitsAct (acts.IncomingExpired incoming) = IsU64 incoming
FitsAct (acts.QuoteMade grant address incoming mode asked debit source fee receive num den) =
    IsU64 grant × IsU32 address × IsU64 incoming × IsU64 asked × IsU64 debit × IsU64 source × IsU64 fee × IsU64 receive × IsU64 num × IsU64 den
FitsAct (acts.GrantAsked client items finish word) = FitItems items × IsWord word
FitsAct (acts.GrantAccepted grant word) = IsU64 grant × IsWord word
FitsAct (acts.GrantRejected grant word) = IsU64 grant × IsWord word
FitsAct (acts.GrantPolled grant) = IsU64 grant
FitsAct (acts.GrantContinued grant word) = IsU64 grant × IsWord word
FitsAct (acts.GrantCancelled grant) = IsU64 grant
FitsAct (acts.TokenRotated grant word) = IsU64 grant × IsWord word
FitsAct (acts.TokenRevoked grant) = IsU64 grant
FitsAct (acts.OutgoingMade grant quote metadata) = IsU64 grant × IsU64 quote
FitsAct (acts.OutgoingFunded payment step) = IsU64 payment × IsU64 step
FitsAct (acts.OutgoingSent payment step) = IsU64 payment × IsU64 step
FitsAct (acts.OutgoingCompleted payment step) = IsU64 payment × IsU64 step
FitsAct (acts.OutgoingFailed payment step reason) = IsU64 payment × IsU64 step
FitsAct (acts.OutgoingDirect grant address incoming debit source fee receive num den metadata) =
    IsU64 grant × IsU32 address × IsU64 incoming × IsU64 debit × IsU64 source × IsU64 fee × IsU64 receive × IsU64 num × IsU64 den
FitsAct (acts.Attempted event outcome) = IsU64 event

-- each number fits its type, a moment is at most the last one, a word has sixteen bytes, an origin at most 200 and a code at most eight
abbrev pub FitsTypes : Entry → Type 0
FitsTypes entry = IsMoment entry.at × FitsAct entry.act
