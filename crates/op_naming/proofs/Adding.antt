-- The names behind what an act adds.
use Rattle.std.proofs.Common.{◌≡◌, true, false, List, [], ◌∷◌, ◌++◌, refl}
use Rattle.op_model.specs.declared.act.Act.{Act}
use Rattle.op_model.specs.declared.act.Act.TheVariants as acts
use Rattle.op_model.specs.declared.act.Entry.{Entry}
use Rattle.op_naming.specs.Added.{AddsNone, adds_name}
use Rattle.op_naming.specs.Names.{AreNames}
use Rattle.op_naming.specs.declared.names.Names.{Names}
use Rattle.op_naming.proofs.NamesNext.{names_still}

pub adds_none : (act : Act) → adds_name act ≡ false → AddsNone act
adds_none (acts.OriginSet origin) is = absurd (let e : true ≡ false = is in cc)
adds_none (acts.AssetAdded code scale pieces) is = absurd (let e : true ≡ false = is in cc)
adds_none (acts.AddressAdded path asset name) is = absurd (let e : true ≡ false = is in cc)
adds_none (acts.Deposited transfer account value) is = absurd (let e : true ≡ false = is in cc)
adds_none (acts.Withdrawn transfer account value) is = absurd (let e : true ≡ false = is in cc)
adds_none (acts.RateSet source target num den) is = absurd (let e : true ≡ false = is in cc)
adds_none (acts.IncomingMade grant address amount expiry metadata) is = record { origin = refl; asset = refl; address = refl; transfer = refl; rate = λ s t. refl }
adds_none (acts.IncomingCompleted grant incoming) is = record { origin = refl; asset = refl; address = refl; transfer = refl; rate = λ s t. refl }
adds_none (acts.IncomingExpired incoming) is = record { origin = refl; asset = refl; address = refl; transfer = refl; rate = λ s t. refl }
adds_none (acts.QuoteMade grant address incoming mode asked debit source fee receive num den) is = record { origin = refl; asset = refl; address = refl; transfer = refl; rate = λ s t. refl }
adds_none (acts.GrantAsked client items finish word) is = record { origin = refl; asset = refl; address = refl; transfer = refl; rate = λ s t. refl }
adds_none (acts.GrantAccepted grant word) is = record { origin = refl; asset = refl; address = refl; transfer = refl; rate = λ s t. refl }
adds_none (acts.GrantRejected grant word) is = record { origin = refl; asset = refl; address = refl; transfer = refl; rate = λ s t. refl }
adds_none (acts.GrantPolled grant) is = record { origin = refl; asset = refl; address = refl; transfer = refl; rate = λ s t. refl }
adds_none (acts.GrantContinued grant word) is = record { origin = refl; asset = refl; address = refl; transfer = refl; rate = λ s t. refl }
adds_none (acts.GrantCancelled grant) is = record { origin = refl; asset = refl; address = refl; transfer = refl; rate = λ s t. refl }
adds_none (acts.TokenRotated grant word) is = record { origin = refl; asset = refl; address = refl; transfer = refl; rate = λ s t. refl }
adds_none (acts.TokenRevoked grant) is = record { origin = refl; asset = refl; address = refl; transfer = refl; rate = λ s t. refl }
adds_none (acts.OutgoingMade grant quote metadata) is = record { origin = refl; asset = refl; address = refl; transfer = refl; rate = λ s t. refl }
adds_none (acts.OutgoingDirect grant address incoming debit source fee receive num den metadata) is = record { origin = refl; asset = refl; address = refl; transfer = refl; rate = λ s t. refl }
adds_none (acts.OutgoingFunded payment step) is = record { origin = refl; asset = refl; address = refl; transfer = refl; rate = λ s t. refl }
adds_none (acts.OutgoingSent payment step) is = record { origin = refl; asset = refl; address = refl; transfer = refl; rate = λ s t. refl }
adds_none (acts.OutgoingCompleted payment step) is = record { origin = refl; asset = refl; address = refl; transfer = refl; rate = λ s t. refl }
adds_none (acts.OutgoingFailed payment step reason) is = record { origin = refl; asset = refl; address = refl; transfer = refl; rate = λ s t. refl }
adds_none (acts.Attempted event outcome) is = record { origin = refl; asset = refl; address = refl; transfer = refl; rate = λ s t. refl }

pub nothing_added : (history : List Entry) (e : Entry) (names : Names) → AreNames history names → adds_name e.act ≡ false → AreNames (history ++ e ∷ []) names
nothing_added history e names are none = names_still history e names are (adds_none e.act none)
