-- The record of an entry, as version 1 has it: its moment, the kind of its act and the act's fields, one after another.
use Rattle.std.specs.Prelude.{ℕ, List, [], ◌∷◌, ◌++◌}
use Rattle.std.specs.List.{concat}
use Rattle.op_model.specs.declared.act.Entry.{Entry}
use Rattle.op_model.specs.declared.act.Act.{Act}
use Rattle.op_model.specs.declared.act.Act.TheVariants as acts
use Rattle.op_record.specs.Fields.{number, text, optional, account, mode_number, reason_number, items, finish}

-- the kind of an act, and its fields
abbrev pub row : Act → List (List ℕ)
row (acts.OriginSet origin) = (1 ∷ []) ∷ text origin ∷ []
row (acts.AssetAdded code scale pieces) = (2 ∷ []) ∷ text code ∷ (scale ∷ []) ∷ (pieces ∷ []) ∷ []
row (acts.AddressAdded path asset name) = (3 ∷ []) ∷ text path ∷ number 4 asset ∷ optional text name ∷ []
row (acts.Deposited transfer from value) = (4 ∷ []) ∷ text transfer ∷ account from ∷ number 8 value ∷ []
row (acts.Withdrawn transfer from value) = (5 ∷ []) ∷ text transfer ∷ account from ∷ number 8 value ∷ []
row (acts.RateSet source target num den) = (6 ∷ []) ∷ number 4 source ∷ number 4 target ∷ number 8 num ∷ number 8 den ∷ []
row (acts.IncomingMade grant address amount expiry metadata) =
    (7 ∷ []) ∷ number 8 grant ∷ number 4 address ∷ optional (number 8) amount ∷ number 8 expiry ∷ optional text metadata ∷ []
row (acts.IncomingCompleted grant incoming) = (8 ∷ []) ∷ number 8 grant ∷ number 8 incoming ∷ []
row (acts.IncomingExpired incoming) = (9 ∷ []) ∷ number 8 incoming ∷ []
row (acts.QuoteMade grant address incoming mode asked debit source fee receive num den) =
    (10 ∷ []) ∷ number 8 grant ∷ number 4 address ∷ number 8 incoming ∷ (mode_number mode ∷ []) ∷ number 8 asked ∷ number 8 debit
    ∷ number 8 source ∷ number 8 fee ∷ number 8 receive ∷ number 8 num ∷ number 8 den ∷ []
row (acts.GrantAsked client asked end word) = (11 ∷ []) ∷ text client ∷ items asked ∷ optional finish end ∷ word ∷ []
row (acts.GrantAccepted grant word) = (12 ∷ []) ∷ number 8 grant ∷ word ∷ []
row (acts.GrantRejected grant word) = (13 ∷ []) ∷ number 8 grant ∷ word ∷ []
row (acts.GrantPolled grant) = (14 ∷ []) ∷ number 8 grant ∷ []
row (acts.GrantContinued grant word) = (15 ∷ []) ∷ number 8 grant ∷ word ∷ []
row (acts.GrantCancelled grant) = (16 ∷ []) ∷ number 8 grant ∷ []
row (acts.TokenRotated grant word) = (17 ∷ []) ∷ number 8 grant ∷ word ∷ []
row (acts.TokenRevoked grant) = (18 ∷ []) ∷ number 8 grant ∷ []
row (acts.OutgoingMade grant quote metadata) = (19 ∷ []) ∷ number 8 grant ∷ number 8 quote ∷ optional text metadata ∷ []
row (acts.OutgoingFunded payment step) = (20 ∷ []) ∷ number 8 payment ∷ number 8 step ∷ []
row (acts.OutgoingSent payment step) = (21 ∷ []) ∷ number 8 payment ∷ number 8 step ∷ []
row (acts.OutgoingCompleted payment step) = (22 ∷ []) ∷ number 8 payment ∷ number 8 step ∷ []
row (acts.OutgoingFailed payment step reason) = (23 ∷ []) ∷ number 8 payment ∷ number 8 step ∷ (reason_number reason ∷ []) ∷ []
row (acts.OutgoingDirect grant address incoming debit source fee receive num den metadata) =
    (25 ∷ []) ∷ number 8 grant ∷ number 4 address ∷ number 8 incoming ∷ number 8 debit ∷ number 8 source ∷ number 8 fee ∷ number 8 receive ∷ number 8 num
    ∷ number 8 den ∷ optional text metadata ∷ []
row (acts.Attempted event outcome) = (24 ∷ []) ∷ number 8 event ∷ number 2 outcome ∷ []

-- the kind of an act and its fields: both versions have these for each act
abbrev pub act_of : Act → List ℕ
act_of act = concat (row act)

unfoldable pub record_of : Entry → List ℕ
record_of entry = number 8 entry.at ++ act_of entry.act
