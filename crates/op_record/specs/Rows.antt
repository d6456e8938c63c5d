-- The fields of each act, as they are read.
use Rattle.std.specs.Prelude.{ℕ, zero, suc, ◌+◌, ◌-◌, ◌*◌, ◌==◌, Bool, ◌&&◌, ◌||◌, nat_lt, nat_le, if◌then◌else◌, List, [], ◌∷◌, Option, Some, None}
use Rattle.op_time.specs.declared.TheConstants.{LAST}
use Rattle.op_model.specs.Legal.{has_actions, is_outcome}
use Rattle.op_model.specs.declared.act.Entry.{Entry}
use Rattle.op_model.specs.declared.act.Act.{Act}
use Rattle.op_model.specs.declared.act.Act.TheVariants as acts
use Rattle.op_model.specs.declared.act.Account.{Account}
use Rattle.op_model.specs.declared.act.Account.TheVariants.{Pool, Fees, Wallet}
use Rattle.op_model.specs.declared.act.QuoteMode.{QuoteMode}
use Rattle.op_model.specs.declared.act.QuoteMode.TheVariants as modes
use Rattle.op_model.specs.declared.act.FailReason.{FailReason}
use Rattle.op_model.specs.declared.act.FailReason.TheVariants.{QuoteExpired, ReceiverClosed, Cancelled}
use Rattle.op_model.specs.declared.grant.Cap.{Cap}
use Rattle.op_model.specs.declared.grant.Limits.{Limits}
use Rattle.op_model.specs.declared.grant.Item.{Item}
use Rattle.op_model.specs.declared.grant.Finish.{Finish}
use Rattle.op_record.specs.Readers.{Reader, bind, done, byte, is_between, byte_between, number_at, bytes_at, text_at, option_at}

-- ---- fields

abbrev pub u32_at : Reader ℕ
u32_at = number_at 4 4294967295

abbrev pub u64_at : Reader ℕ
u64_at = number_at 8 18446744073709551615

abbrev pub moment_at : Reader ℕ
moment_at = number_at 8 LAST

abbrev pub word_at : Reader (List ℕ)
word_at = bytes_at 16

abbrev pub account_of : ℕ → ℕ → Account
account_of kind n = if kind == 1 then Pool n else (if kind == 2 then Fees n else Wallet n)

unfoldable pub account_at : Reader Account
account_at = bind (byte_between 1 3) (λ kind. bind u32_at (λ n. done (account_of kind n)))

abbrev pub mode_of : ℕ → QuoteMode
mode_of n = if n == 1 then modes.Debit else (if n == 2 then modes.Receive else modes.Rest)

abbrev pub reason_of : ℕ → FailReason
reason_of n = if n == 1 then QuoteExpired else (if n == 2 then ReceiverClosed else Cancelled)

unfoldable pub mode_at : Reader QuoteMode
mode_at = bind (byte_between 1 3) (λ n. done (mode_of n))

unfoldable pub reason_at : Reader FailReason
reason_at = bind (byte_between 1 3) (λ n. done (reason_of n))

-- two bytes; the first digit of a status is at most 3, since 999 is 3 * 256 + 231
unfoldable pub outcome_at : Reader ℕ
outcome_at = bind (byte_between 0 3) (λ high. bind (byte (λ low. nat_lt low 256 && is_outcome (high * 256 + low))) (λ low. done (high * 256 + low)))

unfoldable pub cap_at : Reader (Option Cap)
cap_at = bind (byte_between 0 2) (λ way.
    if way == 0 then done None
    else bind u32_at (λ asset. bind u64_at (λ value.
    done (Some (record { debit = way == 1; sum = record { asset = asset; value = value } })))))

unfoldable pub limits_at : Reader Limits
limits_at = bind (option_at u64_at) (λ receiver. bind cap_at (λ cap. bind (option_at (text_at 128)) (λ interval.
    done (record { receiver = receiver; cap = cap; interval = interval }))))

-- an item of a type from low to high
unfoldable pub item_at : (low high : ℕ) → Reader Item
item_at low high = bind (byte_between low high) (λ kind. bind (byte (has_actions kind)) (λ actions.
    bind (option_at u32_at) (λ identifier. bind (option_at limits_at) (λ limits.
    done (record { kind = kind; actions = actions; identifier = identifier; limits = limits })))))

-- so many items in ascending type, above a type: where more follow, the first type leaves room for theirs
unfoldable pub more_items_at : (left above : ℕ) → Reader (List Item)
more_items_at zero above = done []
more_items_at (suc left) above = bind (item_at (above + 1) (3 - left)) (λ first. bind (more_items_at left first.kind) (λ others. done (first ∷ others)))

unfoldable pub items_at : Reader (List Item)
items_at = bind (byte_between 1 3) (λ count. more_items_at count 0)

unfoldable pub finish_at : Reader Finish
finish_at = bind (text_at 512) (λ uri. bind (text_at 128) (λ nonce. done (record { uri = uri; nonce = nonce })))

-- ---- acts

unfoldable pub origin_set_at : Reader Act
origin_set_at = bind (text_at 200) (λ origin. done (acts.OriginSet origin))

unfoldable pub asset_added_at : Reader Act
asset_added_at = bind (text_at 8) (λ code. bind (byte_between 0 255) (λ scale. bind (byte_between 0 255) (λ pieces. done (acts.AssetAdded code scale pieces))))

unfoldable pub address_added_at : Reader Act
address_added_at = bind (text_at 128) (λ path. bind u32_at (λ asset. bind (option_at (text_at 128)) (λ name. done (acts.AddressAdded path asset name))))

-- a deposit, or a withdrawal
unfoldable pub moved_at : (List ℕ → Account → ℕ → Act) → Reader Act
moved_at made = bind (text_at 64) (λ transfer. bind account_at (λ account. bind u64_at (λ value. done (made transfer account value))))

unfoldable pub rate_set_at : Reader Act
rate_set_at = bind u32_at (λ source. bind u32_at (λ target. bind u64_at (λ num. bind u64_at (λ den. done (acts.RateSet source target num den)))))

unfoldable pub incoming_made_at : Reader Act
incoming_made_at = bind u64_at (λ grant. bind u32_at (λ address. bind (option_at u64_at) (λ amount. bind moment_at (λ expiry.
    bind (option_at (text_at 1024)) (λ metadata. done (acts.IncomingMade grant address amount expiry metadata))))))

unfoldable pub quote_made_at : Reader Act
quote_made_at = bind u64_at (λ grant. bind u32_at (λ address. bind u64_at (λ incoming. bind mode_at (λ mode. bind u64_at (λ asked.
    bind u64_at (λ debit. bind u64_at (λ source. bind u64_at (λ fee. bind u64_at (λ receive. bind u64_at (λ num. bind u64_at (λ den.
    done (acts.QuoteMade grant address incoming mode asked debit source fee receive num den))))))))))))

unfoldable pub grant_asked_at : Reader Act
grant_asked_at = bind (text_at 256) (λ client. bind items_at (λ items. bind (option_at finish_at) (λ finish. bind word_at (λ word.
    done (acts.GrantAsked client items finish word)))))

-- an act of one number
unfoldable pub one_at : (ℕ → Act) → Reader Act
one_at made = bind u64_at (λ n. done (made n))

-- an act of two numbers
unfoldable pub two_at : (ℕ → ℕ → Act) → Reader Act
two_at made = bind u64_at (λ m. bind u64_at (λ n. done (made m n)))

-- an act of a grant and a word
unfoldable pub drawn_at : (ℕ → List ℕ → Act) → Reader Act
drawn_at made = bind u64_at (λ grant. bind word_at (λ word. done (made grant word)))

unfoldable pub outgoing_made_at : Reader Act
outgoing_made_at = bind u64_at (λ grant. bind u64_at (λ quote. bind (option_at (text_at 1024)) (λ metadata. done (acts.OutgoingMade grant quote metadata))))

unfoldable pub outgoing_failed_at : Reader Act
outgoing_failed_at = bind u64_at (λ payment. bind u64_at (λ step. bind reason_at (λ reason. done (acts.OutgoingFailed payment step reason))))

unfoldable pub attempted_at : Reader Act
attempted_at = bind u64_at (λ event. bind outcome_at (λ outcome. done (acts.Attempted event outcome)))

unfoldable pub outgoing_direct_at : Reader Act
outgoing_direct_at = bind u64_at (λ grant. bind u32_at (λ address. bind u64_at (λ incoming. bind u64_at (λ debit. bind u64_at (λ source. bind u64_at (λ fee.
    bind u64_at (λ receive. bind u64_at (λ num. bind u64_at (λ den. bind (option_at (text_at 1024)) (λ metadata.
    done (acts.OutgoingDirect grant address incoming debit source fee receive num den metadata)))))))))))

-- ---- the row of a kind, by four groups

-- kinds 1 to 6: what the provider does
unfoldable pub provider_at : ℕ → Reader Act
provider_at kind =
    if kind == 1 then origin_set_at else
    (if kind == 2 then asset_added_at else
    (if kind == 3 then address_added_at else
    (if kind == 4 then moved_at acts.Deposited else
    (if kind == 5 then moved_at acts.Withdrawn else rate_set_at))))

-- kinds 7 to 10: incoming payments and quotes
unfoldable pub receiving_at : ℕ → Reader Act
receiving_at kind =
    if kind == 7 then incoming_made_at else
    (if kind == 8 then two_at acts.IncomingCompleted else
    (if kind == 9 then one_at acts.IncomingExpired else quote_made_at))

-- kinds 11 to 18: grants
unfoldable pub grant_at : ℕ → Reader Act
grant_at kind =
    if kind == 11 then grant_asked_at else
    (if kind == 12 then drawn_at acts.GrantAccepted else
    (if kind == 13 then drawn_at acts.GrantRejected else
    (if kind == 14 then one_at acts.GrantPolled else
    (if kind == 15 then drawn_at acts.GrantContinued else
    (if kind == 16 then one_at acts.GrantCancelled else
    (if kind == 17 then drawn_at acts.TokenRotated else one_at acts.TokenRevoked))))))

-- kinds 19 to 25: outgoing payments and events
unfoldable pub sending_at : ℕ → Reader Act
sending_at kind =
    if kind == 19 then outgoing_made_at else
    (if kind == 20 then two_at acts.OutgoingFunded else
    (if kind == 21 then two_at acts.OutgoingSent else
    (if kind == 22 then two_at acts.OutgoingCompleted else
    (if kind == 23 then outgoing_failed_at else
    (if kind == 24 then attempted_at else outgoing_direct_at)))))

unfoldable pub fields_at : ℕ → Reader Act
fields_at kind =
    if nat_le kind 6 then provider_at kind else
    (if nat_le kind 10 then receiving_at kind else
    (if nat_le kind 18 then grant_at kind else sending_at kind))

-- a kind up to the highest that is known, and the fields of its act
unfoldable pub act_at : (highest : ℕ) → Reader Act
act_at highest = bind (byte_between 1 highest) fields_at

-- the record of an entry, as version 1 has it
unfoldable pub entry_at : Reader Entry
entry_at = bind moment_at (λ at. bind (act_at 24) (λ act. done (record { at = at; act = act })))

-- an entry of a round of version 2, whose moment was said before
unfoldable pub entry_of_round_at : (at : ℕ) → Reader Entry
entry_of_round_at at = bind (act_at 25) (λ act. done (record { at = at; act = act }))
