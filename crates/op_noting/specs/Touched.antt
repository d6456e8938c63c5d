-- The payments of which the events of an act tell, and those events.
use Rattle.std.specs.Prelude.{ℕ, ◌&&◌, nat_lt, nat_le, if◌then◌else◌, List, [], ◌∷◌, ◌++◌, length, Some, None}
use Rattle.std.specs.Option.{option_map, option_and_then}
use Rattle.std.specs.declared.option.Option.{Option}
use Rattle.op_amount.specs.declared.Amount.{Amount}
use Rattle.op_amount.specs.declared.Asset.{Asset}
use Rattle.op_model.specs.History.{asset_of_address}
use Rattle.op_model.specs.Incoming.{bound_of}
use Rattle.op_model.specs.Payments.{incomings, incoming_row, payments_made, outgoing_row, received}
use Rattle.op_model.specs.declared.act.Act.{Act}
use Rattle.op_model.specs.declared.act.Act.TheVariants as acts
use Rattle.op_model.specs.declared.act.Entry.{Entry}
use Rattle.op_model.specs.declared.row.EventBody.TheVariants.{Incoming, Outgoing}
use Rattle.op_model.specs.declared.row.EventRow.{EventRow}
use Rattle.op_model.specs.declared.row.EventWord.{EventWord}
use Rattle.op_model.specs.declared.row.EventWord.TheVariants as words
use Rattle.op_model.specs.declared.row.IncomingRow.{IncomingRow}
use Rattle.op_model.specs.declared.row.OutgoingRow.{OutgoingRow}
use Rattle.op_noting.specs.declared.touched.IncomingNow.{IncomingNow}
use Rattle.op_noting.specs.declared.touched.OutgoingNow.{OutgoingNow}
use Rattle.op_noting.specs.declared.touched.Touched.{Touched}

-- ---- payments as they are told

abbrev pub amount_in : Asset → ℕ → Amount
amount_in asset value = record { value = value; asset = asset }

-- an incoming payment that has received so much, in its address's asset
abbrev pub incoming_with : (number : ℕ) → IncomingRow → (received : ℕ) → Asset → IncomingNow
incoming_with number row received asset = record { number = number; address = row.address; received = amount_in asset received }

-- an outgoing payment between addresses of these assets
abbrev pub outgoing_with : (number : ℕ) → OutgoingRow → (payer payee : Asset) → OutgoingNow
outgoing_with number row payer payee =
    record {
      number = number;
      payer = row.terms.payer;
      debit = amount_in payer row.terms.debit;
      receive = amount_in payee row.terms.receive;
      sent = amount_in payer row.sent;
    }

-- an incoming payment that a piece brought to its bound, by what it had received before and after
abbrev pub filled_with : (number : ℕ) → IncomingRow → (before after : ℕ) → Asset → Option IncomingNow
filled_with number row before after asset =
    if nat_lt before (bound_of row) && nat_le (bound_of row) after then Some (incoming_with number row after asset) else None

-- ---- the same as a history has them

abbrev pub incoming_of : List Entry → ℕ → IncomingRow → IncomingNow
incoming_of history i row = incoming_with i row (received history i) (asset_of_address history row.address)

abbrev pub incoming_now : List Entry → ℕ → Option IncomingNow
incoming_now history i = option_map (incoming_of history i) (incoming_row history i)

abbrev pub outgoing_of : List Entry → ℕ → OutgoingRow → OutgoingNow
outgoing_of history p row = outgoing_with p row (asset_of_address history row.terms.payer) (asset_of_address history row.terms.payee)

abbrev pub outgoing_now : List Entry → ℕ → Option OutgoingNow
outgoing_now history p = option_map (outgoing_of history p) (outgoing_row history p)

-- the incoming payment that a piece of payment p brought to its bound
abbrev pub filled_of : (before after : List Entry) → ℕ → IncomingRow → Option IncomingNow
filled_of before after i row = filled_with i row (received before i) (received after i) (asset_of_address after row.address)

abbrev pub filled_of_payment : (before after : List Entry) → OutgoingRow → Option IncomingNow
filled_of_payment before after row = option_and_then (filled_of before after row.terms.incoming) (incoming_row after row.terms.incoming)

abbrev pub filled_now : (before after : List Entry) → ℕ → Option IncomingNow
filled_now before after p = option_and_then (filled_of_payment before after) (outgoing_row after p)

-- ---- which payments an act touches, between the histories before and after it

abbrev pub touching : Option OutgoingNow → Option IncomingNow → Touched
touching outgoing incoming = record { incoming = incoming; outgoing = outgoing }

abbrev pub touched_by : (before after : List Entry) → Act → Touched
touched_by before after (acts.IncomingMade grant address amount expiry metadata) = touching None (incoming_now after (length (incomings after)))
touched_by before after (acts.IncomingCompleted grant incoming) = touching None (incoming_now after incoming)
touched_by before after (acts.IncomingExpired incoming) = touching None (incoming_now after incoming)
touched_by before after (acts.OutgoingMade grant quote metadata) = touching (outgoing_now after (length (payments_made after))) None
touched_by before after (acts.OutgoingDirect grant address incoming debit source fee receive num den metadata) =
    touching (outgoing_now after (length (payments_made after))) None
touched_by before after (acts.OutgoingSent payment step) = touching None (filled_now before after payment)
touched_by before after (acts.OutgoingCompleted payment step) = touching (outgoing_now after payment) (filled_now before after payment)
touched_by before after (acts.OutgoingFailed payment step reason) = touching (outgoing_now after payment) None
touched_by before after _ = touching None None

-- ---- the events of an act on these payments

-- what the act tells of the outgoing payment, and of the incoming one
abbrev pub outgoing_word : Act → Option EventWord
outgoing_word (acts.OutgoingMade grant quote metadata) = Some words.OutgoingCreated
outgoing_word (acts.OutgoingDirect grant address incoming debit source fee receive num den metadata) = Some words.OutgoingCreated
outgoing_word (acts.OutgoingCompleted payment step) = Some words.OutgoingCompleted
outgoing_word (acts.OutgoingFailed payment step reason) = Some words.OutgoingFailed
outgoing_word _ = None

abbrev pub incoming_word : Act → Option EventWord
incoming_word (acts.IncomingMade grant address amount expiry metadata) = Some words.IncomingCreated
incoming_word (acts.IncomingCompleted grant incoming) = Some words.IncomingCompleted
incoming_word (acts.IncomingExpired incoming) = Some words.IncomingExpired
incoming_word (acts.OutgoingSent payment step) = Some words.IncomingCompleted
incoming_word (acts.OutgoingCompleted payment step) = Some words.IncomingCompleted
incoming_word _ = None

abbrev pub outgoing_told : ℕ → EventWord → OutgoingNow → EventRow
outgoing_told t word now = record { at = t; word = word; row = now.number; address = now.payer; body = Outgoing now.debit now.receive now.sent }

abbrev pub incoming_told : ℕ → EventWord → IncomingNow → EventRow
incoming_told t word now = record { at = t; word = word; row = now.number; address = now.address; body = Incoming now.received }

-- an event where there is something to tell, of a payment that is there
abbrev pub told_of : {X : Type 0} → (EventWord → X → EventRow) → Option EventWord → Option X → List EventRow
told_of row (Some word) (Some payment) = row word payment ∷ []
told_of row _ _ = []

-- the events of an act at t: the outgoing payment's own comes first, and then that of the incoming payment
abbrev pub told : ℕ → Act → Touched → List EventRow
told t act touched =
    told_of (outgoing_told t) (outgoing_word act) touched.outgoing ++ told_of (incoming_told t) (incoming_word act) touched.incoming

-- the most events of an act
abbrev pub events_limit : ℕ
events_limit = 2
