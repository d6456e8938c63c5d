-- Incoming payments that a client makes or completes, once its access passes.
use Rattle.std.specs.Prelude.{ℕ, false, not, List, Some, Ok, ok_or}
use Rattle.std.specs.Option.{option_map, option_map_or}
use Rattle.std.specs.declared.option.Option.{Option}
use Rattle.std.specs.declared.result.Result.{Result}
use Rattle.op_amount.specs.declared.Asset.{Asset}
use Rattle.op_model.specs.Asking.{◌>>=◌, refuse_if, found}
use Rattle.op_model.specs.History.{asset_of_address}
use Rattle.op_model.specs.Incoming.{is_open}
use Rattle.op_model.specs.PaymentAnswers.{expiry_of, incoming_refusals, is_strange_amount}
use Rattle.op_model.specs.Payments.{incoming_row}
use Rattle.op_model.specs.declared.act.Act.{Act}
use Rattle.op_model.specs.declared.act.Act.TheVariants as acts
use Rattle.op_model.specs.declared.act.Entry.{Entry}
use Rattle.op_model.specs.declared.reply.Refusal.{Refusal}
use Rattle.op_model.specs.declared.reply.Refusal.TheVariants.{NotFound, AlreadyClosed}
use Rattle.op_model.specs.declared.reply.ReplyBody.TheVariants as bodies
use Rattle.op_model.specs.declared.row.IncomingRow.{IncomingRow}
use Rattle.op_plans.specs.declared.plan.Plan.{Plan}
use Rattle.op_plans.specs.declared.plan.Plan.TheVariants.{Acts}
use Rattle.op_token_plans.specs.declared.incomings.IncomingAsked.{IncomingAsked}

-- a completion under a grant
abbrev pub completion : List Entry → (t : ℕ) → Option ℕ → (grant : ℕ) → Result (Option Act) Refusal
completion history t incoming grant = do
  it ← ok_or (found (incoming_row history) incoming) NotFound
  _ ← refuse_if (not (is_open history it.number it.row t)) AlreadyClosed
  Ok (Some (acts.IncomingCompleted grant it.number))

-- the making of a payment for an address, under a grant
abbrev pub making : List Entry → (t : ℕ) → Option ℕ → IncomingAsked → (grant : ℕ) → Result (Option Act) Refusal
making history t address asked grant = do
  n ← ok_or address NotFound
  _ ← refuse_if (option_map_or (is_strange_amount history) asked.amount false) NotFound
  _ ← incoming_refusals t (asset_of_address history n) asked.amount (expiry_of t asked.expiry)
  Ok (Some (acts.IncomingMade grant n (option_map (λ a. a.value) asked.amount) (expiry_of t asked.expiry) asked.metadata.now))

-- the plan of a new payment, with its number, the path of its address, and their asset
abbrev pub made_plan : (number : ℕ) → (path : List ℕ) → Asset → IncomingRow → Plan
made_plan number path asset row =
    Acts (acts.IncomingMade row.grant row.address row.amount row.expiry row.metadata)
    (bodies.IncomingMade (record {
      number = number;
      path = path;
      amount = option_map (λ value. record { value = value; asset = asset }) row.amount;
      received = record { value = 0; asset = asset };
      completed = false;
      made = row.made;
      expiry = row.expiry;
      metadata = row.metadata;
    }))
