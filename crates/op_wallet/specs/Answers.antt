-- What a wallet answers.
use Rattle.std.specs.Prelude.{ℕ, Bool, false, ◌||◌, List, ◌++◌}
use Rattle.std.specs.Option.{option_to_list}
use Rattle.std.specs.declared.option.Option.{Option}
use Rattle.op_grant_plans.specs.GrantPlans.{is_grant_request}
use Rattle.op_model.specs.History.{origin_of}
use Rattle.op_model.specs.Round.{FeesAllowed, Handled, IsHandledNext}
use Rattle.op_model.specs.declared.act.Entry.{Entry}
use Rattle.op_model.specs.declared.reply.Reply.{Reply}
use Rattle.op_model.specs.declared.reply.ReplyBody.{ReplyBody}
use Rattle.op_model.specs.declared.request.Request.{Request}
use Rattle.op_model.specs.declared.request.Task.{Task}
use Rattle.op_model.specs.declared.request.Task.TheVariants.{Ask}
use Rattle.op_money_plans.specs.Requests.{is_money_request}
use Rattle.op_plans.specs.Plans.{is_provider_request}
use Rattle.op_token_plans.specs.Requests.{is_token_request}

-- ---- what is built so far

abbrev pub is_built_request : Request → Bool
is_built_request request = is_provider_request request || (is_money_request request || (is_grant_request request || is_token_request request))

abbrev pub is_built_task : Task → Bool
is_built_task (Ask request verdict) = is_built_request request
is_built_task _ = false

-- ---- answers

-- a reply on a history
abbrev pub reply_with : List Entry → ReplyBody → Reply
reply_with history body = record { origin = origin_of history; body = body }

-- the history with the entry at its end, if there is one
abbrev pub with_entry : List Entry → Option Entry → List Entry
with_entry history entry = history ++ option_to_list entry

-- a task as it was handled, at this place of its round
abbrev pub handled_at : (place : ℕ) → Task → (word : List ℕ) → (fee : ℕ) → (wanted : Bool) → Reply → Handled
handled_at place task word fee wanted reply =
    record { task = task; word = word; fee = fee; place = place; wanted_memory = wanted; reply = reply }

-- the plain wallet's answer to a task at a moment, at this place of its round and with a fee that the terms allow, or want of memory
abbrev pub Handles : FeesAllowed → (old : List Entry) → (t place : ℕ) → Task → (word : List ℕ) → Reply → (new : List Entry) → Type 0
Handles allows old t place task word reply new =
    (fee : ℕ) × (wanted : Bool) × IsHandledNext allows old t (handled_at place task word fee wanted reply) new
