-- Under which grant a client asks, and whether its access passes.
use Rattle.std.specs.Prelude.{ℕ, List, Some, None, Ok, Err}
use Rattle.std.specs.declared.option.Option.{Option}
use Rattle.std.specs.declared.result.Result.{Result}
use Rattle.op_model.specs.Access.{Looked}
use Rattle.op_model.specs.Asking.{◌>>=◌, Caller, caller, access}
use Rattle.op_model.specs.declared.act.Act.{Act}
use Rattle.op_model.specs.declared.act.Entry.{Entry}
use Rattle.op_model.specs.declared.reply.Refusal.{Refusal}
use Rattle.op_model.specs.declared.request.Verdict.{Verdict}

-- the number of its grant
abbrev pub number_of : Result Caller Refusal → Result ℕ Refusal
number_of (Ok who) = Ok who.grant
number_of (Err refusal) = Err refusal

-- a caller whose access passes
abbrev pub admission : List Entry → ℕ → Verdict → Looked → Result Caller Refusal
admission history t verdict looked = do
  who ← caller history t verdict
  _ ← access history t verdict who looked
  Ok who

-- nothing is changed, unless the request is refused
abbrev pub unless_refused : Option Refusal → Result (Option Act) Refusal
unless_refused None = Ok None
unless_refused (Some refusal) = Err refusal
