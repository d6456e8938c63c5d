-- What acts is not refused.
use Rattle.std.specs.Prelude.{◌≡◌, ◌≢◌, ℕ, List, Some}
use Rattle.op_model.specs.Answer.{answer}
use Rattle.op_model.specs.declared.act.Act.{Act}
use Rattle.op_model.specs.declared.act.Entry.{Entry}
use Rattle.op_model.specs.declared.reply.Refusal.{Refusal}
use Rattle.op_model.specs.declared.reply.ReplyBody.TheVariants.{Refused}
use Rattle.op_model.specs.declared.request.Task.{Task}

-- the reply of an answer with an act is no refusal
abbrev pub ActsAreNotRefused : Type 0
ActsAreNotRefused =
    (history : List Entry) (t : ℕ) (word : List ℕ) (fee : ℕ) (task : Task) (act : Act) (refusal : Refusal) →
    (answer history t word fee task).act ≡ Some act → (answer history t word fee task).reply.body ≢ Refused refusal
