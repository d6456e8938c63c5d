-- Every reply can be printed.
use Rattle.std.specs.Prelude.{ℕ, List, IsTrue}
use Rattle.op_model.specs.Answer.{answer}
use Rattle.op_model.specs.Legal.{IsLegal, keeps_forms}
use Rattle.op_model.specs.Round.{refusal_reply}
use Rattle.op_model.specs.declared.act.Entry.{Entry}
use Rattle.op_model.specs.declared.reply.Refusal.{Refusal}
use Rattle.op_model.specs.declared.request.Request.{Request}
use Rattle.op_model.specs.declared.request.Task.TheVariants.{Ask}
use Rattle.op_model.specs.declared.request.Verdict.{Verdict}
use Rattle.op_reply.specs.Printable.{IsPrintable, IsRefusalText}

-- the reply to a request that keeps its forms, on a legal history, whoever asks, at any moment, with any word and any fee
abbrev pub RepliesArePrintable : Type 0
RepliesArePrintable =
    (history : List Entry) (t : ℕ) (word : List ℕ) (fee : ℕ) (request : Request) (verdict : Verdict) →
    IsLegal history → IsTrue (keeps_forms request) → IsPrintable (answer history t word fee (Ask request verdict)).reply

-- the reply that refuses, on a legal history, with a refusal whose name is a text
abbrev pub RefusalsArePrintable : Type 0
RefusalsArePrintable = (history : List Entry) (refusal : Refusal) → IsLegal history → IsRefusalText refusal → IsPrintable (refusal_reply history refusal)
