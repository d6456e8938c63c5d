-- A turn: one request, from its bytes to its reply.
use Rattle.std.specs.Prelude.{◌≡◌, ◌+◌, ◌<◌, ℕ, Bool, if◌then◌else◌, List, [], ◌∷◌, ◌++◌, length, Ok, Err}
use Rattle.std.specs.Io.KnownBytes.{Consumes, Appends}
use Rattle.std.specs.declared.result.Result.{Result}
use Rattle.op_ports.specs.Clock.{AsksKnown}
use Rattle.op_ports.specs.Words.{DrawsKnown}
use Rattle.op_model.specs.History.{moment_of_turn}
use Rattle.op_model.specs.Printed.{printed}
use Rattle.op_model.specs.Round.{FeesAllowed, Handled, IsPlainRound, refusal_reply}
use Rattle.op_model.specs.Requests.{Raw, IsWholeRequest}
use Rattle.op_model.specs.Verdicts.{verdict_of}
use Rattle.op_model.specs.declared.act.Entry.{Entry}
use Rattle.op_model.specs.declared.reply.Reply.{Reply}
use Rattle.op_model.specs.declared.reply.Refusal.{Refusal}
use Rattle.op_model.specs.declared.reply.Refusal.TheVariants.{Memory}
use Rattle.op_model.specs.declared.request.Request.{Request}
use Rattle.op_model.specs.declared.request.Task.TheVariants.{Ask}
use Rattle.op_model.specs.declared.request.Verdict.{Verdict}
use Rattle.op_session.specs.Built.{meant_so_far}
use Rattle.op_session.specs.Stood.{Stood, now, with_entries}
use Rattle.op_session.specs.World.{World}

-- the most requests of one session
abbrev pub turn_limit : ℕ
turn_limit = 1000000000

pub record Turn : Type 0 where
  -- the request's bytes in the stream, and its parts
  pub text : List ℕ
  pub raw : Raw
  -- who asks
  pub verdict : Verdict
  -- what the clock answered
  pub answer : ℕ
  -- what was drawn
  pub word : List ℕ
  -- what the fee rule answered, where it was asked
  pub fee : ℕ
  pub wanted_memory : Bool
  pub reply : Reply

-- ---- what a request is replied, and what it adds

-- the turn's one task, as it was handled: at the place before its act
abbrev pub handled : Request → Turn → Handled
handled request turn = record {
  task = Ask request turn.verdict;
  word = turn.word;
  fee = turn.fee;
  place = 0;
  wanted_memory = turn.wanted_memory;
  reply = turn.reply;
}

-- A request that is understood is a round of one task, under the terms of the fee rule. Any other has its refusal, and adds nothing.
-- Want of memory may stand in place of either reply.
abbrev pub IsReplied : FeesAllowed → (old : List Entry) → Turn → Result Request Refusal → (new : List Entry) → Type 0
IsReplied allows old turn (Ok request) new =
    IsPlainRound allows (length old) old (moment_of_turn old turn.answer) (handled request turn ∷ []) new
IsReplied allows old turn (Err refusal) new =
    (turn.reply ≡ refusal_reply old (if turn.wanted_memory then Memory else refusal)) × (new ≡ old)

-- ---- where a session stands between two turns

pub record Standing : Type 0 where
  pub stood : Stood
  -- how many requests were answered
  pub answered : ℕ
  -- where the next one begins in the stream
  pub at : ℕ
  -- what is left to read begins with it
  pub world : World

-- A request is read, the clock is asked and a word is drawn, once each, and the request is answered. The reply is not
-- written yet.
pub record Begins (allows : FeesAllowed) (old : Standing) (turn : Turn) (new : Standing) : Type 0 where
  pub limit : old.answered < turn_limit
  pub spelled : IsWholeRequest turn.text turn.raw
  pub judged : turn.verdict ≡ verdict_of old.world.accepts turn.raw
  pub read : Consumes old.world.left new.world.left turn.text
  pub asked : AsksKnown old.world.answers new.world.answers (turn.answer ∷ [])
  pub drawn : DrawsKnown old.world.words new.world.words (turn.word ∷ [])
  pub whole : length turn.word ≡ 16
  -- its round: what it adds to the history, all of it or none
  pub entries : List Entry
  pub replied : IsReplied allows (now old.stood) turn (meant_so_far turn.raw) (now old.stood ++ entries)
  pub stands : new.stood ≡ with_entries old.stood entries
  pub counted : new.answered ≡ old.answered + 1
  pub moved : new.at ≡ old.at + length turn.text
  pub verifier : new.world.accepts ≡ old.world.accepts

-- a whole turn
pub record IsTurn (allows : FeesAllowed) (old : Standing) (turn : Turn) (new : Standing) : Type 0 where
  pub begun : Begins allows old turn new
  pub written : Appends old.world.written new.world.written (printed turn.reply)

-- turns, one after another
abbrev pub Run : FeesAllowed → Standing → List Turn → Standing → Type 0
Run allows first [] last = last ≡ first
Run allows first (turn ∷ turns) last = (mid : Standing) × IsTurn allows first turn mid × Run allows mid turns last
