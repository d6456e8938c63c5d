-- Sessions: turns, and then the one way in which it ends.
use Rattle.std.specs.Prelude.{◌≡◌, ◌≢◌, ◌<◌, ◌≤◌, ℕ, ◌⊎◌, List, [], ◌∷◌, ◌++◌, length, Some, IfSome, ⊤}
use Rattle.std.specs.List.{flat_map}
use Rattle.std.specs.Io.KnownBytes.{Consumes, Appends, Keeps, IsAtEnd}
use Rattle.std.specs.declared.option.Option.{Option}
use Rattle.op_ports.specs.Clock.{AsksKnown}
use Rattle.op_ports.specs.Sink.{AppendsFront}
use Rattle.op_ports.specs.Words.{DrawsKnown}
use Rattle.op_model.specs.Printed.{printed}
use Rattle.op_model.specs.Requests.{IsWholeRequest, IsEnded, IsBadHttp, IsLengthRequired, IsTooLarge, BeginsWithNoRequest, Raw}
use Rattle.op_model.specs.Round.{FeesAllowed, refusal_reply}
use Rattle.op_model.specs.declared.act.Entry.{Entry}
use Rattle.op_model.specs.declared.reply.Refusal.{Refusal}
use Rattle.op_model.specs.declared.reply.Refusal.TheVariants.{BadHttp, LengthRequired, RequestTooLarge, DiskFault, JournalFull}
use Rattle.op_session.specs.Stood.{Stood, now, opened_with}
use Rattle.op_session.specs.Turn.{Standing, Turn, Begins, Run, turn_limit}
use Rattle.op_session.specs.World.{World}
use Rattle.op_session.specs.declared.end.End.{End}
use Rattle.op_session.specs.declared.end.End.TheVariants as ends

-- ---- what there is at the end

-- what was read, asked and drawn behind the last whole turn
pub record Since : Type 0 where
  pub held : List ℕ
  pub asked : List ℕ
  pub drawn : List (List ℕ)

-- What stands; what a commit that failed may have left on the disk in its place; and what did not fit in the journal. Where no
-- commit failed, or all fitted, these are what stands.
pub record Final : Type 0 where
  pub stands : Stood
  pub tried : Stood
  pub unfit : Stood

abbrev pub settled : Stood → Final
settled stood = record { stands = stood; tried = stood; unfit = stood }

-- the new one was tried
abbrev pub tried_after : (old new : Stood) → Final
tried_after old new = record { stands = old; tried = new; unfit = old }

-- the new one did not fit
abbrev pub unfit_after : (old new : Stood) → Final
unfit_after old new = record { stands = old; tried = old; unfit = new }

-- how much of a reply was written: all of it, or some of its front
abbrev pub Writing : Type 1
Writing = (old new : Option (List ℕ)) → List ℕ → Type 0

-- ---- the ways in which it ends

-- nothing was asked, drawn, written or added since
pub record IsIdle (last : Standing) (after : World) (since : Since) (final : Final) : Type 0 where
  pub unasked : since.asked ≡ []
  pub undrawn : since.drawn ≡ []
  pub unwritten : Keeps last.world.written after.written
  pub same : final ≡ settled last.stood

-- a further request was read and answered
pub record AnswersOne (allows : FeesAllowed) (last : Standing) (turn : Turn) (mid : Standing) (since : Since) : Type 0 where
  pub begun : Begins allows last turn mid
  -- what was read behind it
  pub more : List ℕ
  pub read : since.held ≡ turn.text ++ more
  pub asked : since.asked ≡ turn.answer ∷ []
  pub drawn : since.drawn ≡ turn.word ∷ []

-- some of its reply was written; its act stands
abbrev pub CutsReply : FeesAllowed → Standing → World → Since → Final → Type 0
CutsReply allows last after since final = (turn : Turn) × (mid : Standing) × AnswersOne allows last turn mid since
    × AppendsFront last.world.written after.written (printed turn.reply) × (final ≡ settled mid.stood)

-- its round, which has entries, did not come to stand
pub record LosesRound (allows : FeesAllowed) (last mid : Standing) (since : Since) : Type 0 where
  pub turn : Turn
  pub answered : AnswersOne allows last turn mid since
  pub acted : answered.begun.entries ≢ []

-- the commit failed on the disk, and that is replied
abbrev pub FailsOnDisk : FeesAllowed → Writing → Standing → World → Since → Final → Type 0
FailsOnDisk allows writes last after since final = (mid : Standing) × LosesRound allows last mid since
    × writes last.world.written after.written (printed (refusal_reply (now last.stood) DiskFault))
    × (final ≡ tried_after last.stood mid.stood)

-- the round does not fit in the journal, and that is replied
abbrev pub FailsForRoom : FeesAllowed → Writing → Standing → World → Since → Final → Type 0
FailsForRoom allows writes last after since final = (mid : Standing) × LosesRound allows last mid since
    × writes last.world.written after.written (printed (refusal_reply (now last.stood) JournalFull))
    × (final ≡ unfit_after last.stood mid.stood)

-- a stream, where it is told, goes on from this offset with what is refused so
abbrev pub IsRefusal : Refusal → ℕ → Option (List ℕ) → Type 0
IsRefusal (BadHttp place) at left = (place ≡ at) × IfSome left IsBadHttp
IsRefusal (LengthRequired place) at left = (place ≡ at) × IfSome left IsLengthRequired
IsRefusal (RequestTooLarge place) at left = (place ≡ at) × IfSome left IsTooLarge
IsRefusal _ at left = ⊥

-- what is left begins with no request, and that is replied; neither the clock is asked nor a word drawn
abbrev pub Refuses : Writing → Standing → World → Since → Final → Type 0
Refuses writes last after since final = (refusal : Refusal) × (last.answered < turn_limit)
    × IsRefusal refusal last.at last.world.left × (since.asked ≡ []) × (since.drawn ≡ [])
    × writes last.world.written after.written (printed (refusal_reply (now last.stood) refusal)) × (final ≡ settled last.stood)

-- a request was read and the clock was asked, but no word was drawn
pub record DrawsNone (last : Standing) (after : World) (since : Since) (final : Final) : Type 0 where
  pub limit : last.answered < turn_limit
  pub text : List ℕ
  pub raw : Raw
  pub spelled : IsWholeRequest text raw
  pub more : List ℕ
  pub read : since.held ≡ text ++ more
  pub asked : length since.asked ≡ 1
  pub undrawn : since.drawn ≡ []
  pub unwritten : Keeps last.world.written after.written
  pub same : final ≡ settled last.stood

-- why it ends
abbrev pub Cause : FeesAllowed → End → Standing → World → Since → Final → Type 0
Cause allows ends.Done last after since final =
    (last.answered < turn_limit) × IsEnded since.held × IsAtEnd after.left × IsIdle last after since final
Cause allows ends.Malformed last after since final = Refuses Appends last after since final
Cause allows ends.TurnLimit last after since final = (last.answered ≡ turn_limit) × IsIdle last after since final
-- what was read since begins with no request, so each request that was read whole has its reply
Cause allows ends.ReadFault last after since final =
    (last.answered < turn_limit) × BeginsWithNoRequest since.held × IsIdle last after since final
Cause allows ends.WordsFault last after since final = DrawsNone last after since final
Cause allows ends.DiskFault last after since final = FailsOnDisk allows Appends last after since final
Cause allows ends.JournalFull last after since final = FailsForRoom allows Appends last after since final
-- a reply, the last refusal, or the reply to a round that does not stand
Cause allows ends.WriteFault last after since final =
    CutsReply allows last after since final ⊎ Refuses AppendsFront last after since final
    ⊎ FailsOnDisk allows AppendsFront last after since final ⊎ FailsForRoom allows AppendsFront last after since final
Cause allows ends.OutOfMemory last after since final =
    (length since.asked ≤ 1) × (length since.drawn ≤ 1) × Keeps last.world.written after.written × (final ≡ settled last.stood)

-- how it ends after its last whole turn
pub record Ends (allows : FeesAllowed) (end : End) (last : Standing) (after : World) (final : Final) : Type 0 where
  -- read, asked and drawn, but not answered whole
  pub since : Since
  pub read : Consumes last.world.left after.left since.held
  pub clock : AsksKnown last.world.answers after.answers since.asked
  pub draws : DrawsKnown last.world.words after.words since.drawn
  pub cause : Cause allows end last after since final

-- ---- the whole

-- under the terms of the fee rule
pub record Session (allows : FeesAllowed) (first : Standing) (after : World) (end : End) (final : Final) : Type 0 where
  pub turns : List Turn
  pub last : Standing
  pub run : Run allows first turns last
  pub ends : Ends allows end last after final

-- at the beginning: the history that was found, and nothing read yet
abbrev pub begun : List Entry → World → Standing
begun history world = record { stood = opened_with history; answered = 0; at = 0; world = world }

-- ---- completeness: over a stream that is told, what is written follows from what is read

abbrev pub texts : List Turn → List ℕ
texts turns = flat_map (λ turn. turn.text) turns

abbrev pub replies : List Turn → List ℕ
replies turns = flat_map (λ turn. printed turn.reply) turns

-- the bytes that were written in a session: the replies to its requests, and whatever stands behind them
pub record IsAnswered (turns : List Turn) (bytes rest old : List ℕ) (new : Option (List ℕ)) (behind : List ℕ) : Type 0 where
  pub read : bytes ≡ texts turns ++ rest
  pub written : new ≡ Some (old ++ (replies turns ++ behind))

-- A session that ended for no fault, no want of memory and no want of room: the whole stream was requests, and each has
-- its reply; a rest that is refused has its refusal.
abbrev pub IsComplete : End → List Turn → Final → (bytes old : List ℕ) → Option (List ℕ) → Type 0
IsComplete ends.Done turns final bytes old new = (rest : List ℕ) × IsEnded rest × IsAnswered turns bytes rest old new []
IsComplete ends.Malformed turns final bytes old new =
    (rest : List ℕ) × (refusal : Refusal) × IsRefusal refusal (length (texts turns)) (Some rest)
    × IsAnswered turns bytes rest old new (printed (refusal_reply (now final.stands) refusal))
IsComplete ends.TurnLimit turns final bytes old new =
    (rest : List ℕ) × (length turns ≡ turn_limit) × IsAnswered turns bytes rest old new []
IsComplete _ turns final bytes old new = ⊤

-- where the stream and what was written are told
abbrev pub IsCompleteKnown : End → List Turn → Final → World → World → Type 0
IsCompleteKnown end turns final before after =
    (bytes old : List ℕ) → before.left ≡ Some bytes → before.written ≡ Some old → IsComplete end turns final bytes old after.written
