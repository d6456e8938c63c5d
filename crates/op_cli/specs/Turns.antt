-- The parts of a turn.
use Rattle.std.specs.Prelude.{◌≡◌, ◌≢◌, ◌⊎◌, ◌+◌, ◌<◌, ℕ, Bool, List, [], ◌∷◌, ◌++◌, length}
use Rattle.std.specs.Io.KnownBytes.{Appends, Keeps}
use Rattle.std.specs.declared.option.Option.{Option}
use Rattle.std.specs.declared.result.Result.{Result}
use Rattle.op_desk.specs.Wallets.{Handles}
use Rattle.op_http.specs.Held.{Held}
use Rattle.op_http.specs.Reader.{stream}
use Rattle.op_http.specs.declared.reader.HttpFault.{HttpFault}
use Rattle.op_http.specs.declared.reader.HttpFault.TheVariants as http
use Rattle.op_ports.specs.Clock.{AsksKnown}
use Rattle.op_ports.specs.Sink.{AppendsFront}
use Rattle.op_ports.specs.Words.{DrawsKnown}
use Rattle.op_model.specs.History.{moment_of_turn}
use Rattle.op_session.specs.Built.{meant_so_far}
use Rattle.op_model.specs.Printed.{printed}
use Rattle.op_model.specs.Requests.{Raw}
use Rattle.op_model.specs.Round.{FeesAllowed, refusal_reply}
use Rattle.op_model.specs.Verdicts.{verdict_of}
use Rattle.op_model.specs.declared.act.Entry.{Entry}
use Rattle.op_model.specs.declared.reply.Reply.{Reply}
use Rattle.op_model.specs.declared.reply.Refusal.{Refusal}
use Rattle.op_model.specs.declared.reply.Refusal.TheVariants.{BadHttp, LengthRequired, RequestTooLarge, DiskFault, JournalFull}
use Rattle.op_model.specs.declared.request.Request.{Request}
use Rattle.op_model.specs.declared.request.Task.{Task}
use Rattle.op_model.specs.declared.request.Verdict.{Verdict}
use Rattle.op_session.specs.Session.{Final, Ends, Writing, settled, tried_after, unfit_after}
use Rattle.op_session.specs.Stood.{Stood, now, with_entries}
use Rattle.op_session.specs.Turn.{Standing, Turn, IsTurn, IsReplied, turn_limit}
use Rattle.op_session.specs.World.{World}
use Rattle.op_session.specs.declared.end.End.{End}
use Rattle.op_session.specs.declared.end.End.TheVariants as ends

-- where a session stands: what the reader holds is still to be read
abbrev pub here : Stood → Held → World → ℕ → Standing
here stood held world answered =
    record { stood = stood; answered = answered; at = held.at; world = record world { left = stream held world.left } }

-- from each count of requests below the limit, the one standing leads to the other by a turn
abbrev pub Turns : FeesAllowed → (old new : ℕ → Standing) → Type 0
Turns allows old new = (n : ℕ) → n < turn_limit → (turn : Turn) × IsTurn allows (old n) turn (new (n + 1))

-- from each count of requests below the limit, the session ends
abbrev pub Stops : FeesAllowed → (old : ℕ → Standing) → World → End → Final → Type 0
Stops allows old after end final = (n : ℕ) → n < turn_limit → Ends allows end (old n) after final

-- ---- one request, once it was read

-- a turn with these parts
abbrev pub turn_of : (text : List ℕ) → Raw → Verdict → ℕ → List ℕ → ℕ → Bool → Reply → Turn
turn_of text raw verdict answer word fee wanted reply =
    record { text = text; raw = raw; verdict = verdict; answer = answer; word = word; fee = fee; wanted_memory = wanted; reply = reply }

-- what was meant by whom has its reply, and adds these entries, in a turn at which the clock gave this answer and this word was
-- drawn
abbrev pub Answers : FeesAllowed → (old : List Entry) → Verdict → (answer : ℕ) (word : List ℕ) → Result Request Refusal → Reply → (entries : List Entry) → Type 0
Answers allows old verdict answer word asked reply entries =
    (fee : ℕ) × (wanted : Bool) × ((text : List ℕ) (raw : Raw) → IsReplied allows old (turn_of text raw verdict answer word fee wanted reply) asked (old ++ entries))

-- ---- a round of one task

-- the task is handled in a turn at which the clock gave this answer and this word was drawn, and its reply is written
abbrev pub Handled : FeesAllowed → (old entries : List Entry) (written written' : Option (List ℕ)) → ℕ → List ℕ → Task → Type 0
Handled allows old entries written written' answer word task =
    (reply : Reply) × Handles allows old (moment_of_turn old answer) 0 task word reply (old ++ entries) × Appends written written' (printed reply)

-- of a round of these entries with this text as its reply: what is written where the text is not, or not whole
abbrev pub NotStood : (old : Stood) (entries : List Entry) (written written' : Option (List ℕ)) → List ℕ → End → Final → Type 0
NotStood old entries written written' text ends.WriteFault final =
    (AppendsFront written written' text × (final ≡ settled (with_entries old entries)))
    ⊎ ((entries ≢ []) × AppendsFront written written' (printed (refusal_reply (now old) DiskFault)) × (final ≡ tried_after old (with_entries old entries)))
    ⊎ ((entries ≢ []) × AppendsFront written written' (printed (refusal_reply (now old) JournalFull)) × (final ≡ unfit_after old (with_entries old entries)))
NotStood old entries written written' text ends.DiskFault final =
    (entries ≢ []) × Appends written written' (printed (refusal_reply (now old) DiskFault)) × (final ≡ tried_after old (with_entries old entries))
NotStood old entries written written' text ends.JournalFull final =
    (entries ≢ []) × Appends written written' (printed (refusal_reply (now old) JournalFull)) × (final ≡ unfit_after old (with_entries old entries))
NotStood old entries written written' text _ final = ⊥

-- why a task's reply is not written whole
abbrev pub NotHandled : FeesAllowed → (old : Stood) (written written' : Option (List ℕ)) → ℕ → List ℕ → Task → End → Final → Type 0
NotHandled allows old written written' answer word task ends.OutOfMemory final = Keeps written written' × (final ≡ settled old)
NotHandled allows old written written' answer word task end final =
    (entries : List Entry) × (reply : Reply) × Handles allows (now old) (moment_of_turn (now old) answer) 0 task word reply (now old ++ entries)
    × NotStood old entries written written' (printed reply) end final

-- ---- what was meant, its reply, and how that is written

-- the reply is written
abbrev pub Told : FeesAllowed → (old entries : List Entry) (written written' : Option (List ℕ)) → Verdict → ℕ → List ℕ → Result Request Refusal → Type 0
Told allows old entries written written' verdict answer word asked =
    (reply : Reply) × Answers allows old verdict answer word asked reply entries × Appends written written' (printed reply)

-- some of it is written
abbrev pub CutShort : FeesAllowed → (old : Stood) (written written' : Option (List ℕ)) → Verdict → ℕ → List ℕ → Result Request Refusal → Final → Type 0
CutShort allows old written written' verdict answer word asked final =
    (entries : List Entry) × (reply : Reply) × Answers allows (now old) verdict answer word asked reply entries
    × AppendsFront written written' (printed reply) × (final ≡ settled (with_entries old entries))

-- the round failed on the disk, or had no room in the journal, and that is written
abbrev pub Lost : FeesAllowed → Writing → Refusal → (old : Stood) (written written' : Option (List ℕ)) → Verdict → ℕ → List ℕ → Result Request Refusal → (Stood → Final) → Final → Type 0
Lost allows writes refusal old written written' verdict answer word asked left final =
    (entries : List Entry) × (reply : Reply) × Answers allows (now old) verdict answer word asked reply entries × (entries ≢ [])
    × writes written written' (printed (refusal_reply (now old) refusal)) × (final ≡ left (with_entries old entries))

-- why the reply is not written whole
abbrev pub NotTold : FeesAllowed → (old : Stood) (written written' : Option (List ℕ)) → Verdict → ℕ → List ℕ → Result Request Refusal → End → Final → Type 0
NotTold allows old written written' verdict answer word asked ends.WriteFault final =
    CutShort allows old written written' verdict answer word asked final
    ⊎ Lost allows AppendsFront DiskFault old written written' verdict answer word asked (tried_after old) final
    ⊎ Lost allows AppendsFront JournalFull old written written' verdict answer word asked (unfit_after old) final
NotTold allows old written written' verdict answer word asked ends.DiskFault final = Lost allows Appends DiskFault old written written' verdict answer word asked (tried_after old) final
NotTold allows old written written' verdict answer word asked ends.JournalFull final = Lost allows Appends JournalFull old written written' verdict answer word asked (unfit_after old) final
NotTold allows old written written' verdict answer word asked ends.OutOfMemory final = Keeps written written' × (final ≡ settled old)
NotTold allows old written written' verdict answer word asked _ final = ⊥

-- ---- the same, once the clock was asked and a word was drawn

abbrev pub Replies : FeesAllowed → (old entries : List Entry) (w w' : World) → Raw → Type 0
Replies allows old entries w w' raw = (answer : ℕ) × (word : List ℕ) × AsksKnown w.answers w'.answers (answer ∷ []) × DrawsKnown w.words w'.words (word ∷ []) × (length word ≡ 16)
    × Told allows old entries w.written w'.written (verdict_of w.accepts raw) answer word (meant_so_far raw)

abbrev pub ReplyFails : FeesAllowed → (old : Stood) (w w' : World) → Raw → End → Final → Type 0
ReplyFails allows old w w' raw ends.WordsFault final = (answer : ℕ) × AsksKnown w.answers w'.answers (answer ∷ []) × DrawsKnown w.words w'.words []
    × Keeps w.written w'.written × (final ≡ settled old)
ReplyFails allows old w w' raw end final = (answer : ℕ) × (word : List ℕ) × AsksKnown w.answers w'.answers (answer ∷ []) × DrawsKnown w.words w'.words (word ∷ []) × (length word ≡ 16)
    × NotTold allows old w.written w'.written (verdict_of w.accepts raw) answer word (meant_so_far raw) end final

-- a reply that is no act's is not written whole
abbrev pub NotWritten : Reply → (written written' : Option (List ℕ)) → End → Type 0
NotWritten reply written written' ends.WriteFault = AppendsFront written written' (printed reply)
NotWritten reply written written' ends.OutOfMemory = Keeps written written'
NotWritten reply written written' _ = ⊥

-- the last refusal is written, in part or whole
abbrev pub RefusalEnds : Reply → (written written' : Option (List ℕ)) → End → Type 0
RefusalEnds reply written written' ends.Malformed = Appends written written' (printed reply)
RefusalEnds reply written written' ends.WriteFault = AppendsFront written written' (printed reply)
RefusalEnds reply written written' ends.OutOfMemory = Keeps written written'
RefusalEnds reply written written' _ = ⊥

-- what is written where no request was read, and how the session ends
abbrev pub Unread : List Entry → HttpFault → (written written' : Option (List ℕ)) → End → Type 0
Unread old (http.BadHttp at) written written' end = RefusalEnds (refusal_reply old (BadHttp at)) written written' end
Unread old (http.LengthRequired at) written written' end = RefusalEnds (refusal_reply old (LengthRequired at)) written written' end
Unread old (http.TooLarge at) written written' end = RefusalEnds (refusal_reply old (RequestTooLarge at)) written written' end
Unread old http.ReadFault written written' end = (end ≡ ends.ReadFault) × Keeps written written'
Unread old http.Memory written written' end = (end ≡ ends.OutOfMemory) × Keeps written written'
