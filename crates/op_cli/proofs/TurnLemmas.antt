-- What a turn's parts make.
use Rattle.std.proofs.Common.{◌≡◌, ◌≢◌, ◌≤◌, ◌<◌, ◌+◌, ◌++◌, ℕ, List, [], ◌∷◌, length, Some, None, refl, sym, ap, subst, ◌∙◌, arith, append_assoc, inl, inr}
use Rattle.std.specs.declared.option.Option.{Option}
use Rattle.std.specs.Io.KnownBytes.{Consumes, Appends, Keeps}
use Rattle.op_http.specs.Held.{Held}
use Rattle.op_http.specs.Reader.{stream, Takes, Stays, HasEnded, Refuses}
use Rattle.op_http.specs.declared.reader.HttpFault.{HttpFault}
use Rattle.op_http.specs.declared.reader.HttpFault.TheVariants as http
use Rattle.op_ports.specs.Clock.{AsksKnown}
use Rattle.op_ports.specs.Sink.{AppendsFront}
use Rattle.op_ports.specs.Words.{DrawsKnown}
use Rattle.op_session.specs.Built.{meant_so_far}
use Rattle.op_model.specs.Printed.{printed}
use Rattle.op_model.specs.Requests.{Raw, BeginsWithNoRequest, head_limit, body_limit}
use Rattle.op_model.specs.Round.{FeesAllowed, refusal_reply}
use Rattle.op_model.specs.Verdicts.{verdict_of}
use Rattle.op_model.specs.declared.act.Entry.{Entry}
use Rattle.op_model.specs.declared.reply.Reply.{Reply}
use Rattle.op_model.specs.declared.reply.Refusal.{Refusal}
use Rattle.op_model.specs.declared.reply.Refusal.TheVariants as refusals
use Rattle.op_session.specs.Session.{Final, Ends, Cause, AnswersOne, LosesRound, IsRefusal, settled}
use Rattle.op_session.specs.Stood.{Stood, now, with_entries}
use Rattle.op_session.specs.Turn.{Turn, Begins, IsTurn, turn_limit}
use Rattle.op_session.specs.World.{World}
use Rattle.op_session.specs.declared.end.End.{End}
use Rattle.op_session.specs.declared.end.End.TheVariants as ends
use Rattle.op_cli.specs.Turns.{here, Turns, Stops, turn_of, Answers, NotTold, Replies, ReplyFails, RefusalEnds, Unread}

pub asks_none : (told : Option (List ℕ)) → AsksKnown told told []
asks_none None = tt
asks_none (Some xs) = refl

pub draws_none : (told : Option (List (List ℕ))) → DrawsKnown told told []
draws_none None = tt
draws_none (Some xs) = refl

pub keeps_same : (known : Option (List ℕ)) → Keeps known known
keeps_same None = tt
keeps_same (Some xs) = refl

consumes_trans : (a b c : Option (List ℕ)) (x y : List ℕ) → Consumes a b x → Consumes b c y → Consumes a c (x ++ y)
consumes_trans None b c x y p q = tt
consumes_trans (Some xs) None c x y p q = absurd p
consumes_trans (Some xs) (Some ys) None x y p q = absurd q
consumes_trans (Some xs) (Some ys) (Some zs) x y p q = p ∙ ap (λ k. x ++ k) q ∙ sym (append_assoc x y zs)

-- what is held is consumed first
pub consumes_held : (held : Held) (left : Option (List ℕ)) → Consumes (stream held left) left held.bytes
consumes_held held None = tt
consumes_held held (Some ys) = refl

-- where nothing is taken, what is held was read
stays_read : (h h' : Held) (left left' : Option (List ℕ)) → Stays h h' left left' → Consumes (stream h left) left' h'.bytes
stays_read h h' left left' same = consumes_trans (stream h left) (stream h' left') left' [] h'.bytes same.0 (consumes_held h' left')

-- ---- the clock was asked and a word was drawn, but the reply is not written whole

pub reply_fails : (allows : FeesAllowed) (old : Stood) (w w' : World) (raw : Raw) (end : End) (final : Final) (answer : ℕ) (word : List ℕ) → AsksKnown w.answers w'.answers (answer ∷ []) → DrawsKnown w.words w'.words (word ∷ []) → length word ≡ 16
    → NotTold allows old w.written w'.written (verdict_of w.accepts raw) answer word (meant_so_far raw) end final → ReplyFails allows old w w' raw end final
reply_fails allows old w w' raw ends.WordsFault final answer word asks draws sized told = absurd told
reply_fails allows old w w' raw ends.Done final answer word asks draws sized told = (answer, word, asks, draws, sized, told)
reply_fails allows old w w' raw ends.ReadFault final answer word asks draws sized told = (answer, word, asks, draws, sized, told)
reply_fails allows old w w' raw ends.DiskFault final answer word asks draws sized told = (answer, word, asks, draws, sized, told)
reply_fails allows old w w' raw ends.WriteFault final answer word asks draws sized told = (answer, word, asks, draws, sized, told)
reply_fails allows old w w' raw ends.JournalFull final answer word asks draws sized told = (answer, word, asks, draws, sized, told)
reply_fails allows old w w' raw ends.OutOfMemory final answer word asks draws sized told = (answer, word, asks, draws, sized, told)
reply_fails allows old w w' raw ends.Malformed final answer word asks draws sized told = (answer, word, asks, draws, sized, told)
reply_fails allows old w w' raw ends.TurnLimit final answer word asks draws sized told = (answer, word, asks, draws, sized, told)

-- ---- a request was taken

module _ (allows : FeesAllowed) (old : Stood) (h h' : Held) (w w' : World) (raw : Raw) (takes : Takes h h' w.left w'.left raw) (same : w'.accepts ≡ w.accepts) (n : ℕ) (below : n < turn_limit) where
  begins : (entries : List Entry) (answer : ℕ) (word : List ℕ) (reply : Reply) → AsksKnown w.answers w'.answers (answer ∷ []) → DrawsKnown w.words w'.words (word ∷ []) → length word ≡ 16 → (answers : Answers allows (now old) (verdict_of w.accepts raw) answer word (meant_so_far raw) reply entries)
      → Begins allows (here old h w n) (turn_of takes.text raw (verdict_of w.accepts raw) answer word answers.0 answers.1 reply) (here (with_entries old entries) h' w' (n + 1))
  begins entries answer word reply asks draws sized answers = record {
    limit = below;
    spelled = takes.request;
    judged = refl;
    read = takes.taken;
    asked = asks;
    drawn = draws;
    whole = sized;
    entries = entries;
    replied = answers.2 takes.text raw;
    stands = refl;
    counted = refl;
    moved = takes.at;
    verifier = same;
  }

  read_since : Consumes (stream h w.left) w'.left (takes.text ++ h'.bytes)
  read_since = consumes_trans (stream h w.left) (stream h' w'.left) w'.left takes.text h'.bytes takes.taken (consumes_held h' w'.left)

  answers_one : (entries : List Entry) (answer : ℕ) (word : List ℕ) (reply : Reply) → AsksKnown w.answers w'.answers (answer ∷ []) → DrawsKnown w.words w'.words (word ∷ []) → length word ≡ 16 → (answers : Answers allows (now old) (verdict_of w.accepts raw) answer word (meant_so_far raw) reply entries)
      → AnswersOne allows (here old h w n) (turn_of takes.text raw (verdict_of w.accepts raw) answer word answers.0 answers.1 reply) (here (with_entries old entries) h' w' (n + 1)) (record { held = takes.text ++ h'.bytes; asked = answer ∷ []; drawn = word ∷ [] })
  answers_one entries answer word reply asks draws sized answers = record {
    begun = begins entries answer word reply asks draws sized answers;
    more = h'.bytes;
    read = refl;
    asked = refl;
    drawn = refl;
  }

  pub turns_now : (entries : List Entry) → Replies allows (now old) entries w w' raw → (turn : Turn) × IsTurn allows (here old h w n) turn (here (with_entries old entries) h' w' (n + 1))
  turns_now entries (answer, word, asks, draws, sized, (reply, answers, written)) =
      (turn_of takes.text raw (verdict_of w.accepts raw) answer word answers.0 answers.1 reply, record { begun = begins entries answer word reply asks draws sized answers; written = written })

  -- its act did not come to stand
  loses : (entries : List Entry) (answer : ℕ) (word : List ℕ) (reply : Reply) → AsksKnown w.answers w'.answers (answer ∷ []) → DrawsKnown w.words w'.words (word ∷ []) → length word ≡ 16 → (answers : Answers allows (now old) (verdict_of w.accepts raw) answer word (meant_so_far raw) reply entries) → entries ≢ []
      → LosesRound allows (here old h w n) (here (with_entries old entries) h' w' (n + 1)) (record { held = takes.text ++ h'.bytes; asked = answer ∷ []; drawn = word ∷ [] })
  unfolding answers_one begins
  loses entries answer word reply asks draws sized answers some = record {
    turn = turn_of takes.text raw (verdict_of w.accepts raw) answer word answers.0 answers.1 reply;
    answered = answers_one entries answer word reply asks draws sized answers;
    acted = some;
  }

  ended : (end : End) (final : Final) (answer : ℕ) (word : List ℕ) → AsksKnown w.answers w'.answers (answer ∷ []) → DrawsKnown w.words w'.words (word ∷ [])
      → Cause allows end (here old h w n) w' (record { held = takes.text ++ h'.bytes; asked = answer ∷ []; drawn = word ∷ [] }) final → Ends allows end (here old h w n) w' final
  ended end final answer word asks draws cause = record {
    since = record { held = takes.text ++ h'.bytes; asked = answer ∷ []; drawn = word ∷ [] };
    read = read_since;
    clock = asks;
    draws = draws;
    cause = cause;
  }

  -- the request was taken, and its reply not written whole
  pub fails_now : (end : End) (final : Final) → ReplyFails allows old w w' raw end final → Ends allows end (here old h w n) w' final
  fails_now ends.WriteFault final (answer, word, asks, draws, sized, inl (entries, reply, answers, written, is)) =
      ended ends.WriteFault final answer word asks draws (inl (turn_of takes.text raw (verdict_of w.accepts raw) answer word answers.0 answers.1 reply, here (with_entries old entries) h' w' (n + 1), answers_one entries answer word reply asks draws sized answers, written, is))
  fails_now ends.WriteFault final (answer, word, asks, draws, sized, inr (inl (entries, reply, answers, some, written, is))) =
      ended ends.WriteFault final answer word asks draws (inr (inr (inl (here (with_entries old entries) h' w' (n + 1), loses entries answer word reply asks draws sized answers some, written, is))))
  fails_now ends.WriteFault final (answer, word, asks, draws, sized, inr (inr (entries, reply, answers, some, written, is))) =
      ended ends.WriteFault final answer word asks draws (inr (inr (inr (here (with_entries old entries) h' w' (n + 1), loses entries answer word reply asks draws sized answers some, written, is))))
  fails_now ends.DiskFault final (answer, word, asks, draws, sized, (entries, reply, answers, some, written, is)) =
      ended ends.DiskFault final answer word asks draws (here (with_entries old entries) h' w' (n + 1), loses entries answer word reply asks draws sized answers some, written, is)
  fails_now ends.JournalFull final (answer, word, asks, draws, sized, (entries, reply, answers, some, written, is)) =
      ended ends.JournalFull final answer word asks draws (here (with_entries old entries) h' w' (n + 1), loses entries answer word reply asks draws sized answers some, written, is)
  fails_now ends.OutOfMemory final (answer, word, asks, draws, sized, (unwritten, is)) =
      ended ends.OutOfMemory final answer word asks draws (omega arith, omega arith, unwritten, is)
  fails_now ends.WordsFault final (answer, asks, draws, unwritten, is) = record {
    since = record { held = takes.text ++ h'.bytes; asked = answer ∷ []; drawn = [] };
    read = read_since;
    clock = asks;
    draws = draws;
    cause = record {
      limit = below;
      text = takes.text;
      raw = raw;
      spelled = takes.request;
      more = h'.bytes;
      read = refl;
      asked = refl;
      undrawn = refl;
      unwritten = unwritten;
      same = is;
    };
  }
  fails_now ends.Done final fails = absurd fails.5
  fails_now ends.ReadFault final fails = absurd fails.5
  fails_now ends.Malformed final fails = absurd fails.5
  fails_now ends.TurnLimit final fails = absurd fails.5

module _ (allows : FeesAllowed) (old : Stood) (h h' : Held) (w w' : World) (raw : Raw) where
  pub turns : (entries : List Entry) → Takes h h' w.left w'.left raw → w'.accepts ≡ w.accepts → Replies allows (now old) entries w w' raw → Turns allows (here old h w) (here (with_entries old entries) h' w')
  turns entries takes same replies n below = turns_now allows old h h' w w' raw takes same n below entries replies

  pub fails : (end : End) (final : Final) → Takes h h' w.left w'.left raw → w'.accepts ≡ w.accepts → ReplyFails allows old w w' raw end final → Stops allows (here old h w) w' end final
  fails end final takes same failed n below = fails_now allows old h h' w w' raw takes same n below end final failed

-- ---- no request was taken

module _ (allows : FeesAllowed) (old : Stood) (h h' : Held) (w : World) (left' : Option (List ℕ)) where
  -- the stream begins with no request
  pub refused : (end : End) (written' : Option (List ℕ)) (refusal : Refusal) (reply : Reply) → Stays h h' w.left left' → IsRefusal refusal h.at (stream h w.left) → reply ≡ refusal_reply (now old) refusal → RefusalEnds reply w.written written' end
      → Stops allows (here old h w) (record { left = left'; answers = w.answers; words = w.words; written = written'; accepts = w.accepts }) end (settled old)
  refused ends.Malformed written' refusal reply same is told written n below = record {
    since = record { held = h'.bytes; asked = []; drawn = [] };
    read = stays_read h h' w.left left' same;
    clock = asks_none w.answers;
    draws = draws_none w.words;
    cause = (refusal, below, is, refl, refl, subst (λ (r : Reply). Appends w.written written' (printed r)) told written, refl);
  }
  refused ends.WriteFault written' refusal reply same is told written n below = record {
    since = record { held = h'.bytes; asked = []; drawn = [] };
    read = stays_read h h' w.left left' same;
    clock = asks_none w.answers;
    draws = draws_none w.words;
    cause = inr (inl (refusal, below, is, refl, refl, subst (λ (r : Reply). AppendsFront w.written written' (printed r)) told written, refl));
  }
  refused ends.OutOfMemory written' refusal reply same is told written n below = record {
    since = record { held = h'.bytes; asked = []; drawn = [] };
    read = stays_read h h' w.left left' same;
    clock = asks_none w.answers;
    draws = draws_none w.words;
    cause = (omega arith, omega arith, written, refl);
  }
  refused ends.Done written' refusal reply same is told written n below = absurd written
  refused ends.ReadFault written' refusal reply same is told written n below = absurd written
  refused ends.DiskFault written' refusal reply same is told written n below = absurd written
  refused ends.JournalFull written' refusal reply same is told written n below = absurd written
  refused ends.WordsFault written' refusal reply same is told written n below = absurd written
  refused ends.TurnLimit written' refusal reply same is told written n below = absurd written

  read_fault : (written' : Option (List ℕ)) → Stays h h' w.left left' → BeginsWithNoRequest h'.bytes → Keeps w.written written' → Stops allows (here old h w) (record { left = left'; answers = w.answers; words = w.words; written = written'; accepts = w.accepts }) ends.ReadFault (settled old)
  read_fault written' same none kept n below = record {
    since = record { held = h'.bytes; asked = []; drawn = [] };
    read = stays_read h h' w.left left' same;
    clock = asks_none w.answers;
    draws = draws_none w.words;
    cause = (below, none, record { unasked = refl; undrawn = refl; unwritten = kept; same = refl });
  }

  no_memory : (written' : Option (List ℕ)) → Stays h h' w.left left' → Keeps w.written written' → Stops allows (here old h w) (record { left = left'; answers = w.answers; words = w.words; written = written'; accepts = w.accepts }) ends.OutOfMemory (settled old)
  no_memory written' same kept n below = record {
    since = record { held = h'.bytes; asked = []; drawn = [] };
    read = stays_read h h' w.left left' same;
    clock = asks_none w.answers;
    draws = draws_none w.words;
    cause = (omega arith, omega arith, kept, refl);
  }

  pub stream_ended : HasEnded h h' w.left left' → Stops allows (here old h w) (record w { left = left' }) ends.Done (settled old)
  stream_ended (same, blank, end) n below = record {
    since = record { held = h'.bytes; asked = []; drawn = [] };
    read = stays_read h h' w.left left' same;
    clock = asks_none w.answers;
    draws = draws_none w.words;
    cause = (below, blank, end, record { unasked = refl; undrawn = refl; unwritten = keeps_same w.written; same = refl });
  }

-- no request was read
pub unread_stops : (allows : FeesAllowed) (old : Stood) (h h' : Held) (w : World) (left' written' : Option (List ℕ)) (end : End) (fault : HttpFault) → Refuses h h' w.left left' fault → Unread (now old) fault w.written written' end
    → Stops allows (here old h w) (record { left = left'; answers = w.answers; words = w.words; written = written'; accepts = w.accepts }) end (settled old)
unread_stops allows old h h' w left' written' end (http.BadHttp at) (same, place, is) told = refused allows old h h' w left' end written' (refusals.BadHttp at) _ same (place, is) refl told
unread_stops allows old h h' w left' written' end (http.LengthRequired at) (same, place, is) told = refused allows old h h' w left' end written' (refusals.LengthRequired at) _ same (place, is) refl told
unread_stops allows old h h' w left' written' end (http.TooLarge at) (same, place, is) told = refused allows old h h' w left' end written' (refusals.RequestTooLarge at) _ same (place, is) refl told
unread_stops allows old h h' w left' written' end http.ReadFault (same, none) (is, kept) =
    subst (λ (e : End). Stops allows (here old h w) (record { left = left'; answers = w.answers; words = w.words; written = written'; accepts = w.accepts }) e (settled old)) (sym is) (read_fault allows old h h' w left' written' same none kept)
unread_stops allows old h h' w left' written' end http.Memory same (is, kept) =
    subst (λ (e : End). Stops allows (here old h w) (record { left = left'; answers = w.answers; words = w.words; written = written'; accepts = w.accepts }) e (settled old)) (sym is) (no_memory allows old h h' w left' written' same kept)

pub takes_short : (h h' : Held) (left left' : Option (List ℕ)) (raw : Raw) → Takes h h' left left' raw → h'.at ≤ h.at + (head_limit + body_limit)
takes_short h h' left left' raw takes = omega (arith, takes.at, takes.limit)
