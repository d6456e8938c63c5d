-- A session goes on by a turn, and ends.
use Rattle.std.proofs.Common.{◌≡◌, ℕ, List, [], ◌∷◌, Some, None, refl, ap, subst, arith}
use Rattle.std.specs.declared.option.Option.{Option}
use Rattle.std.specs.Io.KnownBytes.{prepend_known}
use Rattle.op_http.specs.Held.{Held}
use Rattle.op_model.specs.Round.{FeesAllowed}
use Rattle.op_model.specs.declared.act.Entry.{Entry}
use Rattle.op_session.specs.Session.{Final, Session, Ends, begun, settled}
use Rattle.op_session.specs.Stood.{Stood, opened_with}
use Rattle.op_session.specs.Turn.{Standing, Turn, IsTurn, turn_limit}
use Rattle.op_session.specs.World.{World}
use Rattle.op_session.specs.declared.end.End.{End}
use Rattle.op_session.specs.declared.end.End.TheVariants.{TurnLimit, OutOfMemory}
use Rattle.op_cli.specs.Turns.{here}
use Rattle.op_cli.proofs.TurnLemmas.{asks_none, draws_none, keeps_same, consumes_held}

prepend_nothing : (left : Option (List ℕ)) → prepend_known [] left ≡ left
prepend_nothing None = refl
prepend_nothing (Some xs) = refl

-- the beginning
pub begins_fresh : (first : List Entry) (w : World) → here (opened_with first) (record { bytes = []; at = 0 }) w 0 ≡ begun first w
begins_fresh first w = ap (λ (left : Option (List ℕ)). let s : Standing = record { stood = opened_with first; answered = 0; at = 0; world = record w { left = left } } in s) (prepend_nothing w.left)

-- a turn, and the rest
pub one_more : (allows : FeesAllowed) (a b : Standing) (turn : Turn) (after : World) (end : End) (final : Final) → IsTurn allows a turn b → Session allows b after end final → Session allows a after end final
one_more allows a b turn after end final is rest = record { turns = turn ∷ rest.turns; last = rest.last; run = (b, is, rest.run); ends = rest.ends }

-- no turn
pub at_once : (allows : FeesAllowed) (a : Standing) (after : World) (end : End) (final : Final) → Ends allows end a after final → Session allows a after end final
at_once allows a after end final ends = record { turns = []; last = a; run = refl; ends = ends }

-- as many requests were answered as one session answers
pub at_limit : (allows : FeesAllowed) (stood : Stood) (held : Held) (w : World) (n : ℕ) → n ≡ turn_limit → Ends allows TurnLimit (here stood held w n) w (settled stood)
at_limit allows stood held w n e = record {
  since = record { held = held.bytes; asked = []; drawn = [] };
  read = consumes_held held w.left;
  clock = asks_none w.answers;
  draws = draws_none w.words;
  cause = (e, record { unasked = refl; undrawn = refl; unwritten = keeps_same w.written; same = refl });
}

-- memory was wanting before anything was read
pub no_table : (allows : FeesAllowed) (first : List Entry) (w : World) → Session allows (begun first w) w OutOfMemory (settled (opened_with first))
no_table allows first w =
    subst (λ (standing : Standing). Session allows standing w OutOfMemory (settled (opened_with first))) (begins_fresh first w)
    (at_once allows (here (opened_with first) (record { bytes = []; at = 0 }) w 0) w OutOfMemory (settled (opened_with first)) (record {
      since = record { held = []; asked = []; drawn = [] };
      read = consumes_held (record { bytes = []; at = 0 }) w.left;
      clock = asks_none w.answers;
      draws = draws_none w.words;
      cause = (omega arith, omega arith, keeps_same w.written, refl);
    }))
