-- What the objects of the outside tell, as one.
use Rattle.std.specs.Prelude.{◌≡◌}
use Rattle.op_ports.specs.declared.clock.Clock as clock
use Rattle.op_ports.specs.declared.sink.Sink as sink
use Rattle.op_ports.specs.declared.source.Source as source
use Rattle.op_ports.specs.declared.verifier.Verifier as verifier
use Rattle.op_ports.specs.declared.words.Words as words
use Rattle.op_session.specs.World.{World}
use Rattle.op_cli.specs.declared.outside.Outside.{Outside}

abbrev pub world_of : {D S K C W V F : Type 0} → source.Ghosts S → clock.Ghosts C → words.Ghosts W → sink.Ghosts K → verifier.Ghosts V → Outside D S K C W V F → World
world_of s c w k v outside = record {
  left = s.left outside.source;
  answers = c.answers outside.clock;
  words = w.words outside.draws;
  written = k.written outside.sink;
  accepts = v.accepts outside.verifier;
}

-- a call on the disk and the sink alone leaves all other objects as they were
pub record LeavesOthers {D S K C W V F : Type 0} (old new : Outside D S K C W V F) : Type 0 where
  pub source : new.source ≡ old.source
  pub clock : new.clock ≡ old.clock
  pub draws : new.draws ≡ old.draws
  pub verifier : new.verifier ≡ old.verifier
