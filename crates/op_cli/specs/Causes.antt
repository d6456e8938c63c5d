-- Which fault an answer may name: one that its object met in this call. No fault is passed over.
use Rattle.std.specs.Prelude.{◌≡◌, ℕ}
use Rattle.op_causes.specs.Causes.{Rose, NamesFault}
use Rattle.op_disk.specs.declared.Disk as disk
use Rattle.op_ports.specs.declared.sink.Sink as sink
use Rattle.op_ports.specs.declared.source.Source as source
use Rattle.op_ports.specs.declared.words.Words as words
use Rattle.op_session.specs.declared.end.End.{End}
use Rattle.op_session.specs.declared.end.End.TheVariants.{ReadFault, DiskFault, WriteFault, WordsFault}
use Rattle.op_cli.specs.declared.outside.Outside.{Outside}

-- Of a round, by the faults of the disk and of the sink before it and after it. A fault of the disk may be followed by one of the
-- sink, which is named then.
pub record HasRoundCauses (disk disk' sink sink' : ℕ) (named : End → Type 0) : Type 0 where
  pub disk_cause : named DiskFault → Rose disk disk'
  pub disk_kept : (named DiskFault → ⊥) → (named WriteFault → ⊥) → disk' ≡ disk
  pub write : NamesFault sink sink' (named WriteFault)

-- of a turn, a session or the program
pub record HasCauses {D S K C W V F : Type 0} (d : disk.Ghosts D) (s : source.Ghosts S) (k : sink.Ghosts K) (w : words.Ghosts W) (old new : Outside D S K C W V F) (named : End → Type 0) : Type 0 where
  pub read : NamesFault (s.faults old.source) (s.faults new.source) (named ReadFault)
  pub round : HasRoundCauses (d.faults old.disk) (d.faults new.disk) (k.faults old.sink) (k.faults new.sink) named
  pub draw : NamesFault (w.faults old.draws) (w.faults new.draws) (named WordsFault)
