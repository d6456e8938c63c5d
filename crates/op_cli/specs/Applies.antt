-- What a call of `apply` comes to: the journal is not opened, or a session on the history that its disk spells.
use Rattle.std.specs.Prelude.{◌≡◌, ◌≢◌, ◌⊎◌, ◌↔◌, ◌≤◌, ◌+◌, ◌*◌, ℕ, false, List, ◌++◌, length, IsTrue}
use Rattle.op_causes.specs.Causes.{Rose}
use Rattle.op_desk.specs.Spelling.{Spells, SpellsRounds, SpellsSound, opening_calls}
use Rattle.op_desk.specs.Wallets.{IsSound}
use Rattle.op_desk.specs.declared.fault.DeskFault.{DeskFault}
use Rattle.op_desk.specs.declared.fault.DeskFault.TheVariants as faults
use Rattle.op_disk.specs.Moments.{LeavesOnly}
use Rattle.op_disk.specs.declared.Disk as disk
use Rattle.op_journal.specs.Recovered.{IsOldOrShort}
use Rattle.op_model.specs.Round.{FeesAllowed}
use Rattle.op_model.specs.Laws.{KeepsLaws}
use Rattle.op_model.specs.declared.act.Entry.{Entry}
use Rattle.op_ports.specs.declared.clock.Clock as clock
use Rattle.op_ports.specs.declared.sink.Sink as sink
use Rattle.op_ports.specs.declared.source.Source as source
use Rattle.op_ports.specs.declared.verifier.Verifier as verifier
use Rattle.op_ports.specs.declared.words.Words as words
use Rattle.op_session.specs.Program.{is_command}
use Rattle.op_session.specs.Session.{Final, Session, begun, IsCompleteKnown}
use Rattle.op_session.specs.Stood.{now, with_rounds}
use Rattle.op_session.specs.World.{World}
use Rattle.op_session.specs.declared.end.End.{End}
use Rattle.op_session.specs.declared.end.End.TheVariants.{Done, DiskFault, JournalFull, OutOfMemory, Malformed, TurnLimit}
use Rattle.op_session.specs.declared.status.Status.{Status}
use Rattle.op_session.specs.declared.status.Status.TheVariants.{Usage, Illegal, Ended}
use Rattle.op_cli.specs.declared.outside.Outside.{Outside}
use Rattle.op_cli.specs.Causes.{HasCauses}
use Rattle.op_cli.specs.Kept.{SpellsAtLeast, IsUnfit}
use Rattle.op_cli.specs.Told.{world_of}

-- the exit status of a journal that is not opened
abbrev pub status_of : DeskFault → Status
status_of faults.DiskFault = Ended DiskFault
status_of faults.Memory = Ended OutOfMemory
status_of _ = Illegal

-- The journal is not opened: nothing was read, asked, drawn or written. A crash leaves what it could leave before; a disk of at
-- most 9 bytes may be left with other such bytes.
pub record DoesNotOpen {D : Type 0} (g : disk.Ghosts D) (old new : D) (before after : World) (status : Status) : Type 0 where
  pub fault : DeskFault
  pub is : status ≡ status_of fault
  pub untouched : after ≡ before
  pub at_every_moment : IsTrue g.tells → LeavesOnly g old new (IsOldOrShort (g.images old) (g.seen old))

-- The disk had these rounds, each in a frame, and opening it took so many calls by their number. From its first sync on, a crash
-- leaves these frames and behind them one for each of the first rounds that were added. After the session's first 4k calls, and at
-- every moment from there on, it leaves at least k of them. Each round that stands has taken four calls, and there were no other
-- calls but those of a last commit that failed.
pub record EveryMoment {D : Type 0} (g : disk.Ghosts D) (final : Final) (old new : D) : Type 0 where
  pub found : List (List Entry)
  pub spelled : SpellsRounds found (g.seen old)
  pub opened : ℕ
  pub opening : opened ≡ g.moment old + opening_calls (length found) (g.seen old)
  pub prefix : (c : List ℕ) → g.since new (g.moment old + 1) c → SpellsAtLeast 0 found final.tried.rounds c
  pub each : (k : ℕ) (c : List ℕ) → k ≤ length final.stands.rounds → g.since new (opened + 4 * k) c → SpellsAtLeast k found final.tried.rounds c
  pub least : opened + 4 * length final.stands.rounds ≤ g.moment new
  pub most : g.moment new ≤ opened + 4 * length final.tried.rounds

-- The journal is opened, and a session runs on the history that its disk spells, under the terms of the fee rule.
pub record RunsOn {D : Type 0} (allows : FeesAllowed) (g : disk.Ghosts D) (old new : D) (before after : World) (status : Status) : Type 0 where
  pub first : List Entry
  pub end : End
  pub final : Final
  -- the session begins with the history that the disk spelled, whichever that was
  pub found : IsTrue g.tells → Spells first (g.seen old)
  pub continues : IsTrue g.tells → (history : List Entry) → Spells history (g.seen old) → first ≡ history
  pub session : Session allows (begun first before) after end final
  pub is : status ≡ Ended end
  pub complete : IsCompleteKnown end session.turns final before after
  -- what stands goes on from there by whole rounds, and is legal and made of acts that are built, with the round that a failed
  -- commit may have left
  pub stands : final.stands.found ≡ first
  pub tried : (rest : List (List Entry)) × (final.tried ≡ with_rounds final.stands rest)
  pub sound : IsSound (now final.tried)
  -- at each point of it assets sum to zero, no interval's spending passes its grant's cap, each payment has debited what it sent
  -- with the fee's share and delivered the rate's floor, nothing is overdrawn, and no step was taken twice
  pub laws : (front rest : List Entry) → now final.tried ≡ front ++ rest → KeepsLaws front
  -- a crash at the end leaves what stands; only where the disk failed, perhaps with that round
  pub at_exit : IsTrue g.tells → (c : List ℕ) → g.images new c → Spells (now final.stands) c ⊎ Spells (now final.tried) c
  pub settled : ¬ Rose (g.faults old) (g.faults new) → final.tried ≡ final.stands
  -- where a round is told not to fit, the journal as it stands has no room for it
  pub unfit : IsUnfit g.tells final (g.seen new)
  pub at_every_moment : IsTrue g.tells → EveryMoment g final old new

-- no legal history of acts that are built
abbrev pub SpellsNone : List ℕ → Type 0
SpellsNone bytes = (history : List Entry) → SpellsSound history bytes → ⊥

module _ {D S K C W V F : Type 0} (allows : FeesAllowed) (d : disk.Ghosts D) (s : source.Ghosts S) (k : sink.Ghosts K) (c : clock.Ghosts C) (w : words.Ghosts W) (v : verifier.Ghosts V) where
  -- The journal is not opened, or what is read, asked, drawn and written is a session on the history that its disk spells: with its
  -- replies, what a crash leaves at its end and at every moment, and its status.
  abbrev pub ComesTo : (old new : Outside D S K C W V F) → Status → Type 0
  ComesTo old new status =
      DoesNotOpen d old.disk new.disk (world_of s c w k v old) (world_of s c w k v new) status
      ⊎ RunsOn allows d old.disk new.disk (world_of s c w k v old) (world_of s c w k v new) status

  -- Where no fault comes, the journal is legal and has room, memory is there and the limit of requests is not reached, the stream is
  -- answered to its end.
  abbrev pub EndsWell : (old new : Outside D S K C W V F) → Status → Type 0
  EndsWell old new status =
      ¬ Rose (s.faults old.source) (s.faults new.source) → ¬ Rose (k.faults old.sink) (k.faults new.sink)
      → ¬ Rose (d.faults old.disk) (d.faults new.disk) → ¬ Rose (w.faults old.draws) (w.faults new.draws)
      → status ≢ Usage → status ≢ Illegal → status ≢ Ended JournalFull → status ≢ Ended OutOfMemory → status ≢ Ended TurnLimit
      → (status ≡ Ended Done) ⊎ (status ≡ Ended Malformed)

  -- what the program promises of these words
  pub record Runs (given : List (List ℕ)) (old new : Outside D S K C W V F) (status : Status) : Type 0 where
    -- exactly where the words are no command the status is Usage, and then nothing is done
    pub usage : (status ≡ Usage) ↔ (is_command given ≡ false)
    pub untouched : status ≡ Usage → new ≡ old
    pub replies : status ≢ Usage → ComesTo old new status
    -- the status is Illegal exactly where the disk's bytes spell no legal history, unless the disk failed or memory was wanting
    pub illegal : status ≡ Illegal → IsTrue d.tells → SpellsNone (d.seen old.disk)
    pub illegal_where : IsTrue d.tells → SpellsNone (d.seen old.disk)
        → (status ≡ Usage) ⊎ (status ≡ Illegal) ⊎ (status ≡ Ended DiskFault) ⊎ (status ≡ Ended OutOfMemory)
    -- a fault is answered only where it came, and none is passed over
    pub causes : HasCauses d s k w old new (λ end. status ≡ Ended end)
    pub ends : EndsWell old new status
