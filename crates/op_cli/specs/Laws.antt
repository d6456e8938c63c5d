-- What holds of calls in a row.
use Rattle.std.specs.Prelude.{◌≡◌, ◌⊎◌, List, IsTrue}
use Rattle.op_causes.specs.Causes.{Rose}
use Rattle.op_desk.specs.Spelling.{SpellsSound}
use Rattle.op_disk.specs.declared.Disk.{Ghosts}
use Rattle.op_model.specs.Round.{FeesAllowed}
use Rattle.op_model.specs.declared.act.Entry.{Entry}
use Rattle.op_session.specs.Stood.{now}
use Rattle.op_session.specs.World.{World}
use Rattle.op_session.specs.declared.status.Status.{Status}
use Rattle.op_cli.specs.Applies.{RunsOn}

-- The calls may have fee rules of different terms.
module _ {D : Type 0} (allows allows' : FeesAllowed) (g : Ghosts D) where
  -- Where a call opened the journal and its disk did not fail, the next call that opens it begins with the history that stood
  -- at the end of the first, also where a crash came between the two.
  abbrev pub CallsAreOneHistory : Type 0
  CallsAreOneHistory =
      (old new next last : D) (before after before' after' : World) (status status' : Status)
      → (first : RunsOn allows g old new before after status)
      → (second : RunsOn allows' g next last before' after' status')
      → IsTrue g.tells → g.images new (g.seen next) → ¬ Rose (g.faults old) (g.faults new) → second.first ≡ now first.final.stands

  -- where its disk may have failed, perhaps with the round that was tried
  abbrev pub CallsGoOn : Type 0
  CallsGoOn =
      (old new next last : D) (before after before' after' : World) (status status' : Status)
      → (first : RunsOn allows g old new before after status)
      → (second : RunsOn allows' g next last before' after' status')
      → IsTrue g.tells → g.images new (g.seen next) → (second.first ≡ now first.final.stands) ⊎ (second.first ≡ now first.final.tried)

  -- what a call leaves is a legal history of acts that are built, so the next call does not find it illegal
  abbrev pub CallsLeaveLegal : Type 0
  CallsLeaveLegal =
      (old new next : D) (before after : World) (status : Status) → (first : RunsOn allows g old new before after status)
      → IsTrue g.tells → g.images new (g.seen next) → (history : List Entry) × SpellsSound history (g.seen next)
