-- What a crash may leave of the journal while a session runs.
use Rattle.std.specs.Prelude.{◌≡◌, ◌≢◌, ◌⊎◌, ◌≤◌, ◌+◌, ◌-◌, ◌*◌, ℕ, Bool, List, [], ◌++◌, length, take, IsTrue, IsSome}
use Rattle.std.specs.Option.{option_map_or}
use Rattle.op_causes.specs.Causes.{Rose}
use Rattle.op_desk.specs.Batches.{DeskValue}
use Rattle.op_desk.specs.Spelling.{SpellsRounds, Stands, LacksRoom, history_of}
use Rattle.op_desk.specs.Wallets.{IsSound}
use Rattle.op_disk.specs.Moments.{LeavesOnly}
use Rattle.op_disk.specs.declared.Disk.{Ghosts}
use Rattle.op_model.specs.declared.act.Entry.{Entry}
use Rattle.op_session.specs.Session.{Final, settled}
use Rattle.op_session.specs.Stood.{Stood, now, with_rounds, with_entries}

-- the history of a whole desk
abbrev pub history_at : DeskValue → List Entry
history_at desk = option_map_or (λ w. w.history) desk.wallet []

-- the desk is whole, and the disk, where it tells its bytes, stands as the desk says and has the rounds of its history
pub record IsReady {D : Type 0} (g : Ghosts D) (desk : DeskValue) (disk : D) : Type 0 where
  pub whole : IsSome desk.wallet
  pub stands : IsTrue g.tells → (rounds : List (List Entry)) × (history_of rounds ≡ history_at desk) × Stands rounds desk.tail (g.seen disk) (g.images disk)

-- from whatever stands with this history
abbrev pub FromEach : List Entry → (Stood → Type 0) → Type 0
FromEach history P = (stood : Stood) → now stood ≡ history → P stood

-- each image of a disk has these rounds, each in a frame of its own
abbrev pub AllSpell : List (List Entry) → (List ℕ → Type 0) → Type 0
AllSpell rounds images = (c : List ℕ) → images c → SpellsRounds rounds c

-- the rounds that were found, and behind them at least so many of the new ones, each in a frame of its own
abbrev pub SpellsAtLeast : ℕ → (found new : List (List Entry)) → List ℕ → Type 0
SpellsAtLeast least found new c = (n : ℕ) × (least ≤ n) × (n ≤ length new) × SpellsRounds (found ++ take n new) c

-- the rounds that were found, and behind them those that stand, or those that were tried
abbrev pub SpellsFinal : (found : List (List Entry)) → Final → List ℕ → Type 0
SpellsFinal found final c = SpellsRounds (found ++ final.stands.rounds) c ⊎ SpellsRounds (found ++ final.tried.rounds) c

-- What stands goes on by at most one round, which stands or was tried.
pub record GoesOn (before : Stood) (final : Final) : Type 0 where
  pub more : List (List Entry)
  pub stands : final.stands ≡ with_rounds before more
  pub rest : List (List Entry)
  pub tried : final.tried ≡ with_rounds final.stands rest
  pub one : length (more ++ rest) ≤ 1

-- One round on a disk that had these rounds, and behind them those that stood: a crash in it leaves these, or these and the whole
-- round. A round that stands has made four calls, and one that was tried at most as many.
pub record Lasts {D : Type 0} (g : Ghosts D) (found : List (List Entry)) (before : Stood) (final : Final) (old new : D) : Type 0 where
  pub leaves : LeavesOnly g old new (λ c. SpellsRounds (found ++ before.rounds) c ⊎ SpellsRounds (found ++ final.tried.rounds) c)
  pub at_end : (c : List ℕ) → g.images new c → SpellsFinal found final c
  pub least : g.moment old + 4 * (length final.stands.rounds - length before.rounds) ≤ g.moment new
  pub most : g.moment new ≤ g.moment old + 4 * (length final.tried.rounds - length before.rounds)

-- where a round did not fit, the bytes that are seen have no room for it
abbrev pub IsUnfit : Bool → Final → List ℕ → Type 0
IsUnfit tells final seen = final.unfit ≢ final.stands → IsTrue tells → LacksRoom (now final.stands) (now final.unfit) seen

-- what a turn leaves: at most one round more, which is legal and stands unless the disk failed
pub record Leaves {D : Type 0} (g : Ghosts D) (before : Stood) (final : Final) (old new : D) : Type 0 where
  pub goes_on : GoesOn before final
  pub sound : IsSound (now final.tried)
  pub settled : ¬ Rose (g.faults old) (g.faults new) → final.tried ≡ final.stands
  pub unfit : IsUnfit g.tells final (g.seen new)
  pub lasts : IsTrue g.tells → (found : List (List Entry)) → AllSpell (found ++ before.rounds) (g.images old) → Lasts g found before final old new

-- From whatever stands with the old history: the new one has these entries more, of which P holds, as one round or none.
abbrev pub Adds : {D : Type 0} → Ghosts D → (history history' : List Entry) (old new : D) → (Stood → List Entry → Type 0) → Type 0
Adds g history history' old new P = FromEach history (λ stood.
    (entries : List Entry) × (history' ≡ now stood ++ entries) × P stood entries × Leaves g stood (settled (with_entries stood entries)) old new)

-- from whatever stands with this history: it ends with what P says
abbrev pub EndsBy : {D : Type 0} → Ghosts D → (history : List Entry) (old new : D) → (Stood → Final → Type 0) → Type 0
EndsBy g history old new P = FromEach history (λ stood. (final : Final) × P stood final × Leaves g stood final old new)

-- Rounds on a disk since it was opened, behind those that were found. After the first 4k calls, and at every moment from there on,
-- a crash leaves at least k rounds more; at the end it leaves all that stand, or these with the last one, which was tried.
pub record Endures {D : Type 0} (g : Ghosts D) (found : List (List Entry)) (final : Final) (opened last : D) : Type 0 where
  pub each : (k : ℕ) (c : List ℕ) → k ≤ length final.stands.rounds → g.since last (g.moment opened + 4 * k) c → SpellsAtLeast k found final.tried.rounds c
  -- for a run that began earlier
  pub before : (t : ℕ) (c : List ℕ) → t ≤ g.moment opened → g.since last t c → g.since opened t c ⊎ SpellsAtLeast 0 found final.tried.rounds c
  pub at_end : (c : List ℕ) → g.images last c → SpellsFinal found final c
  pub least : g.moment opened + 4 * length final.stands.rounds ≤ g.moment last
  pub most : g.moment last ≤ g.moment opened + 4 * length final.tried.rounds

-- What a session leaves of the history that it found: it goes on by whole rounds, is legal and stands but for its last round
-- where the disk failed. Each of its rounds has a frame of its own behind those that were found.
pub record Kept {D : Type 0} (g : Ghosts D) (first : List Entry) (final : Final) (opened last : D) : Type 0 where
  pub begins : final.stands.found ≡ first
  pub tried : (rest : List (List Entry)) × (final.tried ≡ with_rounds final.stands rest)
  pub sound : IsSound (now final.tried)
  pub settled : ¬ Rose (g.faults opened) (g.faults last) → final.tried ≡ final.stands
  pub unfit : IsUnfit g.tells final (g.seen last)
  pub endures : IsTrue g.tells → (found : List (List Entry)) → AllSpell found (g.images opened) → Endures g found final opened last
