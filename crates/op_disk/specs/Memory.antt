-- A disk in memory, by its record of calls, of which the newest comes first.
use Rattle.std.specs.Prelude.{ℕ, ◌+◌, ◌≤◌, ◌≡◌, ◌⊎◌, List, [], ◌∷◌, length, reverse, if◌then◌else◌}
use Rattle.std.proofs.Common.{inl, inr, sym, arith}
use Rattle.std.proofs.lemmas.List.{length-reverse}
use Rattle.op_disk.specs.Calls.{overlaid}
use Rattle.op_disk.specs.Crash.{Range, MayLeave}
use Rattle.op_disk.specs.declared.memory.Call.{Call}
use Rattle.op_disk.specs.declared.memory.Call.TheVariants.{Length, Read, Write, Sync}

-- what a read gives after these calls
abbrev pub contents : List ℕ → List Call → List ℕ
contents first [] = first
contents first (Length failed ∷ earlier) = contents first earlier
contents first (Read at n failed ∷ earlier) = contents first earlier
contents first (Write at bytes failed ∷ earlier) = if failed then contents first earlier else overlaid (contents first earlier) at bytes.items
contents first (Sync failed ∷ earlier) = contents first earlier

-- what a read gave at the last sync that did not fail
abbrev pub synced : List ℕ → List Call → List ℕ
synced first [] = first
synced first (Length failed ∷ earlier) = synced first earlier
synced first (Read at n failed ∷ earlier) = synced first earlier
synced first (Write at bytes failed ∷ earlier) = synced first earlier
synced first (Sync failed ∷ earlier) = if failed then synced first earlier else contents first earlier

-- the ranges written since that sync; a write that failed counts as well
abbrev pub written : List Call → List Range
written [] = []
written (Length failed ∷ earlier) = written earlier
written (Read at n failed ∷ earlier) = written earlier
written (Write at bytes failed ∷ earlier) = record { at = at; count = length bytes.items } ∷ written earlier
written (Sync failed ∷ earlier) = if failed then written earlier else []

-- what a crash may leave after these calls
abbrev pub IsImage : List ℕ → List Call → List ℕ → Type 0
IsImage first calls image = MayLeave (synced first calls) (written calls) image

-- what a crash may leave at some moment from t on
abbrev pub Since : List ℕ → List Call → ℕ → List ℕ → Type 0
Since first [] t c = (t ≤ 0) × IsImage first [] c
Since first (call ∷ earlier) t c = ((t ≤ length earlier + 1) × IsImage first (call ∷ earlier) c) ⊎ Since first earlier t c

since_now : (first : List ℕ) (calls : List Call) (t : ℕ) (c : List ℕ) → t ≤ length calls → IsImage first calls c → Since first calls t c
since_now first [] t c le is = (omega arith, is)
since_now first (call ∷ earlier) t c le is = inl (omega arith, is)

since_bound : (first : List ℕ) (calls : List Call) (t : ℕ) (c : List ℕ) → Since first calls t c → t ≤ length calls
since_bound first [] t c since = omega (arith, since.0)
since_bound first (call ∷ earlier) t c (inl since) = omega (arith, since.0)
since_bound first (call ∷ earlier) t c (inr since) = omega (arith, since_bound first earlier t c since)

now_only : (first : List ℕ) (calls : List Call) (t : ℕ) (c : List ℕ) → t ≡ length calls → Since first calls t c → IsImage first calls c
now_only first [] t c is since = since.1
now_only first (call ∷ earlier) t c is (inl since) = since.1
now_only first (call ∷ earlier) t c is (inr since) = absurd (omega (arith, is, since_bound first earlier t c since))

-- the record, the newest call first
abbrev pub newest : List Call → List Call
newest calls = reverse calls

pub counts_now : (first : List ℕ) (calls : List Call) (t : ℕ) (c : List ℕ) → t ≤ length calls → IsImage first (newest calls) c → Since first (newest calls) t c
counts_now first calls t c le is = since_now first (newest calls) t c (omega (arith, le, length-reverse calls)) is

pub only_now : (first : List ℕ) (calls : List Call) (c : List ℕ) → Since first (newest calls) (length calls) c → IsImage first (newest calls) c
only_now first calls c since = now_only first (newest calls) (length calls) c (sym (length-reverse calls)) since
