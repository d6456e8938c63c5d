-- What a call more does to the images of a disk in memory.
use Rattle.std.proofs.Common.{◌≡◌, ◌⊎◌, inl, inr, ℕ, ◌+◌, ◌≤◌, ◌<◌, Bool, true, false, List, [], ◌∷◌, ◌++◌, length, take, get_or, sym, ◌∙◌, ap, subst, Vec, Global}
use Rattle.std.proofs.lemmas.List.{reverse-append, take_more}
use Rattle.op_disk.specs.Calls.{Torn, Follows, Only, overlaid}
use Rattle.op_disk.specs.Memory.{contents, synced, written, IsImage, newest}
use Rattle.op_disk.specs.declared.memory.Call.{Call}
use Rattle.op_disk.specs.declared.memory.Call.TheVariants.{Write, Sync}
use Rattle.op_disk.proofs.Images.{torn_lost, torn_made, leaves_torn, torn_back, leaves_only}

newest_push : (calls : List Call) (call : Call) → newest (calls ++ call ∷ []) ≡ call ∷ newest calls
newest_push calls call = reverse-append calls (call ∷ [])

reads_write : (first : List ℕ) (earlier : List Call) (at : ℕ) (v : Vec ℕ Global) (failed : Bool) → at ≤ length (contents first earlier)
    → IsImage first earlier (contents first earlier) → IsImage first (Write at v failed ∷ earlier) (contents first (Write at v failed ∷ earlier))
reads_write first earlier at v true place reads =
    leaves_torn (synced first earlier) (record { at = at; count = length v.items }) (written earlier) (contents first earlier) (contents first earlier) reads (torn_lost at (length v.items) (contents first earlier))
reads_write first earlier at v false place reads =
    leaves_torn (synced first earlier) (record { at = at; count = length v.items }) (written earlier) (contents first earlier) (overlaid (contents first earlier) at v.items) reads (torn_made at v.items (contents first earlier) place)

-- a write in the record, or one that was refused before it stood there
abbrev pub Recorded : List Call → List Call → ℕ → List ℕ → Bool → Type 0
Recorded calls later at from failed = ((v : Vec ℕ Global) × (v.items ≡ from) × (later ≡ calls ++ Write at v failed ∷ [])) ⊎ (later ≡ calls)

pub write_reads : (first : List ℕ) (calls later : List Call) (at : ℕ) (from : List ℕ) (failed : Bool) → at ≤ length (contents first (newest calls)) → Recorded calls later at from failed
    → IsImage first (newest calls) (contents first (newest calls)) → IsImage first (newest later) (contents first (newest later))
write_reads first calls later at from failed place (inl made) reads =
    let named : newest later ≡ Write at made.0 failed ∷ newest calls = ap newest made.2 ∙ newest_push calls (Write at made.0 failed) in
    subst (λ (l : List Call). IsImage first l (contents first l)) (sym named) (reads_write first (newest calls) at made.0 failed place reads)
write_reads first calls later at from failed place (inr refused) reads = subst (λ (l : List Call). IsImage first (newest l) (contents first (newest l))) (sym refused) reads

pub write_follows : (first : List ℕ) (calls later : List Call) (at : ℕ) (from : List ℕ) (failed : Bool) → Recorded calls later at from failed
    → Follows (Torn at (length from)) (IsImage first (newest calls)) (IsImage first (newest later))
write_follows first calls later at from failed (inl made) c image =
    let named : newest later ≡ Write at made.0 failed ∷ newest calls = ap newest made.2 ∙ newest_push calls (Write at made.0 failed) in
    let old = torn_back (synced first (newest calls)) (record { at = at; count = length made.0.items }) (written (newest calls)) c (subst (λ (l : List Call). IsImage first l c) named image) in
    (old.0, old.1, subst (λ (l : List ℕ). Torn at (length l) old.0 c) made.1 old.2)
write_follows first calls later at from failed (inr refused) c image =
    (c, subst (λ (l : List Call). IsImage first (newest l) c) refused image, torn_lost at (length from) c)

pub sync_only : (first : List ℕ) (calls later : List Call) (failed : Bool) → failed ≡ false → later ≡ calls ++ Sync failed ∷ []
    → Only (contents first (newest later)) (IsImage first (newest later))
sync_only first calls later failed good is image allowed =
    let named : newest later ≡ Sync false ∷ newest calls = ap newest (is ∙ ap (λ (b : Bool). calls ++ Sync b ∷ []) good) ∙ newest_push calls (Sync false) in
    leaves_only (contents first (newest calls)) image (subst (λ (l : List Call). IsImage first l image) named allowed) ∙ ap (contents first) (sym named)

pub newest_more : (calls : List Call) (i : ℕ) (d : Call) → i < length calls → newest (take (i + 1) calls) ≡ get_or calls i d ∷ newest (take i calls)
newest_more calls i d inside = ap newest (take_more calls i d inside) ∙ newest_push (take i calls) (get_or calls i d)
