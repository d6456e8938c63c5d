-- A session over a stream that is told: what is written follows from what is read.
use Rattle.std.proofs.Common.{◌≡◌, ℕ, ◌+◌, ◌++◌, List, [], ◌∷◌, length, Some, None, refl, sym, ap, subst, ◌∙◌, append_assoc, arith, length-append, ◌⊎◌, inl, inr}
use Rattle.std.proofs.lemmas.List.{append-nil}
use Rattle.std.specs.declared.option.Option.{Option}
use Rattle.std.specs.Io.KnownBytes.{Consumes, Appends, Keeps}
use Rattle.op_model.specs.Printed.{printed}
use Rattle.op_model.specs.Requests.{IsEnded}
use Rattle.op_model.specs.Round.{FeesAllowed, refusal_reply}
use Rattle.op_model.specs.declared.act.Entry.{Entry}
use Rattle.op_model.specs.declared.reply.Refusal.{Refusal}
use Rattle.op_session.specs.declared.status.Status.{Status}
use Rattle.op_session.specs.declared.status.Status.TheVariants.{Ended}
use Rattle.op_session.specs.Session.{Final, Session, begun, texts, replies, IsComplete, IsRefusal}
use Rattle.op_session.specs.Stood.{Stood, now}
use Rattle.op_session.specs.Turn.{Standing, Turn, Run}
use Rattle.op_session.specs.World.{World}
use Rattle.op_session.specs.declared.end.End.{End}
use Rattle.op_session.specs.declared.end.End.TheVariants as ends

-- ---- steps of a stream that is told

consumes_told : (a b : Option (List ℕ)) (x xs : List ℕ) → a ≡ Some xs → Consumes a b x → (ys : List ℕ) × (b ≡ Some ys) × (xs ≡ x ++ ys)
consumes_told None b x xs e p = absurd cc
consumes_told (Some zs) None x xs e p = absurd p
consumes_told (Some zs) (Some ys) x xs e p = (ys, refl, (let same : xs ≡ zs = cc in same) ∙ p)

appends_told : (a b : Option (List ℕ)) (x xs : List ℕ) → a ≡ Some xs → Appends a b x → b ≡ Some (xs ++ x)
appends_told None b x xs e p = absurd cc
appends_told (Some zs) None x xs e p = absurd p
appends_told (Some zs) (Some ys) x xs e p = let same : zs ≡ xs = cc in ap Some (p ∙ ap (λ (k : List ℕ). k ++ x) same)

keeps_told : (a b : Option (List ℕ)) (xs : List ℕ) → a ≡ Some xs → Keeps a b → b ≡ Some xs
keeps_told None b xs e p = absurd cc
keeps_told (Some zs) None xs e p = absurd p
keeps_told (Some zs) (Some ys) xs e p = let same : zs ≡ xs = cc in ap Some (p ∙ same)

-- ---- what turns read and write

record IsRead (first : Standing) (turns : List Turn) (last : Standing) (bytes old : List ℕ) : Type 0 where
  rest : List ℕ
  left : last.world.left ≡ Some rest
  read : bytes ≡ texts turns ++ rest
  written : last.world.written ≡ Some (old ++ replies turns)
  at : last.at ≡ first.at + length (texts turns)
  count : last.answered ≡ first.answered + length turns

run_reads : (allows : FeesAllowed) (turns : List Turn) (first last : Standing) (bytes old : List ℕ) → Run allows first turns last → first.world.left ≡ Some bytes → first.world.written ≡ Some old → IsRead first turns last bytes old
run_reads allows [] first last bytes old run l w = record {
  rest = bytes;
  left = ap (λ s. s.world.left) run ∙ l;
  read = refl;
  written = ap (λ s. s.world.written) run ∙ (w ∙ ap Some (sym (append-nil old)));
  at = omega (arith, ap (λ s. s.at) run);
  count = omega (arith, ap (λ s. s.answered) run);
}
run_reads allows (turn ∷ turns) first last bytes old (mid, is, run) l w =
    let read = consumes_told first.world.left mid.world.left turn.text bytes l is.begun.read in
    let wrote = appends_told first.world.written mid.world.written (printed turn.reply) old w is.written in
    let more = run_reads allows turns mid last read.0 (old ++ printed turn.reply) run read.1 wrote in
    record {
      rest = more.rest;
      left = more.left;
      read = read.2 ∙ (ap (λ (k : List ℕ). turn.text ++ k) more.read ∙ sym (append_assoc turn.text (texts turns) more.rest));
      written = more.written ∙ ap Some (append_assoc old (printed turn.reply) (replies turns));
      at = omega (arith, more.at, is.begun.moved, length-append turn.text (texts turns));
      count = omega (arith, more.count, is.begun.counted);
    }

-- what was read last is all that was left
all_held : (held ys rest : List ℕ) → ys ≡ [] → rest ≡ held ++ ys → held ≡ rest
all_held held ys rest q e = sym (e ∙ (ap (λ (k : List ℕ). held ++ k) q ∙ append-nil held))

-- nothing stands behind the replies
nothing_behind : (new : Option (List ℕ)) (old replied : List ℕ) → new ≡ Some (old ++ replied) → new ≡ Some (old ++ (replied ++ []))
nothing_behind new old replied e = e ∙ ap (λ (k : List ℕ). Some (old ++ k)) (sym (append-nil replied))

-- ---- a whole session

module _ (allows : FeesAllowed) (before after : World) (first : List Entry) (final : Final) where
  pub complete : (end : End) (s : Session allows (begun first before) after end final) (bytes old : List ℕ) → before.left ≡ Some bytes → before.written ≡ Some old → IsComplete end s.turns final bytes old after.written
  complete ends.Done s bytes old l w =
      let r = run_reads allows s.turns (begun first before) s.last bytes old s.run l w in
      let cause = s.ends.cause in
      let end = consumes_told s.last.world.left after.left s.ends.since.held r.rest r.left s.ends.read in
      let empty : end.0 ≡ [] = rw end.1 at cause.2 in (
        r.rest,
        subst IsEnded (all_held s.ends.since.held end.0 r.rest empty end.2) cause.1,
        record {
          read = r.read;
          written = nothing_behind after.written old (replies s.turns) (keeps_told s.last.world.written after.written (old ++ replies s.turns) r.written cause.3.unwritten);
        },
      )
  complete ends.Malformed s bytes old l w =
      let r = run_reads allows s.turns (begun first before) s.last bytes old s.run l w in
      let cause = s.ends.cause in
      let refusal : Refusal = cause.0 in
      let at : s.last.at ≡ length (texts s.turns) = omega (arith, r.at) in
      let same : s.last.stood ≡ final.stands = sym (ap (λ (f : Final). f.stands) cause.6) in (
        r.rest,
        refusal,
        subst (λ (n : ℕ). IsRefusal refusal n (Some r.rest)) at (subst (λ (left : Option (List ℕ)). IsRefusal refusal s.last.at left) r.left cause.2),
        record {
          read = r.read;
          written = appends_told s.last.world.written after.written _ (old ++ replies s.turns) r.written cause.5
              ∙ ap Some (append_assoc old (replies s.turns) (printed (refusal_reply (now s.last.stood) refusal))
              ∙ ap (λ (h : Stood). old ++ (replies s.turns ++ printed (refusal_reply (now h) refusal))) same);
        },
      )
  complete ends.TurnLimit s bytes old l w =
      let r = run_reads allows s.turns (begun first before) s.last bytes old s.run l w in
      let cause = s.ends.cause in (
        r.rest,
        omega (arith, r.count, cause.0),
        record {
          read = r.read;
          written = nothing_behind after.written old (replies s.turns) (keeps_told s.last.world.written after.written (old ++ replies s.turns) r.written cause.1.unwritten);
        },
      )
  complete ends.ReadFault s bytes old l w = tt
  complete ends.WriteFault s bytes old l w = tt
  complete ends.OutOfMemory s bytes old l w = tt
  complete ends.DiskFault s bytes old l w = tt
  complete ends.JournalFull s bytes old l w = tt
  complete ends.WordsFault s bytes old l w = tt

-- an end that is no fault, no want of memory or of room, and not the limit
pub ends_well : (end : End) → (Ended end ≡ Ended ends.ReadFault → ⊥) → (Ended end ≡ Ended ends.WriteFault → ⊥) → (Ended end ≡ Ended ends.DiskFault → ⊥) → (Ended end ≡ Ended ends.WordsFault → ⊥) → (Ended end ≡ Ended ends.JournalFull → ⊥) → (Ended end ≡ Ended ends.OutOfMemory → ⊥) → (Ended end ≡ Ended ends.TurnLimit → ⊥)
    → (Ended end ≡ Ended ends.Done) ⊎ (Ended end ≡ Ended ends.Malformed)
ends_well ends.Done r w d x f m t = inl refl
ends_well ends.Malformed r w d x f m t = inr refl
ends_well ends.ReadFault r w d x f m t = absurd (r refl)
ends_well ends.WriteFault r w d x f m t = absurd (w refl)
ends_well ends.DiskFault r w d x f m t = absurd (d refl)
ends_well ends.WordsFault r w d x f m t = absurd (x refl)
ends_well ends.JournalFull r w d x f m t = absurd (f refl)
ends_well ends.OutOfMemory r w d x f m t = absurd (m refl)
ends_well ends.TurnLimit r w d x f m t = absurd (t refl)
