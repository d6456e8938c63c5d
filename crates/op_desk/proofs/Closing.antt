-- What a commit leaves, as rounds.
use Rattle.std.proofs.Common.{◌≡◌, ◌≢◌, inl, inr, ⊎_elim, ℕ, ◌+◌, ◌≤◌, ◌<◌, List, [], ◌∷◌, ◌++◌, length, length-append, take, get_or, refl, sym, ap, ◌∙◌, subst, arith, length-take}
use Rattle.std.proofs.lemmas.Bool.{cases_lt}
use Rattle.std.proofs.lemmas.List.{get_or-take, take-take}
use Rattle.std.proofs.lemmas.List.Concat.{flat_map-append}
use Rattle.std.specs.Int.{w32, to_be_bytes}
use Rattle.std.specs.Option.{option_map_or}
use Rattle.std.specs.declared.option.Option.{Option}
use Rattle.op_disk.proofs.Moments.{started}
use Rattle.op_disk.specs.Moments.{LeavesOnly}
use Rattle.op_disk.specs.declared.Disk.{Ghosts}
use Rattle.op_journal.proofs.Fronts.{same_spells, spells_all}
use Rattle.op_journal.specs.Commits as journal
use Rattle.op_journal.specs.Commits.{IsSettled, payload_of}
use Rattle.op_journal.specs.Frames as layout
use Rattle.op_journal.specs.Frames.{Holds, SpellsUpTo, header, limit, frame, frames}
use Rattle.op_model.specs.declared.act.Entry.{Entry}
use Rattle.op_record.specs.Rounds.{IsRound, moment_of, round_of}
use Rattle.op_desk.specs.Batches.{IsWhole}
use Rattle.op_desk.specs.Spelling.{AreRounds, history_of, SpellsRounds, SpellsEither, LacksRoom, Stands, with_round}
use Rattle.op_desk.specs.Wallets.{WalletValue}
use Rattle.op_desk.proofs.Recovering.{gate_size, none_framed}
use Rattle.op_desk.proofs.Rounds.{one_more_round, round_size}

pub rounds_spelled : (rounds : List (List Entry)) (payloads : List (List ℕ)) (tail : ℕ) (c : List ℕ) → AreRounds payloads rounds → SpellsUpTo payloads tail c → SpellsRounds rounds c
rounds_spelled rounds payloads tail c are upto = record { payloads = payloads; are = are; frames_are = spells_all payloads tail c upto }

-- each image of a disk that stands spells its rounds
pub image_spells : (rounds : List (List Entry)) (tail : ℕ) (seen : List ℕ) (images : List ℕ → Type 0) (c : List ℕ) → Stands rounds tail seen images → images c → SpellsRounds rounds c
image_spells rounds tail seen images c stands here =
    rounds_spelled rounds stands.payloads tail c stands.are (same_spells stands.payloads tail seen c stands.holds stands.settled.closed.1 (stands.settled.alike c here))

-- a desk has one history
pub one_history : (wallet : Option WalletValue) (a b : List Entry) → IsWhole wallet a → IsWhole wallet b → a ≡ b
one_history wallet a b x y = ap (λ (o : Option WalletValue). option_map_or (λ (w : WalletValue). w.history) o []) (sym x ∙ y)

-- ---- the new round

pub with_some : (rounds : List (List Entry)) (round : List Entry) → (round ≡ [] → ⊥) → with_round rounds round ≡ rounds ++ round ∷ []
with_some rounds [] some = absurd (some refl)
with_some rounds (e ∷ es) some = refl

pub stands_more : (rounds : List (List Entry)) (round : List Entry) (payloads : List (List ℕ)) (body : List ℕ) (tail : ℕ) (seen : List ℕ) (images : List ℕ → Type 0) → (round ≡ [] → ⊥) → AreRounds payloads rounds → IsRound (payload_of body) round
    → SpellsUpTo (payloads ++ payload_of body ∷ []) tail seen → IsSettled tail seen images → Stands (with_round rounds round) tail seen images
stands_more rounds round payloads body tail seen images some are is upto settled =
    subst (λ (all : List (List Entry)). Stands all tail seen images) (sym (with_some rounds round some)) (record {
      payloads = payloads ++ payload_of body ∷ [];
      are = one_more_round payloads rounds (payload_of body) round are is;
      holds = upto.holds;
      settled = settled;
    })

either_more : (rounds : List (List Entry)) (round : List Entry) (payloads : List (List ℕ)) (body : List ℕ) (tail : ℕ) (c : List ℕ) → (round ≡ [] → ⊥) → AreRounds payloads rounds → IsRound (payload_of body) round
    → journal.SpellsEither payloads tail body c → SpellsEither rounds round c
either_more rounds round payloads body tail c some are is (inl old) = inl (rounds_spelled rounds payloads tail c are old)
either_more rounds round payloads body tail c some are is (inr new) =
    inr (subst (λ (all : List (List Entry)). SpellsRounds all c) (sym (with_some rounds round some))
    (rounds_spelled (rounds ++ round ∷ []) (payloads ++ payload_of body ∷ []) (tail + length body) c (one_more_round payloads rounds (payload_of body) round are is) new))

-- ---- at every moment

module _ {D : Type 0} (disk : Ghosts D) where
  weakened : (old new : D) (P Q : List ℕ → Type 0) → LeavesOnly disk old new P → ((c : List ℕ) → P c → Q c) → LeavesOnly disk old new Q
  weakened old new P Q only also = record {
    later = only.later;
    each = λ c left. also c (only.each c left);
    before = λ t c le left. ⊎_elim (λ was. inl was) (λ here. inr (also c here)) (only.before t c le left);
  }

  pub moments_more : (old new : D) (rounds : List (List Entry)) (round : List Entry) (payloads : List (List ℕ)) (body : List ℕ) (tail : ℕ) → (round ≡ [] → ⊥) → AreRounds payloads rounds → IsRound (payload_of body) round
      → LeavesOnly disk old new (journal.SpellsEither payloads tail body) → LeavesOnly disk old new (SpellsEither rounds round)
  moments_more old new rounds round payloads body tail some are is only =
      weakened old new (journal.SpellsEither payloads tail body) (SpellsEither rounds round) only (λ c either. either_more rounds round payloads body tail c some are is either)

  -- where nothing is done
  pub moments_none : (only_now : (d : D) (c : List ℕ) → disk.since d (disk.moment d) c → disk.images d c) (d : D) (rounds : List (List Entry)) (round : List Entry) (tail : ℕ)
      → Stands rounds tail (disk.seen d) (disk.images d) → LeavesOnly disk d d (SpellsEither rounds round)
  moments_none only_now d rounds round tail stands =
      started disk d (SpellsEither rounds round) (λ c left. inl (image_spells rounds tail (disk.seen d) (disk.images d) c stands (only_now d c left)))

-- ---- a round that has no room

frame_size : (payload : List ℕ) → length (frame payload) ≡ 5 + length payload
frame_size payload = omega (arith, length-append (to_be_bytes w32 (length payload)) payload)

pub lacks_room : (rounds : List (List Entry)) (before round : List Entry) (at tail : ℕ) (seen : List ℕ) (images : List ℕ → Type 0) → Stands rounds tail seen images → images seen → history_of rounds ≡ before
    → limit < tail + (length (round_of at round) + 6) → LacksRoom before (before ++ round) seen
lacks_room rounds before round at tail seen images stands here found past =
    let old = stands.payloads in
    let new = round_of (moment_of round) round in
    let size : length (header ++ frames (old ++ new ∷ [])) ≡ 8 + (length (frames old) + (5 + length new)) =
    ap (λ (l : List ℕ). length (header ++ l)) (flat_map-append frame old (new ∷ []))
    ∙ omega (arith, length-append header (frames old ++ frames (new ∷ [])), length-append (frames old) (frames (new ∷ [])), length-append (frame new) [], frame_size new) in
    record {
      rounds = rounds;
      spelled = record {
        payloads = old;
        are = stands.are;
        frames_are = spells_all old tail seen (same_spells old tail seen seen stands.holds stands.settled.closed.1 (stands.settled.alike seen here));
      };
      found = found;
      round = round;
      wanted = refl;
      passes = omega (arith, past, size, gate_size old tail seen stands.holds, round_size at round, round_size (moment_of round) round);
    }
