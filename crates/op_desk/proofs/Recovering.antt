-- Reading a journal from the front.
use Rattle.std.proofs.Common.{◌≡◌, ◌≢◌, ◌⊎◌, inl, inr, ℕ, ◌+◌, ◌*◌, ◌≤◌, ◌<◌, Bool, true, false, if◌then◌else◌, List, [], ◌∷◌, ◌++◌, length, drop, get_or, refl, sym, ap, ◌∙◌, subst, arith, length-append}
use Rattle.std.proofs.lemmas.List.{append-nil, length-take-le, get_or-take, get_or-drop}
use Rattle.std.proofs.lemmas.Grind.{flat_map-append}
use Rattle.op_journal.specs.Frames.{Holds, SpellsUpTo, IsFrameAt, IsBadFrame, IsOpen, header, frame, frames}
use Rattle.op_journal.specs.Recovered.{Opened, IsFound, IsOldOrShort}
use Rattle.op_model.specs.declared.act.Entry.{Entry}
use Rattle.op_record.specs.Rounds.{IsRound}
use Rattle.op_desk.specs.Payloads.{IsLoaded, IsOfPayload}
use Rattle.op_desk.specs.Reading.{IsBadHeader, IsReadTo, FailsAtFrame, FailsAtRecord, FailsAtEntry, IsBrokenAt, StopsAtEntry, Fails, IsFree}
use Rattle.op_desk.specs.Spelling.{AreRounds, SpellsRounds, Spells, history_of}
use Rattle.op_desk.specs.Wallets.{IsSound}
use Rattle.op_journal.specs.declared.recovery.JournalFault.{JournalFault}
use Rattle.op_journal.specs.declared.recovery.JournalFault.TheVariants as journal
use Rattle.op_desk.specs.Faults.{of_journal}
use Rattle.op_desk.specs.declared.fault.DeskFault.{DeskFault}
use Rattle.op_desk.specs.declared.fault.DeskFault.TheVariants as faults
use Rattle.op_desk.proofs.Rounds.{one_more_round}

-- what was read so far: the frames of these rounds, up to a gate at this place
pub record HasRead (old seen : List ℕ) (images : List ℕ → Type 0) (size gate : ℕ) (history : List Entry) : Type 0 where
  pub opened : Opened old seen
  pub found : IsFound size seen images
  pub rounds : List (List Entry)
  pub payloads : List (List ℕ)
  pub are : AreRounds payloads rounds
  pub holds : Holds payloads gate seen
  pub is : history_of rounds ≡ history

pub history_of-next : (rounds : List (List Entry)) (round : List Entry) → history_of (rounds ++ round ∷ []) ≡ history_of rounds ++ round
history_of-next rounds round = flat_map-append (λ (r : List Entry). r) rounds (round ∷ []) ∙ ap (λ (l : List Entry). history_of rounds ++ l) (append-nil round)

-- the calls of an opening that has met no frame yet
pub first_calls : (short : Bool) (old new : ℕ) → new ≡ (if short then old + 4 else old + 3) → new ≡ old + ((if short then 4 else 3) + 3 * 0)
first_calls true old new is = omega (arith, is)
first_calls false old new is = omega (arith, is)

-- one frame more
unfoldable pub read_more : (old seen new : List ℕ) (images now : List ℕ → Type 0) (size size' gate next : ℕ) (history grown : List Entry) (payload : List ℕ) → HasRead old seen images size gate history
    → new ≡ seen → IsFound size' new now → ((payloads : List (List ℕ)) → Holds payloads gate seen → Holds (payloads ++ payload ∷ []) next new) → IsLoaded payload history grown → HasRead old new now size' next grown
read_more old seen new images now size size' gate next history grown payload read same found holds round = record {
  opened = subst (λ (l : List ℕ). Opened old l) (sym same) read.opened;
  found = found;
  rounds = read.rounds ++ round.round ∷ [];
  payloads = read.payloads ++ payload ∷ [];
  are = one_more_round read.payloads read.rounds payload round.round read.are round.is;
  holds = holds read.payloads read.holds;
  is = history_of-next read.rounds round.round ∙ ap (λ (l : List Entry). l ++ round.round) read.is ∙ sym round.grown;
}

-- ---- a short disk has no frame

pub gate_size : (payloads : List (List ℕ)) (gate : ℕ) (bytes : List ℕ) → Holds payloads gate bytes → gate ≡ 8 + length (frames payloads)
gate_size payloads gate bytes holds = omega (arith, length-take-le gate bytes (omega (arith, holds.gate)), ap length holds.front, length-append header (frames payloads))

pub none_framed : (payloads : List (List ℕ)) → length (frames payloads) ≤ 0 → payloads ≡ []
none_framed [] short = refl
none_framed (payload ∷ payloads) short = absurd (omega (arith, short, length-append (frame payload) (frames payloads)))

-- an open gate is behind the first nine bytes, or the disk was longer from the start
fresh_is_closed : (payloads : List (List ℕ)) (gate : ℕ) (old seen : List ℕ) → Holds payloads gate seen → Opened old seen → IsOpen gate seen → (9 < length old) × (seen ≡ old)
fresh_is_closed payloads gate old seen holds (inl short) is_open =
    let long : length seen ≡ 9 = ap length short.1 in
    let at : gate ≡ 8 = omega (arith, gate_size payloads gate seen holds, holds.gate, long) in
    let byte : get_or seen 8 0 ≡ 0 = ap (λ (l : List ℕ). get_or l 8 0) short.1 in
    let one : get_or seen 8 0 ≡ 1 = ap (λ (k : ℕ). get_or seen k 0) (sym at) ∙ is_open.1 in
    absurd (omega (arith, byte, one))
fresh_is_closed payloads gate old seen holds (inr long) is_open = (long.0, long.2)

pub frame_opens : (gate : ℕ) (payload bytes : List ℕ) → IsFrameAt gate payload bytes → IsOpen gate bytes
frame_opens gate payload bytes found = (
  omega (arith, found.gate),
  (
      let zero_more : gate + 0 ≡ gate = omega arith in
      ap (λ (k : ℕ). get_or bytes k 0) (sym zero_more) ∙ sym (get_or-drop gate bytes 0 0) ∙ sym (get_or-take (5 + length payload) (drop gate bytes) 0 0 (omega arith)) ∙ ap (λ (l : List ℕ). get_or l 0 0) found.stands
      ),
)

pub read_to : (old seen : List ℕ) (images : List ℕ → Type 0) (size gate : ℕ) (history : List Entry) (read : HasRead old seen images size gate history) → IsSound history → IsOpen gate seen → IsReadTo (read.rounds) gate old × (seen ≡ old)
read_to old seen images size gate history read sound is_open =
    let long = fresh_is_closed read.payloads gate old seen read.holds read.opened is_open in
    (record { long = long.0; payloads = read.payloads; are = read.are; holds = subst (λ (l : List ℕ). Holds read.payloads gate l) long.1 read.holds; sound = subst IsSound (sym read.is) sound }, long.1)

-- ---- where it fails

pub fails_at_frame : (old seen : List ℕ) (images : List ℕ → Type 0) (size gate : ℕ) (history : List Entry) → HasRead old seen images size gate history → IsSound history → IsBadFrame gate seen → FailsAtFrame old gate
fails_at_frame old seen images size gate history read sound bad =
    let to = read_to old seen images size gate history read sound bad.is_open in
    record { rounds = read.rounds; read = to.0; bad = subst (λ (l : List ℕ). IsBadFrame gate l) to.1 bad }

pub fails_at_record : (old seen : List ℕ) (images : List ℕ → Type 0) (size gate at within : ℕ) (history : List Entry) (payload : List ℕ) → HasRead old seen images size gate history → IsSound history → IsFrameAt gate payload seen
    → IsBrokenAt payload within → at ≡ gate + 5 + within → FailsAtRecord old at
fails_at_record old seen images size gate at within history payload read sound found broken place =
    let to = read_to old seen images size gate history read sound (frame_opens gate payload seen found) in
    record { rounds = read.rounds; gate = gate; payload = payload; within = within; read = to.0; frame = subst (λ (l : List ℕ). IsFrameAt gate payload l) to.1 found; broken = broken; place = place }

pub fails_at_entry : (old seen : List ℕ) (images : List ℕ → Type 0) (size gate number : ℕ) (history round : List Entry) (payload : List ℕ) → HasRead old seen images size gate history → IsSound history → IsFrameAt gate payload seen
    → IsRound payload round → StopsAtEntry history round number → FailsAtEntry old number
fails_at_entry old seen images size gate number history round payload read sound found is stops =
    let to = read_to old seen images size gate history read sound (frame_opens gate payload seen found) in
    record {
      rounds = read.rounds;
      gate = gate;
      payload = payload;
      round = round;
      read = to.0;
      is = is;
      frame = subst (λ (l : List ℕ). IsFrameAt gate payload l) to.1 found;
      stops = subst (λ (h : List Entry). StopsAtEntry h round number) (sym read.is) stops;
    }

-- the faults of the journal, as a desk names them
pub begin_due : (old : List ℕ) (fault : JournalFault) → (fault ≡ journal.DiskFault) ⊎ (fault ≡ journal.BadHeader) → (fault ≡ journal.BadHeader → IsBadHeader old) → IsFree (of_journal fault) ⊎ Fails (of_journal fault) old
begin_due old journal.DiskFault which bad = inl tt
begin_due old journal.BadHeader which bad = inr (bad refl)
begin_due old (journal.BadFrame at) (inl is) bad = cc
begin_due old (journal.BadFrame at) (inr is) bad = cc
begin_due old journal.Memory which bad = inl tt

pub next_due : (old : List ℕ) (fault : JournalFault) → fault ≢ journal.BadHeader → ((at : ℕ) → fault ≡ journal.BadFrame at → FailsAtFrame old at) → IsFree (of_journal fault) ⊎ Fails (of_journal fault) old
next_due old journal.DiskFault other bad = inl tt
next_due old journal.BadHeader other bad = absurd (other refl)
next_due old (journal.BadFrame at) other bad = inr (bad at refl)
next_due old journal.Memory other bad = inl tt

pub payload_due : (old : List ℕ) (fault : DeskFault) → IsOfPayload fault → ((at : ℕ) → fault ≡ faults.BadRecord at → FailsAtRecord old at) → ((number : ℕ) → fault ≡ faults.Illegal number → FailsAtEntry old number) → IsFree fault ⊎ Fails fault old
payload_due old faults.DiskFault of broken illegal = absurd of
payload_due old faults.BadHeader of broken illegal = absurd of
payload_due old (faults.BadFrame at) of broken illegal = absurd of
payload_due old (faults.BadRecord at) of broken illegal = inr (broken at refl)
payload_due old (faults.Illegal number) of broken illegal = inr (illegal number refl)
payload_due old faults.Memory of broken illegal = inl tt

-- ---- at the end

unfoldable pub spells_all : (old seen : List ℕ) (images : List ℕ → Type 0) (size gate : ℕ) (history : List Entry) (read : HasRead old seen images size gate history) → SpellsUpTo read.payloads gate seen → Spells history old
spells_all old seen images size gate history read upto = (
  read.rounds,
  record {
    payloads = read.payloads;
    are = read.are;
    frames_are = elim read.opened [
      | inl short ↦
          let low : length (frames read.payloads) ≤ 0 = omega (arith, gate_size read.payloads gate seen read.holds, read.holds.gate, ap length short.1) in
          inl (short.0, none_framed read.payloads low)
      | inr long ↦ inr (long.0, gate, subst (λ (l : List ℕ). SpellsUpTo read.payloads gate l) long.2 upto)
    ];
  },
  read.is,
)

-- ---- at every moment

-- what a read gave since the opening is an image that there was, or a short one
pub read_is_old : (old seen c : List ℕ) (images : List ℕ → Type 0) → Opened old seen → images old → c ≡ seen → IsOldOrShort images old c
read_is_old old seen c images (inl short) here is = inr (short.0, omega (arith, ap length is, ap length short.1))
read_is_old old seen c images (inr long) here is = inl (subst images (sym (is ∙ long.2)) here)

-- short disks spell the same
pub short_spells : (rounds : List (List Entry)) (seen c : List ℕ) → length seen ≤ 9 → length c ≤ 9 → SpellsRounds rounds seen → SpellsRounds rounds c
short_spells rounds seen c short low spelled = record {
  payloads = spelled.payloads;
  are = spelled.are;
  frames_are = elim spelled.frames_are [
    | inl none ↦ inl (low, none.1)
    | inr long ↦ absurd (omega (arith, short, long.0))
  ];
}
