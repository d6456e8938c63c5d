-- Reading from the front ends in one way.
use Rattle.std.proofs.Common.{◌≡◌, ◌≢◌, ◌⊎◌, inl, inr, ℕ, zero, suc, ◌+◌, ◌≤◌, ◌<◌, List, [], ◌∷◌, ◌++◌, length, take, drop, get_or, refl, sym, ap, ◌∙◌, subst, arith, append_assoc, length-append, take-append-drop}
use Rattle.std.specs.Prelude.{Some, None, IsTrue}
use Rattle.std.specs.List.{All}
use Rattle.std.specs.Int.{w32, to_be_bytes, from_be_bytes}
use Rattle.std.specs.declared.option.Option.{Option}
use Rattle.std.proofs.lemmas.Bool.{cases_lt}
use Rattle.std.proofs.lemmas.List.{drop-drop, length-take-le, take-take, take-append-le, take_at}
use Rattle.std.proofs.lemmas.Grind.{flat_map-append}
use Rattle.std.proofs.lemmas.Nat.{from_be_bytes-to_be_bytes_4}
use Rattle.std.proofs.Math.Seq.{drop-append_seam}
use Rattle.op_journal.specs.Frames.{Holds, IsFrameAt, IsBadFrame, size_at, header, frame, frames, limit}
use Rattle.op_model.proofs.LegalNext.{legal-front, legal-next}
use Rattle.op_model.specs.declared.act.Entry.{Entry}
use Rattle.op_record.proofs.RoundLaws.{bad_begins, one_round, round_begins_itself, same_place}
use Rattle.op_record.specs.Rounds.{IsRound}
use Rattle.op_desk.specs.Built.{is_built}
use Rattle.op_desk.specs.Laws.{SpellOneListOfRounds, SpellOneHistory}
use Rattle.op_desk.specs.Reading.{IsBadHeader, IsReadTo, IsBrokenAt, StopsAtEntry, Fails, IsFree}
use Rattle.op_desk.specs.Spelling.{AreRounds, SpellsSound, history_of}
use Rattle.op_desk.specs.Wallets.{IsSound, IsTaken}
use Rattle.op_desk.specs.declared.fault.DeskFault.{DeskFault}
use Rattle.op_desk.specs.declared.fault.DeskFault.TheVariants as faults
use Rattle.op_desk.proofs.Lists.{all-front, all-back}
use Rattle.op_desk.proofs.Recovering.{frame_opens, gate_size}
use Rattle.op_desk.proofs.Rounds.{none_spelled}

-- ---- broken payloads

broken_is_no_round : (payload : List ℕ) (at : ℕ) (round : List Entry) → IsBrokenAt payload at → IsRound payload round → ⊥
broken_is_no_round payload at round (inl cut) is = cut.0.1 round is
broken_is_no_round payload at round (inr bad) is = bad_begins payload at bad (round_begins_itself payload round is)

one_broken : (payload : List ℕ) (j k : ℕ) → IsBrokenAt payload j → IsBrokenAt payload k → j ≡ k
one_broken payload j k (inl a) (inl b) = a.1 ∙ sym b.1
one_broken payload j k (inl a) (inr b) = bad_begins payload k b a.0.0
one_broken payload j k (inr a) (inl b) = bad_begins payload j a b.0.0
one_broken payload j k (inr a) (inr b) = same_place payload j k a b

-- ---- payloads and their rounds

same_rounds : (payloads : List (List ℕ)) (a b : List (List Entry)) → AreRounds payloads a → AreRounds payloads b → a ≡ b
same_rounds [] [] [] x y = refl
same_rounds [] [] (r ∷ b) x y = absurd y
same_rounds [] (r ∷ a) b x y = absurd x
same_rounds (p ∷ payloads) [] b x y = absurd x
same_rounds (p ∷ payloads) (r ∷ a) [] x y = absurd y
same_rounds (p ∷ payloads) (r ∷ a) (s ∷ b) x y = ap (λ (h : List Entry). h ∷ a) (one_round p r s x.0 y.0) ∙ ap (λ (l : List (List Entry)). s ∷ l) (same_rounds payloads a b x.1 y.1)

-- the round of a payload behind others
further_round : (payloads more : List (List ℕ)) (p : List ℕ) (rounds all : List (List Entry)) → AreRounds payloads rounds → AreRounds (payloads ++ p ∷ more) all
    → (round : List Entry) × (rest : List (List Entry)) × IsRound p round × (all ≡ rounds ++ round ∷ rest)
further_round [] more p [] [] x y = absurd y
further_round [] more p [] (r ∷ all) x y = (r, all, y.0, refl)
further_round [] more p (r ∷ rounds) all x y = absurd x
further_round (q ∷ payloads) more p [] all x y = absurd x
further_round (q ∷ payloads) more p (r ∷ rounds) [] x y = absurd y
further_round (q ∷ payloads) more p (r ∷ rounds) (s ∷ all) x y =
    let f = further_round payloads more p rounds all x.1 y.1 in
    (f.0, f.1, f.2, ap (λ (l : List (List Entry)). s ∷ l) f.3 ∙ ap (λ (h : List Entry). h ∷ (rounds ++ f.0 ∷ f.1)) (sym (one_round q r s x.0 y.0)))

-- ---- entries that may not follow

sound_front : (xs ys : List Entry) → IsSound (xs ++ ys) → IsSound xs
sound_front xs ys sound = record { legal = legal-front xs ys sound.legal; built = all-front (λ (x : Entry). IsTrue (is_built x.act)) xs ys sound.built }

sound_taken : (history : List Entry) (e : Entry) → IsSound (history ++ e ∷ []) → IsTaken history e
sound_taken history e sound = record { next = ((legal-next history e).0 sound.legal).1; built = (all-back (λ (x : Entry). IsTrue (is_built x.act)) history (e ∷ []) sound.built).0 }

stops_not_sound : (history round : List Entry) (number : ℕ) → StopsAtEntry history round number → IsSound (history ++ round) → ⊥
stops_not_sound history round number stops sound =
    let whole : history ++ round ≡ (history ++ stops.before) ++ stops.entry ∷ stops.after = ap (λ (l : List Entry). history ++ l) stops.split ∙ sym (append_assoc history stops.before (stops.entry ∷ stops.after)) in
    let apart : history ++ round ≡ ((history ++ stops.before) ++ stops.entry ∷ []) ++ stops.after = whole ∙ sym (append_assoc (history ++ stops.before) (stops.entry ∷ []) stops.after) in
    stops.illegal (sound_taken (history ++ stops.before) stops.entry (sound_front ((history ++ stops.before) ++ stops.entry ∷ []) stops.after (subst IsSound apart sound)))

-- of two places at which it stops, neither is earlier
earlier_taken : (history before after before' after' : List Entry) (e e' : Entry) → before ++ e ∷ after ≡ before' ++ e' ∷ after' → length before < length before' → IsSound (history ++ before') → IsTaken (history ++ before) e
earlier_taken history before after before' after' e e' same low sound =
    let n = length before + 1 in
    let front : take n before' ≡ before ++ e ∷ [] = (
    sym (take-append-le n before' (e' ∷ after') (omega (arith, low))) ∙ ap (λ (l : List Entry). take n l) (sym same) ∙ ap (λ (l : List Entry). take n l) (sym (append_assoc before (e ∷ []) after))
    ∙ take_at (before ++ e ∷ []) after n (length-append before (e ∷ []))
    ) in
    let whole : history ++ before' ≡ ((history ++ before) ++ e ∷ []) ++ drop n before' = (
    ap (λ (l : List Entry). history ++ l) (sym (take-append-drop n before') ∙ ap (λ (l : List Entry). l ++ drop n before') front)
    ∙ sym (append_assoc history (before ++ e ∷ []) (drop n before')) ∙ ap (λ (l : List Entry). l ++ drop n before') (sym (append_assoc history before (e ∷ [])))
    ) in
    sound_taken (history ++ before) e (sound_front ((history ++ before) ++ e ∷ []) (drop n before') (subst IsSound whole sound))

one_stop : (history round : List Entry) (j k : ℕ) → StopsAtEntry history round j → StopsAtEntry history round k → j ≡ k
one_stop history round j k a b = elim (cases_lt (length a.before) (length b.before)) [
  | inl low ↦ absurd (a.illegal (earlier_taken history a.before a.after b.before b.after a.entry b.entry (sym a.split ∙ b.split) low b.sound))
  | inr high ↦ elim (cases_lt (length b.before) (length a.before)) [
    | inl low ↦ absurd (b.illegal (earlier_taken history b.before b.after a.before a.after b.entry a.entry (sym b.split ∙ a.split) low a.sound))
    | inr same ↦ omega (arith, high, same, a.place, b.place, length-append history a.before, length-append history b.before)
  ]
]

-- ---- frames

frame_split : (place : ℕ) (p bytes : List ℕ) → IsFrameAt place p bytes → drop place bytes ≡ frame p ++ drop (5 + length p) (drop place bytes)
frame_split place p bytes found = sym (take-append-drop (5 + length p) (drop place bytes)) ∙ ap (λ (l : List ℕ). l ++ drop (5 + length p) (drop place bytes)) found.stands

frame_size : (place : ℕ) (p bytes : List ℕ) → IsFrameAt place p bytes → size_at place bytes ≡ length p
frame_size place p bytes found =
    let four : take 4 (drop (place + 1) bytes) ≡ to_be_bytes w32 (length p) = ap (λ (l : List ℕ). take 4 l) (sym (drop-drop 1 place bytes) ∙ ap (λ (l : List ℕ). drop 1 l) (frame_split place p bytes found)) in
    ap (λ (l : List ℕ). from_be_bytes w32 l) four ∙ from_be_bytes-to_be_bytes_4 (length p) (omega (arith, found.within))

frame_payload : (place : ℕ) (p bytes : List ℕ) → IsFrameAt place p bytes → take (length p) (drop (place + 5) bytes) ≡ p
frame_payload place p bytes found =
    let behind : drop (place + 5) bytes ≡ p ++ drop (5 + length p) (drop place bytes) = sym (drop-drop 5 place bytes) ∙ ap (λ (l : List ℕ). drop 5 l) (frame_split place p bytes found) in
    ap (λ (l : List ℕ). take (length p) l) behind ∙ take_at p (drop (5 + length p) (drop place bytes)) (length p) refl

one_frame : (place : ℕ) (a b bytes : List ℕ) → IsFrameAt place a bytes → IsFrameAt place b bytes → a ≡ b
one_frame place a b bytes first second =
    let size : length a ≡ length b = sym (frame_size place a bytes first) ∙ frame_size place b bytes second in
    sym (frame_payload place a bytes first) ∙ ap (λ (n : ℕ). take n (drop (place + 5) bytes)) size ∙ frame_payload place b bytes second

not_bad_frame : (place : ℕ) (p bytes : List ℕ) → IsFrameAt place p bytes → IsBadFrame place bytes → ⊥
not_bad_frame place p bytes found bad = elim bad.wrong [
  | inl none ↦ absurd (omega (arith, none, frame_size place p bytes found, found.some))
  | inr long ↦ absurd (omega (arith, long, frame_size place p bytes found, found.gate, found.within))
]

-- ---- frames one after another

abbrev Walk : List ℕ → List (List ℕ) → ℕ → ℕ → Type 0
Walk bytes [] p q = p ≡ q
Walk bytes (payload ∷ payloads) p q = IsFrameAt p payload bytes × Walk bytes payloads (p + 5 + length payload) q

walk_from : (bytes pre : List ℕ) (payloads : List (List ℕ)) (p q : ℕ) → length pre ≡ p → take q bytes ≡ pre ++ frames payloads → q < length bytes → q < limit → All (λ (payload : List ℕ). 0 < length payload) payloads → Walk bytes payloads p q
walk_from bytes pre [] p q size front inside within some = omega (arith, size, length-take-le q bytes (omega (arith, inside)), ap length front, length-append pre [])
walk_from bytes pre (payload ∷ payloads) p q size front inside within some =
    let n = length payload in
    let f = frame payload in
    let rest = frames payloads in
    let f_size : length f ≡ 5 + n = omega (arith, length-append (to_be_bytes w32 n) payload) in
    let total : q ≡ p + (5 + n + length rest) = omega (arith, length-take-le q bytes (omega (arith, inside)), ap length front, length-append pre (f ++ rest), length-append f rest, f_size, size) in
    let split : bytes ≡ pre ++ (f ++ (rest ++ drop q bytes)) = (
    sym (take-append-drop q bytes) ∙ ap (λ (l : List ℕ). l ++ drop q bytes) front ∙ append_assoc pre (f ++ rest) (drop q bytes) ∙ ap (λ (l : List ℕ). pre ++ l) (append_assoc f rest (drop q bytes))
    ) in
    let behind : drop p bytes ≡ f ++ (rest ++ drop q bytes) = ap (λ (k : ℕ). drop k bytes) (sym size) ∙ ap (λ (l : List ℕ). drop (length pre) l) split ∙ drop-append_seam pre (f ++ (rest ++ drop q bytes)) in (
      record {
        stands = ap (λ (l : List ℕ). take (5 + n) l) behind ∙ take_at f (rest ++ drop q bytes) (5 + n) f_size;
        some = some zero [] (omega arith);
        gate = omega (arith, total, inside);
        within = omega (arith, total, within);
      },
      walk_from bytes (pre ++ f) payloads (p + 5 + n) q (omega (arith, length-append pre f, f_size, size)) (front ∙ sym (append_assoc pre f rest)) inside within (λ k d low. some (suc k) d (omega (arith, low))),
    )

walk_held : (bytes : List ℕ) (payloads : List (List ℕ)) (gate : ℕ) → Holds payloads gate bytes → Walk bytes payloads 8 gate
walk_held bytes payloads gate holds = walk_from bytes header payloads 8 gate refl holds.front holds.gate holds.within holds.some

-- one walk goes on behind another
pub record IsFurther (bytes : List ℕ) (xs : List (List ℕ)) (place : ℕ) (ys : List (List ℕ)) : Type 0 where
  pub payload : List ℕ
  pub more : List (List ℕ)
  pub is : ys ≡ xs ++ payload ∷ more
  pub frame : IsFrameAt place payload bytes

one_more : (bytes x : List ℕ) (xs ys : List (List ℕ)) (y : List ℕ) (place : ℕ) → x ≡ y → IsFurther bytes xs place ys → IsFurther bytes (x ∷ xs) place (y ∷ ys)
one_more bytes x xs ys y place same further = record {
  payload = further.payload;
  more = further.more;
  is = ap (λ (r : List ℕ). r ∷ ys) (sym same) ∙ ap (λ (l : List (List ℕ)). x ∷ l) further.is;
  frame = further.frame;
}

compared : (bytes : List ℕ) (xs ys : List (List ℕ)) (p q r : ℕ) → Walk bytes xs p q → Walk bytes ys p r → ((xs ≡ ys) × (q ≡ r)) ⊎ (IsFurther bytes xs q ys ⊎ IsFurther bytes ys r xs)
compared bytes [] [] p q r wx wy = inl (refl, sym wx ∙ wy)
compared bytes [] (y ∷ ys) p q r wx wy = inr (inl (record { payload = y; more = ys; is = refl; frame = subst (λ (k : ℕ). IsFrameAt k y bytes) wx wy.0 }))
compared bytes (x ∷ xs) [] p q r wx wy = inr (inr (record { payload = x; more = xs; is = refl; frame = subst (λ (k : ℕ). IsFrameAt k x bytes) wy wx.0 }))
compared bytes (x ∷ xs) (y ∷ ys) p q r wx wy =
    let same : x ≡ y = one_frame p x y bytes wx.0 wy.0 in
    let there : Walk bytes ys (p + 5 + length x) r = subst (λ (l : List ℕ). Walk bytes ys (p + 5 + length l) r) (sym same) wy.1 in
    elim (compared bytes xs ys (p + 5 + length x) q r wx.1 there) [
      | inl both ↦ inl (ap (λ (e : List ℕ). e ∷ xs) same ∙ ap (λ (l : List (List ℕ)). y ∷ l) both.0, both.1)
      | inr further ↦ elim further [
        | inl f ↦ inr (inl (one_more bytes x xs ys y q same f))
        | inr f ↦ inr (inr (one_more bytes y ys xs x r (sym same) f))
      ]
    ]

-- ---- what bytes spell

pub one_spelling : SpellOneListOfRounds
one_spelling bytes a b x y = elim x.frames_are [
  | inl short ↦ elim y.frames_are [
    | inl short' ↦ none_spelled x.payloads a x.are short.1 ∙ sym (none_spelled y.payloads b y.are short'.1)
    | inr long ↦ absurd (omega (arith, short.0, long.0))
  ]
  | inr long ↦ elim y.frames_are [
    | inl short ↦ absurd (omega (arith, short.0, long.0))
    | inr long' ↦ elim (compared bytes x.payloads y.payloads 8 long.1 long'.1 (walk_held bytes x.payloads long.1 long.2.holds) (walk_held bytes y.payloads long'.1 long'.2.holds)) [
      | inl same ↦ same_rounds y.payloads a b (subst (λ (l : List (List ℕ)). AreRounds l a) same.0 x.are) y.are
      | inr further ↦ elim further [
        | inl f ↦ absurd (long.2.closed (frame_opens long.1 f.payload bytes f.frame).1)
        | inr f ↦ absurd (long'.2.closed (frame_opens long'.1 f.payload bytes f.frame).1)
      ]
    ]
  ]
]

pub one_history : SpellOneHistory
one_history bytes a b x y = sym x.2 ∙ ap history_of (one_spelling bytes x.0 y.0 x.1 y.1) ∙ y.2

-- ---- how reading ends at a gate

abbrev AtRecord : List ℕ → ℕ → Option DeskFault → Type 0
AtRecord bytes gate o = (payload : List ℕ) × (within : ℕ) × IsFrameAt gate payload bytes × IsBrokenAt payload within × (o ≡ Some (faults.BadRecord (gate + 5 + within)))

abbrev AtEntry : List ℕ → List (List Entry) → ℕ → Option DeskFault → Type 0
AtEntry bytes rounds gate o =
    (payload : List ℕ) × (round : List Entry) × (number : ℕ) × IsRound payload round × IsFrameAt gate payload bytes × StopsAtEntry (history_of rounds) round number × (o ≡ Some (faults.Illegal number))

abbrev AtGate : List ℕ → ℕ → Option DeskFault → Type 0
AtGate bytes gate o = ((get_or bytes gate 0 ≢ 1) × (o ≡ None)) ⊎ (IsBadFrame gate bytes × (o ≡ Some (faults.BadFrame gate)))

abbrev IsEnd : List ℕ → List (List Entry) → ℕ → Option DeskFault → Type 0
IsEnd bytes rounds gate o = AtGate bytes gate o ⊎ (AtRecord bytes gate o ⊎ AtEntry bytes rounds gate o)

-- no whole frame stands at a gate at which reading ends
gate_has_no_frame : (bytes p : List ℕ) (gate : ℕ) (o : Option DeskFault) → AtGate bytes gate o → IsFrameAt gate p bytes → ⊥
gate_has_no_frame bytes p gate o (inl closed) found = closed.0 (frame_opens gate p bytes found).1
gate_has_no_frame bytes p gate o (inr bad) found = not_bad_frame gate p bytes found bad.0

-- a round that reading takes does not stand where it ends
end_takes_none : (bytes : List ℕ) (rounds : List (List Entry)) (gate : ℕ) (o : Option DeskFault) (payload : List ℕ) (round : List Entry) → IsEnd bytes rounds gate o → IsRound payload round → IsFrameAt gate payload bytes
    → IsSound (history_of rounds ++ round) → ⊥
end_takes_none bytes rounds gate o payload round (inl at) is found sound = gate_has_no_frame bytes payload gate o at found
end_takes_none bytes rounds gate o payload round (inr (inl at)) is found sound =
    broken_is_no_round at.0 at.1 round at.3 (subst (λ (p : List ℕ). IsRound p round) (one_frame gate payload at.0 bytes found at.2) is)
end_takes_none bytes rounds gate o payload round (inr (inr at)) is found sound =
    let same = one_round payload at.1 round (subst (λ (p : List ℕ). IsRound p at.1) (one_frame gate at.0 payload bytes at.4 found) at.3) is in
    stops_not_sound (history_of rounds) at.1 at.2 at.5 (subst (λ (l : List Entry). IsSound (history_of rounds ++ l)) (sym same) sound)

same_gate_end : (bytes : List ℕ) (gate : ℕ) (a b : Option DeskFault) → AtGate bytes gate a → AtGate bytes gate b → a ≡ b
same_gate_end bytes gate a b (inl x) (inl y) = x.1 ∙ sym y.1
same_gate_end bytes gate a b (inl x) (inr y) = absurd (x.0 y.0.is_open.1)
same_gate_end bytes gate a b (inr x) (inl y) = absurd (y.0 x.0.is_open.1)
same_gate_end bytes gate a b (inr x) (inr y) = x.1 ∙ sym y.1

same_end : (bytes : List ℕ) (rounds : List (List Entry)) (gate : ℕ) (a b : Option DeskFault) → IsEnd bytes rounds gate a → IsEnd bytes rounds gate b → a ≡ b
same_end bytes rounds gate a b (inl x) (inl y) = same_gate_end bytes gate a b x y
same_end bytes rounds gate a b (inl x) (inr (inl y)) = absurd (gate_has_no_frame bytes y.0 gate a x y.2)
same_end bytes rounds gate a b (inl x) (inr (inr y)) = absurd (gate_has_no_frame bytes y.0 gate a x y.4)
same_end bytes rounds gate a b (inr (inl x)) (inl y) = absurd (gate_has_no_frame bytes x.0 gate b y x.2)
same_end bytes rounds gate a b (inr (inr x)) (inl y) = absurd (gate_has_no_frame bytes x.0 gate b y x.4)
same_end bytes rounds gate a b (inr (inl x)) (inr (inl y)) =
    let payload = one_frame gate x.0 y.0 bytes x.2 y.2 in
    let within = one_broken y.0 x.1 y.1 (subst (λ (p : List ℕ). IsBrokenAt p x.1) payload x.3) y.3 in
    x.4 ∙ ap (λ (k : ℕ). Some (faults.BadRecord (gate + 5 + k))) within ∙ sym y.4
same_end bytes rounds gate a b (inr (inl x)) (inr (inr y)) = absurd (broken_is_no_round x.0 x.1 y.1 x.3 (subst (λ (p : List ℕ). IsRound p y.1) (one_frame gate y.0 x.0 bytes y.4 x.2) y.3))
same_end bytes rounds gate a b (inr (inr x)) (inr (inl y)) = absurd (broken_is_no_round y.0 y.1 x.1 y.3 (subst (λ (p : List ℕ). IsRound p x.1) (one_frame gate x.0 y.0 bytes x.4 y.2) x.3))
same_end bytes rounds gate a b (inr (inr x)) (inr (inr y)) =
    let same = one_round y.0 x.1 y.1 (subst (λ (p : List ℕ). IsRound p x.1) (one_frame gate x.0 y.0 bytes x.4 y.4) x.3) y.3 in
    let number = one_stop (history_of rounds) y.1 x.2 y.2 (subst (λ (l : List Entry). StopsAtEntry (history_of rounds) l x.2) same x.5) y.5 in
    x.6 ∙ ap (λ (k : ℕ). Some (faults.Illegal k)) number ∙ sym y.6

-- ---- where reading ends

record Ends (bytes : List ℕ) (o : Option DeskFault) : Type 0 where
  rounds : List (List Entry)
  gate : ℕ
  read : IsReadTo rounds gate bytes
  ended : IsEnd bytes rounds gate o

goes_no_further : (bytes : List ℕ) (rounds all : List (List Entry)) (gate last : ℕ) (o : Option DeskFault) → IsEnd bytes rounds gate o → (here : IsReadTo rounds gate bytes) → (read : IsReadTo all last bytes)
    → IsFurther bytes here.payloads gate read.payloads → ⊥
goes_no_further bytes rounds all gate last o ended here read further =
    let f = further_round here.payloads further.more further.payload rounds all here.are (subst (λ (l : List (List ℕ)). AreRounds l all) further.is read.are) in
    let whole : history_of all ≡ history_of rounds ++ (f.0 ++ history_of f.1) = ap history_of f.3 ∙ flat_map-append (λ (r : List Entry). r) rounds (f.0 ∷ f.1) in
    let sound = sound_front (history_of rounds ++ f.0) (history_of f.1) (subst IsSound (whole ∙ sym (append_assoc (history_of rounds) f.0 (history_of f.1))) read.sound) in
    end_takes_none bytes rounds gate o further.payload f.0 ended f.2 further.frame sound

one_end : (bytes : List ℕ) (a b : Option DeskFault) → Ends bytes a → Ends bytes b → a ≡ b
one_end bytes a b x y =
    elim (compared bytes x.read.payloads y.read.payloads 8 x.gate y.gate (walk_held bytes x.read.payloads x.gate x.read.holds) (walk_held bytes y.read.payloads y.gate y.read.holds)) [
      | inl same ↦
          let rounds = same_rounds y.read.payloads x.rounds y.rounds (subst (λ (l : List (List ℕ)). AreRounds l x.rounds) same.0 x.read.are) y.read.are in
          same_end bytes y.rounds y.gate a b (subst (λ (k : ℕ). IsEnd bytes y.rounds k a) same.1 (subst (λ (l : List (List Entry)). IsEnd bytes l x.gate a) rounds x.ended)) y.ended
      | inr further ↦ elim further [
        | inl f ↦ absurd (goes_no_further bytes x.rounds y.rounds x.gate y.gate a x.ended x.read y.read f)
        | inr f ↦ absurd (goes_no_further bytes y.rounds x.rounds y.gate x.gate b y.ended y.read x.read f)
      ]
    ]

-- ---- faults

header_is_read : (bytes : List ℕ) (o : Option DeskFault) → Ends bytes o → IsBadHeader bytes → ⊥
header_is_read bytes o ends bad =
    let far : 8 ≤ ends.gate = omega (arith, gate_size ends.read.payloads ends.gate bytes ends.read.holds) in
    bad.strange (sym (take-take 8 ends.gate bytes far) ∙ ap (λ (l : List ℕ). take 8 l) ends.read.holds.front)

fault_ends : (bytes : List ℕ) (fault : DeskFault) → Fails fault bytes → (IsBadHeader bytes × (fault ≡ faults.BadHeader)) ⊎ Ends bytes (Some fault)
fault_ends bytes faults.DiskFault fails = absurd fails
fault_ends bytes faults.BadHeader fails = inl (fails, refl)
fault_ends bytes (faults.BadFrame at) fails = inr (record { rounds = fails.rounds; gate = at; read = fails.read; ended = inl (inr (fails.bad, refl)) })
fault_ends bytes (faults.BadRecord at) fails =
    inr (record { rounds = fails.rounds; gate = fails.gate; read = fails.read; ended = inr (inl (fails.payload, fails.within, fails.frame, fails.broken, ap (λ (k : ℕ). Some (faults.BadRecord k)) fails.place)) })
fault_ends bytes (faults.Illegal number) fails =
    inr (record { rounds = fails.rounds; gate = fails.gate; read = fails.read; ended = inr (inr (fails.payload, fails.round, number, fails.is, fails.frame, fails.stops, refl)) })
fault_ends bytes faults.Memory fails = absurd fails

some_is : (a b : DeskFault) → Some a ≡ Some b → a ≡ b
some_is a b is = cc

-- bytes fail in one way
pub one_fault : (bytes : List ℕ) (a b : DeskFault) → Fails a bytes → Fails b bytes → a ≡ b
one_fault bytes a b x y = elim (fault_ends bytes a x) [
  | inl header ↦ elim (fault_ends bytes b y) [
    | inl header' ↦ header.1 ∙ sym header'.1
    | inr ends ↦ absurd (header_is_read bytes (Some b) ends header.0)
  ]
  | inr ends ↦ elim (fault_ends bytes b y) [
    | inl header ↦ absurd (header_is_read bytes (Some a) ends header.0)
    | inr ends' ↦ some_is a b (one_end bytes (Some a) (Some b) ends ends')
  ]
]

long_where : (bytes : List ℕ) (fault : DeskFault) → Fails fault bytes → 9 < length bytes
long_where bytes fault fails = elim (fault_ends bytes fault fails) [
  | inl header ↦ header.0.long
  | inr ends ↦ ends.read.long
]

-- bytes that spell a legal history do not fail
pub sound_fails_not : (bytes : List ℕ) (history : List Entry) (fault : DeskFault) → SpellsSound history bytes → Fails fault bytes → ⊥
sound_fails_not bytes history fault spells fails =
    let rounds = spells.spells.0 in
    let told = spells.spells.1 in
    elim told.frames_are [
      | inl short ↦ absurd (omega (arith, short.0, long_where bytes fault fails))
      | inr long ↦
          let ends : Ends bytes None = record {
            rounds = rounds;
            gate = long.1;
            read = record { long = long.0; payloads = told.payloads; are = told.are; holds = long.2.holds; sound = subst IsSound (sym spells.spells.2) spells.sound };
            ended = inl (inl (long.2.closed, refl));
          } in
          elim (fault_ends bytes fault fails) [
            | inl header ↦ absurd (header_is_read bytes None ends header.0)
            | inr ends' ↦ cc (one_end bytes None (Some fault) ends ends')
          ]
    ]

-- ---- the answers of the opening

pub due_where : (bytes : List ℕ) (e fault : DeskFault) → IsFree e ⊎ Fails e bytes → Fails fault bytes → (e ≡ fault) ⊎ IsFree e
due_where bytes e fault (inl free) fails = inr free
due_where bytes e fault (inr due) fails = inl (one_fault bytes e fault due fails)

pub free_where : (bytes : List ℕ) (e : DeskFault) (history : List Entry) → IsFree e ⊎ Fails e bytes → SpellsSound history bytes → IsFree e
free_where bytes e history (inl free) spells = free
free_where bytes e history (inr due) spells = absurd (sound_fails_not bytes history e spells due)
