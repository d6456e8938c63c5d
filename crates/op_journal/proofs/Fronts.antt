-- What bytes hold depends on what stands up to the gate.
use Rattle.std.proofs.Common.{◌≡◌, ◌≢◌, inl, inr, ℕ, zero, suc, ◌+◌, ◌-◌, ◌≤◌, ◌<◌, min, List, [], ◌∷◌, ◌++◌, length, get_or, take, drop, refl, sym, ◌∙◌, ap, subst, arith, append_assoc, length-append, length-drop, length-take, take-append-drop}
use Rattle.std.proofs.lemmas.Bool.{cases_eq, cases_lt}
use Rattle.std.proofs.lemmas.List.{take_at, drop_more, length-take-le, take-take, drop-drop, get_or-take, get_or-drop, get_or-append_right, append-nil}
use Rattle.std.proofs.lemmas.List.Elements.{All-append}
use Rattle.std.proofs.lemmas.Grind.{flat_map-append}
use Rattle.std.proofs.lemmas.List.Concat.{flat_map-cons}
use Rattle.std.proofs.Math.Seq.{take-add}
use Rattle.std.specs.List.{All}
use Rattle.std.specs.Int.{w32, to_be_bytes}
use Rattle.op_journal.specs.Frames.{Holds, SpellsUpTo, Spells, IsClosed, IsFrameAt, header, frame, frames, limit}
use Rattle.op_journal.specs.Commits.{IsBody, SpellsEither, payload_of}

shorter_front : (n m : ℕ) (bytes x : List ℕ) → n ≤ m → take m x ≡ take m bytes → take n x ≡ take n bytes
shorter_front n m bytes x le same = sym (take-take n m x le) ∙ ap (λ (l : List ℕ). take n l) same ∙ take-take n m bytes le

same_length : (n : ℕ) (bytes x : List ℕ) → n ≤ length bytes → take n x ≡ take n bytes → n ≤ length x
same_length n bytes x le same = omega (arith, le, length-take n x, length-take n bytes, ap length same)

-- the same up to and with the gate
pub same_holds : (payloads : List (List ℕ)) (place : ℕ) (bytes x : List ℕ) → Holds payloads place bytes → take (place + 1) x ≡ take (place + 1) bytes → Holds payloads place x
same_holds payloads place bytes x holds same = record {
  front = shorter_front place (place + 1) bytes x (omega arith) same ∙ holds.front;
  some = holds.some;
  gate = omega (arith, same_length (place + 1) bytes x (omega (arith, holds.gate)) same);
  within = holds.within;
}

pub same_gate : (place : ℕ) (bytes x : List ℕ) → take (place + 1) x ≡ take (place + 1) bytes → get_or x place 0 ≡ get_or bytes place 0
same_gate place bytes x same =
    sym (get_or-take (place + 1) x place 0 (omega arith)) ∙ ap (λ (l : List ℕ). get_or l place 0) same ∙ get_or-take (place + 1) bytes place 0 (omega arith)

pub same_spells : (payloads : List (List ℕ)) (place : ℕ) (bytes x : List ℕ) → Holds payloads place bytes → get_or bytes place 0 ≢ 1 → take (place + 1) x ≡ take (place + 1) bytes → SpellsUpTo payloads place x
same_spells payloads place bytes x holds closed same = record {
  holds = same_holds payloads place bytes x holds same;
  closed = λ is. closed (sym (same_gate place bytes x same) ∙ is);
}

all_one : (payload : List ℕ) → 0 < length payload → All (λ (l : List ℕ). 0 < length l) (payload ∷ [])
all_one payload some zero d inside = some
all_one payload some (suc k) d inside = absurd (omega (arith, inside))

-- one frame more
pub one_more : (payloads : List (List ℕ)) (place : ℕ) (bytes x : List ℕ) (payload rest : List ℕ) → Holds payloads place bytes → take place x ≡ take place bytes → x ≡ (take place x ++ frame payload) ++ rest
    → 0 < length payload → 0 < length rest → place + 5 + length payload < limit → Holds (payloads ++ payload ∷ []) (place + 5 + length payload) x
one_more payloads place bytes x payload rest holds same split some gate within =
    let front : length (take place x) ≡ place = ap length same ∙ length-take-le place bytes (omega (arith, holds.gate)) in
    let size : length (take place x ++ frame payload) ≡ place + 5 + length payload =
    omega (arith, front, length-append (take place x) (frame payload), length-append (to_be_bytes w32 (length payload)) payload) in
    let known : take place x ++ frame payload ≡ header ++ frames (payloads ++ payload ∷ []) = (
    ap (λ (l : List ℕ). l ++ frame payload) (same ∙ holds.front)
    ∙ append_assoc header (frames payloads) (frame payload)
    ∙ ap (λ (l : List ℕ). header ++ l) (ap (λ (l : List ℕ). frames payloads ++ l) (sym (append-nil (frame payload))) ∙ sym (flat_map-append frame payloads (payload ∷ [])))
    ) in
    record {
      front = ap (λ (l : List ℕ). take (place + 5 + length payload) l) split ∙ take_at (take place x ++ frame payload) rest (place + 5 + length payload) size ∙ known;
      some = All-append (λ (l : List ℕ). 0 < length l) payloads (payload ∷ []) holds.some (all_one payload some);
      gate = omega (arith, ap length split, length-append (take place x ++ frame payload) rest, size, gate);
      within = within;
    }

body_size : (body : List ℕ) → IsBody body → length body ≡ 5 + length (payload_of body)
body_size body whole =
    let p = payload_of body in
    omega (arith, ap length whole.whole, length-append (to_be_bytes w32 (length p) ++ p) (0 ∷ []), length-append (to_be_bytes w32 (length p)) p)

body_framed : (body rest : List ℕ) → IsBody body → 1 ∷ (body ++ rest) ≡ frame (payload_of body) ++ (0 ∷ rest)
body_framed body rest whole =
    let p = payload_of body in
    ap (λ (l : List ℕ). 1 ∷ (l ++ rest)) whole.whole ∙ ap (λ (l : List ℕ). 1 ∷ l) (append_assoc (to_be_bytes w32 (length p) ++ p) (0 ∷ []) rest)

-- the gate behind the frame is closed
pub closed_behind : (place : ℕ) (x body rest : List ℕ) → drop place x ≡ 1 ∷ (body ++ rest) → IsBody body → IsClosed (place + length body) x
closed_behind place x body rest behind whole =
    let p = payload_of body in
    let size : length (frame p) ≡ length body = omega (arith, body_size body whole, length-append (to_be_bytes w32 (length p)) p) in
    let none : length body - length body ≡ 0 = omega arith in
    let gate : get_or x (place + length body) 0 ≡ 0 = (
    sym (get_or-drop place x (length body) 0)
    ∙ ap (λ (l : List ℕ). get_or l (length body) 0) (behind ∙ body_framed body rest whole)
    ∙ get_or-append_right (frame p) (0 ∷ rest) (length body) (length body) 0 size (omega arith)
    ∙ ap (λ (k : ℕ). get_or (0 ∷ rest) k 0) none
    ) in
    (omega (arith, ap length behind, length-drop place x, length-append body rest), λ is. absurd (omega (arith, gate, is)))

-- an open gate before the frame
pub open_gate : (payloads : List (List ℕ)) (place : ℕ) (bytes x body rest : List ℕ) → Holds payloads place bytes → take place x ≡ take place bytes → drop place x ≡ 1 ∷ (body ++ rest) → IsBody body
    → place + length body < limit → SpellsUpTo (payloads ++ payload_of body ∷ []) (place + length body) x
open_gate payloads place bytes x body rest holds same behind whole within =
    let p = payload_of body in
    let there : place + 5 + length p ≡ place + length body = omega (arith, body_size body whole) in
    let split : x ≡ (take place x ++ frame p) ++ (0 ∷ rest) =
    sym (take-append-drop place x) ∙ ap (λ (l : List ℕ). take place x ++ l) (behind ∙ body_framed body rest whole) ∙ sym (append_assoc (take place x) (frame p) (0 ∷ rest)) in
    record {
      holds = subst (λ (k : ℕ). Holds (payloads ++ p ∷ []) k x) there (one_more payloads place bytes x p (0 ∷ rest) holds same split whole.some (omega arith) (omega (arith, there, within)));
      closed = (closed_behind place x body rest behind whole).1;
    }

-- any gate before it
pub torn_gate : (payloads : List (List ℕ)) (place : ℕ) (bytes x body rest : List ℕ) → Holds payloads place bytes → take place x ≡ take place bytes → place < length x → drop (place + 1) x ≡ body ++ rest → IsBody body
    → place + length body < limit → SpellsEither payloads place body x
torn_gate payloads place bytes x body rest holds same inside behind whole within =
    let here : drop place x ≡ get_or x place 0 ∷ drop (place + 1) x = drop_more x place 0 inside in
    elim (cases_eq (get_or x place 0) 1) [
      | inl is_open ↦ inr (open_gate payloads place bytes x body rest holds same (here ∙ (λ i. is_open i ∷ behind i)) whole within)
      | inr closed ↦ inl (record { holds = record { front = same ∙ holds.front; some = holds.some; gate = inside; within = holds.within }; closed = closed })
    ]

-- what was read of a frame, a part at a time
pub frame_found : (at size : ℕ) (bytes gate four payload : List ℕ) → gate ≡ take 1 (drop at bytes) → get_or gate 0 0 ≡ 1 → four ≡ take 4 (drop (at + 1) bytes) → to_be_bytes w32 size ≡ four
    → 0 < size → at + 6 + size ≤ min (length bytes) limit → payload ≡ take size (drop (at + 5) bytes) → IsFrameAt at payload bytes
frame_found at size bytes gate four payload gate_is open_is four_is word some fits payload_is =
    let long : length payload ≡ size = omega (arith, ap length payload_is, length-take size (drop (at + 5) bytes), length-drop (at + 5) bytes, fits) in
    let first : get_or bytes at 0 ≡ 1 = (
    let zero_more : at + 0 ≡ at = omega arith in
    ap (λ (k : ℕ). get_or bytes k 0) (sym zero_more) ∙ sym (get_or-drop at bytes 0 0) ∙ sym (get_or-take 1 (drop at bytes) 0 0 (omega arith)) ∙ ap (λ (l : List ℕ). get_or l 0 0) (sym gate_is) ∙ open_is
    ) in
    let split : drop at bytes ≡ 1 ∷ drop (at + 1) bytes = drop_more bytes at 0 (omega (arith, fits)) ∙ ap (λ (k : ℕ). k ∷ drop (at + 1) bytes) first in
    let further : drop 4 (drop (at + 1) bytes) ≡ drop (at + 5) bytes = drop-drop 4 (at + 1) bytes ∙ (let is : at + 1 + 4 ≡ at + 5 = omega arith in ap (λ (k : ℕ). drop k bytes) is) in
    let head : take (4 + size) (drop (at + 1) bytes) ≡ to_be_bytes w32 size ++ payload = (
    take-add 4 size (drop (at + 1) bytes) ∙ ap (λ (l : List ℕ). l ++ take size (drop 4 (drop (at + 1) bytes))) (sym four_is ∙ sym word)
    ∙ ap (λ (l : List ℕ). to_be_bytes w32 size ++ l) (ap (λ (l : List ℕ). take size l) further ∙ sym payload_is)
    ) in
    let count : 5 + length payload ≡ suc (4 + size) = omega (arith, long) in
    record {
      stands = (
          ap (λ (k : ℕ). take k (drop at bytes)) count ∙ ap (λ (l : List ℕ). take (suc (4 + size)) l) split
          ∙ ap (λ (l : List ℕ). 1 ∷ l) head ∙ ap (λ (k : ℕ). 1 ∷ (to_be_bytes w32 k ++ payload)) (sym long)
          );
      some = omega (arith, long, some);
      gate = omega (arith, long, fits);
      within = omega (arith, long, fits);
    }

-- one frame more, of those that stand
pub one_read : (payloads : List (List ℕ)) (place : ℕ) (bytes payload : List ℕ) → Holds payloads place bytes → IsFrameAt place payload bytes → Holds (payloads ++ payload ∷ []) (place + 5 + length payload) bytes
one_read payloads place bytes payload holds found =
    let rest = drop (5 + length payload) (drop place bytes) in
    let split : bytes ≡ (take place bytes ++ frame payload) ++ rest = (
    sym (take-append-drop place bytes)
    ∙ ap (λ (l : List ℕ). take place bytes ++ l) (sym (take-append-drop (5 + length payload) (drop place bytes)) ∙ ap (λ (l : List ℕ). l ++ rest) found.stands)
    ∙ sym (append_assoc (take place bytes) (frame payload) rest)
    ) in
    let left : 0 < length rest = omega (arith, length-drop (5 + length payload) (drop place bytes), length-drop place bytes, found.gate) in
    one_more payloads place bytes bytes payload rest holds refl split found.some left found.within

-- nothing fits before the first gate
nothing_short : (payloads : List (List ℕ)) (place : ℕ) (bytes : List ℕ) → Holds payloads place bytes → place ≤ 8 → payloads ≡ []
nothing_short [] place bytes holds short = refl
nothing_short (payload ∷ payloads) place bytes holds short =
    let size = sym (length-take-le place bytes (omega (arith, holds.gate))) ∙ ap length holds.front in
    absurd (omega (arith, short, size, ap length (flat_map-cons frame payload payloads), length-append (frame payload) (frames payloads)))

pub spells_all : (payloads : List (List ℕ)) (place : ℕ) (bytes : List ℕ) → SpellsUpTo payloads place bytes → Spells payloads bytes
spells_all payloads place bytes spells = elim (cases_lt 9 (length bytes)) [
  | inl long ↦ inr (long, place, spells)
  | inr short ↦ inl (short, nothing_short payloads place bytes spells.holds (omega (arith, short, spells.holds.gate)))
]
