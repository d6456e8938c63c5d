use Rattle.std.proofs.Common.{◌≡◌, ◌∙◌, ◌+◌, ◌-◌, ◌++◌, ◌∷◌, ◌≤◌, [], ℕ, List, ap, arith, length, take, vec_len, vec_capacity}
use Rattle.std.proofs.lemmas.List.{length-append}
use Rattle.std.specs.Int.{w32, to_be_bytes}
use Rattle.op_record.specs.Records.{act_of}
use Rattle.op_record.proofs.Pieces.{popped, appended}
use Rattle.op_record.proofs.packed_bytes.put_in_round.Goals as goal

pub returns-clause-put : goal.returns-clause-put
returns-clause-put c = λ text digits payload len four is.
    let act = act_of c.args.act.now in
    let front = text ++ (digits ++ payload) in
    let before = c.args.bytes.now in
    let p = popped before.items text digits payload is in
    let old : length before.items ≡ vec_len before = omega (arith, before.ok.0) in
    let first : c.pop.new.self.items ≡ front = c.pop.ensures.rest ∙ ap (λ (n : ℕ). take (n - 1) before.items) (omega (arith, old)) ∙ p.0 in
    let second = c.put_act.ensures.lands (omega (arith, ap length first, p.1, old, c.pop.ensures.capacity, c.requires.room)) in
    let after : length c.put_act.new.out.items ≡ length front + length act = ap length second.0 ∙ length-append c.pop.new.self.items act ∙ ap (λ (t : List ℕ). length t + length act) first in
    let third = c.put_u8.ensures.lands (omega (arith, after, p.1, old, second.1, c.pop.ensures.capacity, c.requires.room)) in
    let whole : c.put_u8.new.out.items ≡ text ++ (digits ++ ((payload ++ act) ++ 0 ∷ [])) =
    third.0 ∙ ap (λ (t : List ℕ). t ++ 0 ∷ []) (second.0 ∙ ap (λ (t : List ℕ). t ++ act) first) ∙ appended text digits payload act in
    let all : length c.put_u8.new.out.items ≡ length text + (4 + (length (payload ++ act) + 1)) =
    omega (
      arith,
      ap length whole,
      length-append text (digits ++ ((payload ++ act) ++ 0 ∷ [])),
      length-append digits ((payload ++ act) ++ 0 ∷ []),
      length-append (payload ++ act) (0 ∷ []),
      four,
    ) in
    let count : c.len.result - c.args.start - 5 ≡ length (payload ++ act) = omega (arith, all, len, c.len.ensures, c.put_u8.new.out.ok.0) in
    c.put_length.ensures.put text digits ((payload ++ act) ++ 0 ∷ []) len four whole
    ∙ ap (λ (n : ℕ). text ++ (to_be_bytes w32 n ++ ((payload ++ act) ++ 0 ∷ []))) count
