use Rattle.std.proofs.Common.{◌≡◌, ◌+◌, ◌-◌, ◌^◌, ◌∙◌, ◌++◌, ◌∷◌, ℕ, List, length, take, get_or, min, ap, arith, sym, subst}
use Rattle.std.specs.List.{flat_map}
use Rattle.std.proofs.lemmas.List.{length-append}
use Rattle.op_model.specs.declared.act.Entry.{Entry}
use Rattle.op_record.specs.Fields.{number}
use Rattle.op_record.specs.Recordable.{IsWritable}
use Rattle.op_record.specs.Rounds.{act_in}
use Rattle.op_record.proofs.LengthLaws.{length_number}
use Rattle.op_record.proofs.Putting.{take_past, next_piece, one_of_all}
use Rattle.op_record.proofs.round_writing.round_length.Goals as goal

pub act_length-requires : goal.act_length-requires
act_length-requires c = subst (λ entry. IsWritable entry) (sym c.entry-item.is) (one_of_all IsWritable c.args.entries.now c.loop-entry.entry-index _ c.requires c.loop-entry-test.true)

pub loop-entry-preserved : goal.loop-entry-preserved
loop-entry-preserved c =
    let x = c.entry-item.result in
    let next = ap length (next_piece act_in c.args.entries.now c.loop-entry.entry-index x c.loop-entry-test.true) in
    let same = ap (λ (e : Entry). length (act_in e)) c.entry-item.is in
    let parts = length-append (flat_map act_in (take c.loop-entry.entry-index c.args.entries.now)) (act_in (get_or c.args.entries.now c.loop-entry.entry-index x)) in
    omega (arith, next, same, parts, c.act_length.ensures.is, c.saturating_add-sum.ensures, c.loop-entry.invariant)

pub returns : goal.returns
returns c = λ at.
    let all : length (flat_map act_in (take c.loop-entry.entry-index c.args.entries.now)) ≡ length (flat_map act_in c.args.entries.now) =
    ap (λ (t : List Entry). length (flat_map act_in t)) (take_past c.args.entries.now c.loop-entry.entry-index c.loop-entry-test.false) in
    let same : 9 + length (flat_map act_in (take c.loop-entry.entry-index c.args.entries.now)) ≡ length (2 ∷ (number 8 at ++ flat_map act_in c.args.entries.now)) =
    omega (arith, all, length-append (number 8 at) (flat_map act_in c.args.entries.now), length_number 8 at) in
    c.loop-entry.invariant ∙ ap (λ (n : ℕ). min n (2 ^ 64 - 1)) same
