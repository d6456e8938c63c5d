use Rattle.std.proofs.Common.{◌∙◌, ◌+◌, ◌++◌, ◌∷◌, ℕ, List, ap}
use Rattle.std.specs.Prelude.{slice_set, slice_index_or}
use Rattle.op_record.proofs.Pieces.{four_written, low_digits}
use Rattle.op_record.proofs.packed_bytes.put_length.Goals as goal

pub returns-clause-put : goal.returns-clause-put
returns-clause-put c = λ text digits rest len four is.
    let low = c.to_be_bytes-digits.result in
    let s = c.args.start in
    ap (λ (t : List ℕ). slice_set (slice_set (slice_set (slice_set t s (slice_index_or low 4 0)) (s + 1) (slice_index_or low 5 0)) (s + 2) (slice_index_or low 6 0)) (s + 3) (slice_index_or low 7 0)) is
    ∙ four_written text digits rest s _ _ _ _ len four
    ∙ ap (λ (t : List ℕ). text ++ t) (low_digits low c.args.count rest c.to_be_bytes-digits.ensures)
