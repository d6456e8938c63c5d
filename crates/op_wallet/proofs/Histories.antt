-- A history with one entry more.
use Rattle.std.proofs.Common.{◌≡◌, ◌+◌, List, [], ◌∷◌, ◌++◌, length, ◌∙◌, ap}
use Rattle.std.proofs.lemmas.List.{length-append}
use Rattle.op_model.specs.History.{last_moment}
use Rattle.op_model.specs.declared.act.Entry.{Entry}
use Rattle.op_model.proofs.Next.{last_moment-next}
use Rattle.op_record.specs.Records.{record_of}
use Rattle.op_record.specs.Rounds.{act_in}
use Rattle.op_record.specs.Fields.{number}
use Rattle.op_record.proofs.LengthLaws.{length_number}

pub next_last : (history : List Entry) (e : Entry) → last_moment (history ++ e ∷ []) ≡ e.at
next_last history e = last_moment-next history e

pub record_length : (entry : Entry) → length (record_of entry) ≡ 8 + length (act_in entry)
unfolding record_of
record_length entry = length-append (number 8 entry.at) (act_in entry) ∙ ap (λ n. n + length (act_in entry)) (length_number 8 entry.at)
