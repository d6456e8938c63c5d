use Rattle.std.proofs.Common.{◌≡◌, length, sym, ap, ◌∙◌, arith}
use Rattle.std.specs.Int.{to_be_bytes, w128}
use Rattle.uuid.specs.Text.{hyphenated_text, lower}
use Rattle.uuid.proofs.TextLemmas.{by_index_length}
use Rattle.op_names.specs.Ids.{kind_number}
use Rattle.op_names.proofs.IdTexts.{kind_small}
use Rattle.op_names.proofs.Uuids.{printed, bytes_of}
use Rattle.op_names.proofs.ids.id_text.Goals as goal

pub copy_from_slice-requires : goal.copy_from_slice-requires
copy_from_slice-requires c = sym (ap length (c.as_bytes.ensures.value ∙ c.encode_lower-printed.ensures.text) ∙ by_index_length 36 _)

pub returns : goal.returns
returns c =
    let kind : c.from.result ≡ kind_number c.args.id.kind = c.from.ensures ∙ c.number.ensures in
    let bytes : c.from_u64_pair.result ≡ bytes_of c.args.id = c.from_u64_pair.ensures ∙ ap (to_be_bytes w128) (omega (arith, kind, kind_small c.args.id.kind)) in
    c.copy_from_slice.ensures.after ∙ c.as_bytes.ensures.value ∙ c.encode_lower-printed.ensures.text
    ∙ ap (hyphenated_text lower) (c.hyphenated.ensures ∙ bytes) ∙ printed c.args.id
