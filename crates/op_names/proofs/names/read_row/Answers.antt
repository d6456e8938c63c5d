use Rattle.op_names.proofs.Naming.{origin_cut, path_cut, row_refused, row_elsewhere, row_read}
use Rattle.op_names.proofs.Reading.{refused_exit}
use Rattle.op_names.proofs.names.read_row.Goals as goal

pub returns-in_default : goal.returns-in_default
returns-in_default c =
    row_refused c.args.kind c.args.text.now c.cut.result.0.now _ (path_cut c.args.text.now _ _ _ c.as_bytes.ensures.value c.scheme_length.ensures.value c.cut.ensures.path) c.in_default.ensures

pub returns-in_err-read_origin : goal.returns-in_err-read_origin
returns-in_err-read_origin c =
    let text = c.args.text.now in
    let origin = origin_cut text _ _ _ c.as_bytes.ensures.value c.scheme_length.ensures.value c.cut.ensures.origin in
    let path = path_cut text _ _ _ c.as_bytes.ensures.value c.scheme_length.ensures.value c.cut.ensures.path in
    refused_exit _ _ _ _ c.from_residual.ensures.1 (row_elsewhere c.args.kind text _ _ _ origin path c.in-Some.ensures) c.in_err-read_origin.ensures.reads

pub returns : goal.returns
returns c =
    let text = c.args.text.now in
    let origin = origin_cut text _ _ _ c.as_bytes.ensures.value c.scheme_length.ensures.value c.cut.ensures.origin in
    let path = path_cut text _ _ _ c.as_bytes.ensures.value c.scheme_length.ensures.value c.cut.ensures.path in
    row_read c.args.kind text _ _ _ _ origin path c.in-Some.ensures c.in_ok-read_origin.ensures.reads
