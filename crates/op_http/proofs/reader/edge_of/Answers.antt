use Rattle.op_model.specs.Requests.{head_limit}
use Rattle.op_http.proofs.Windows.{first_in_front, none_in_front, none_at_all}
use Rattle.op_http.proofs.reader.edge_of.Goals as goal

pub returns-in-Some : goal.returns-in-Some
returns-in-Some c = λ left. first_in_front c.args.bytes.now head_limit c.min.result c.in-Some.end c.min.ensures c.in-Some.ensures

pub returns-then-bytes-lt-HEAD_LIMIT : goal.returns-then-bytes-lt-HEAD_LIMIT
returns-then-bytes-lt-HEAD_LIMIT c =
    let short = c.if-bytes-lt-HEAD_LIMIT.true in
    (short, none_at_all c.args.bytes.now head_limit c.min.result c.min.ensures short c.in-None.ensures)

pub returns-else-bytes-lt-HEAD_LIMIT : goal.returns-else-bytes-lt-HEAD_LIMIT
returns-else-bytes-lt-HEAD_LIMIT c =
    let long = c.if-bytes-lt-HEAD_LIMIT.false in
    λ left. (long, none_in_front c.args.bytes.now head_limit c.min.result c.min.ensures long c.in-None.ensures)
