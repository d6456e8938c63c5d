use Rattle.op_names.proofs.Reading.{refused_exit, no_address, an_address}
use Rattle.op_names.proofs.names.address_at.Goals as goal

pub returns-in_err-read_origin : goal.returns-in_err-read_origin
returns-in_err-read_origin c =
    refused_exit _ _ _ _ c.from_residual-in_err-read_origin.ensures.1 (no_address c.args.origin.now c.args.path.now) c.in_err-read_origin.ensures.reads

pub returns : goal.returns
returns c = an_address c.args.origin.now c.args.path.now _ _ c.in_ok-read_origin.ensures.reads c.in_ok-path.ensures.reads
