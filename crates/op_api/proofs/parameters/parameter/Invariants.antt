use Rattle.std.proofs.Common.{◌≡◌}
use Rattle.form_urlencoded.specs.Parse.{raw_pairs_left}
use Rattle.op_model.specs.Parameters.{parameter}
use Rattle.op_api.proofs.Queries.{first_named}
use Rattle.op_api.proofs.parameters.parameter.Given as goal

abbrev pub invariant-loop-key : goal.invariant-loop-key
invariant-loop-key l = first_named l.name (raw_pairs_left l.key-iterator) ≡ parameter l.name l.target
