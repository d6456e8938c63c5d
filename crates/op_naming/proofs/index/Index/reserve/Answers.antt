use Rattle.std.proofs.Common.{refl}
use Rattle.op_naming.proofs.Texts.{same_texts}
use Rattle.op_naming.proofs.index.Index.reserve.Goals as goal

pub returns-clause-same : goal.returns-clause-same
returns-clause-same c = record {
  count = refl;
  numbers = same_texts c.args.self.now.numbers.entries c.reserve.new.self.entries c.reserve.ensures.entries.2;
}
