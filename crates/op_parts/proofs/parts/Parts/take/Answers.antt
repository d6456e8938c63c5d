use Rattle.std.proofs.Common.{sym}
use Rattle.op_naming.specs.Added.{adds_name}
use Rattle.op_parts.proofs.Steady.{wants_none, not_steady}
use Rattle.op_parts.proofs.parts.Parts.take.Goals as goal

pub returns-then-adds_name-clause-steady : goal.returns-then-adds_name-clause-steady
returns-then-adds_name-clause-steady c =
    λ none. not_steady (adds_name c.args.entry.now.act) (sym c.if-adds_name.ensures) (wants_none c.args.entry.now.act none).names
