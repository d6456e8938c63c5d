use Rattle.std.proofs.Common.{subst}
use Rattle.op_naming.specs.Added.{IsAddedBy}
use Rattle.op_naming.proofs.Adding.{nothing_added}
use Rattle.op_naming.proofs.names.Names.add.Goals as goal

pub returns-in-Nothing : goal.returns-in-Nothing
returns-in-Nothing c history e are is fresh = nothing_added history e c.args.self.now are (subst (IsAddedBy e.act) c.in-Nothing.is is)
