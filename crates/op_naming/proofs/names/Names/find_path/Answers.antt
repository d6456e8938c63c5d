use Rattle.std.proofs.Common.{◌∙◌, ap}
use Rattle.op_naming.specs.Indexes.{number_in}
use Rattle.op_naming.proofs.Numbers.{path_numbered}
use Rattle.op_naming.proofs.names.Names.find_path.Goals as goal

pub returns : goal.returns
returns c history is =
    c.find.ensures ∙ ap (number_in c.args.self.now.paths) c.bytes.ensures
    ∙ path_numbered history c.args.self.now.paths c.args.path.now is.paths_are
