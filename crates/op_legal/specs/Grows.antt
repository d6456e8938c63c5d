-- What stays as a history grows.
use Rattle.std.specs.Prelude.{List, ◌++◌, IsTrue}
use Rattle.op_model.specs.Legal.{IsLegal, is_proper}
use Rattle.op_model.specs.declared.act.Entry.{Entry}
use Rattle.op_model.specs.declared.request.Task.{Task}

-- every beginning of a legal history is legal
abbrev pub BeginningsAreLegal : Type 0
BeginningsAreLegal = (history more : List Entry) → IsLegal (history ++ more) → IsLegal history

-- what a task names is still there
abbrev pub TasksStayProper : Type 0
TasksStayProper = (history more : List Entry) (task : Task) → IsTrue (is_proper history task) → IsTrue (is_proper (history ++ more) task)
