-- What is answered keeps a history legal.
use Rattle.std.specs.Prelude.{◌≡◌, ℕ, ◌≤◌, List, Some, IsTrue, MatchOption}
use Rattle.op_time.specs.declared.TheConstants.{LAST}
use Rattle.op_model.specs.History.{last_moment}
use Rattle.op_model.specs.Answer.{answer, fee_asked}
use Rattle.op_model.specs.Legal.{IsNext, is_proper}
use Rattle.op_model.specs.declared.act.Act.{Act}
use Rattle.op_model.specs.declared.act.Entry.{Entry}
use Rattle.op_model.specs.declared.request.Task.{Task}

-- a task as it is asked on a history at t: the fee is at most the amount on which the fee rule is asked, and 0 where it is not
pub record IsAsked (history : List Entry) (t : ℕ) (fee : ℕ) (task : Task) : Type 0 where
  pub later : last_moment history ≤ t
  pub limit : t ≤ LAST
  pub proper : IsTrue (is_proper history task)
  pub charged : MatchOption (fee_asked history t task) (fee ≡ 0) (λ asked. fee ≤ asked.amount)

-- the act of an answer may follow the history
abbrev pub AnswersKeepLegal : Type 0
AnswersKeepLegal =
    (history : List Entry) (t : ℕ) (word : List ℕ) (fee : ℕ) (task : Task) (act : Act) →
    IsAsked history t fee task → (answer history t word fee task).act ≡ Some act → IsNext history (record { at = t; act = act })
