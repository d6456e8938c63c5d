-- Rounds keep a history legal, over terms that promise a fee of at most its amount.
use Rattle.std.specs.Prelude.{ℕ, ◌≤◌, Bool, false, ◌&&◌, ◌==◌, List, ◌++◌, count_by, is_some, IsTrue}
use Rattle.std.specs.List.{AllByRecursion}
use Rattle.op_amount.specs.declared.Pair.{Pair}
use Rattle.op_amount.specs.declared.TheConstants.{TOP}
use Rattle.op_time.specs.declared.TheConstants.{LAST}
use Rattle.op_model.specs.History.{last_moment}
use Rattle.op_model.specs.Legal.{IsLegal, is_proper}
use Rattle.op_model.specs.Round.{FeesAllowed, Handled, IsRound, IsPlainRound, act_place}
use Rattle.op_model.specs.declared.act.Entry.{Entry}
use Rattle.op_model.specs.declared.request.Task.{Task}
use Rattle.op_model.specs.declared.request.Task.TheVariants.{Step}

-- a fee is at most the amount on which the rule is asked
abbrev pub AreWithin : FeesAllowed → Type 0
AreWithin allows = (pair : Pair) (amount fee : ℕ) → amount ≤ TOP → allows pair amount fee → fee ≤ amount

-- a round may begin on the history at t: each of its tasks is proper
pub record MayBegin (history : List Entry) (t : ℕ) (tasks : List Handled) : Type 0 where
  pub later : last_moment history ≤ t
  pub limit : t ≤ LAST
  pub proper : AllByRecursion (λ one. IsTrue (is_proper history one.task)) tasks

-- places in any order
abbrev pub RoundsKeepLegal : FeesAllowed → Type 0
RoundsKeepLegal allows =
    (history : List Entry) (t : ℕ) (tasks : List Handled) (entries : List Entry) →
    IsLegal history → MayBegin history t tasks → IsRound allows history t tasks entries → IsLegal (history ++ entries)

-- places in the order of the list
abbrev pub PlainRoundsKeepLegal : FeesAllowed → Type 0
PlainRoundsKeepLegal allows =
    (begun : ℕ) (old : List Entry) (t : ℕ) (tasks : List Handled) (new : List Entry) →
    IsLegal old → MayBegin old t tasks → IsPlainRound allows begun old t tasks new → IsLegal new

-- ---- a step that is asked for twice

abbrev pub is_task_of : (p k : ℕ) → Task → Bool
is_task_of p k (Step payment step) = (payment == p) && (step == k)
is_task_of p k _ = false

-- of the tasks of a round that are step k of payment p, at most one acts
abbrev pub StepsActOnce : FeesAllowed → Type 0
StepsActOnce allows =
    (history : List Entry) (t : ℕ) (tasks : List Handled) (entries : List Entry) (p k : ℕ) →
    MayBegin history t tasks → IsRound allows history t tasks entries →
    count_by (λ one. is_task_of p k one.task && is_some (act_place history t entries one)) tasks ≤ 1
