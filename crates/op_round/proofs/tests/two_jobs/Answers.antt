use Rattle.std.proofs.Common.{◌≡◌, ℕ, zero, suc, List, [], ◌∷◌, Some, None, subst}
use Rattle.std.specs.Prelude.{slice_get}
use Rattle.op_model.specs.declared.act.Entry.{Entry}
use Rattle.op_ports.specs.declared.source.MemorySource.{MemorySource}
use Rattle.op_round.specs.Jobs.{AreFresh, IsFreshJob}
use Rattle.op_round.specs.declared.job.Job.{Job}
use Rattle.op_round.proofs.tests.two_jobs.Goals as goal

same_job : (a b : Job MemorySource) → Some a ≡ Some b → a ≡ b
same_job a b h = cc

two_fresh : (a b : Job MemorySource) (start : List Entry) → IsFreshJob start a → IsFreshJob start b → AreFresh start (a ∷ b ∷ [])
two_fresh a b start first second zero job at = subst (IsFreshJob start) (same_job a job at) first
two_fresh a b start first second (suc zero) job at = subst (IsFreshJob start) (same_job b job at) second
two_fresh a b start first second (suc (suc i)) job at = absurd (let e : None ≡ Some job = at in cc)

pub returns-clause-fresh : goal.returns-clause-fresh
returns-clause-fresh c start i job at =
    two_fresh c.in_ok-job.field-0 c.in_ok-job-2.field-0 start (c.in_ok-job.ensures start) (c.in_ok-job-2.ensures start) i job
    (subst (λ (jobs : List (Job MemorySource)). slice_get jobs i ≡ Some job) c.in_ok-vec.ensures.items at)
