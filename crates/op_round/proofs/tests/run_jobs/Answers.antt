use Rattle.std.proofs.Common.{◌≡◌, List, Some, subst}
use Rattle.std.specs.Prelude.{slice_get}
use Rattle.op_ports.specs.declared.source.MemorySource.{MemorySource}
use Rattle.op_round.specs.declared.job.Job.{Job}
use Rattle.op_round.proofs.tests.run_jobs.Goals as goal

pub run_round-batch-requires-clause-jobs : goal.run_round-batch-requires-clause-jobs
run_round-batch-requires-clause-jobs g c lifetimes alive i job at =
    c.in_ok-jobs.ensures.fresh c.args.batch.begun i job (subst (λ (jobs : List (Job MemorySource)). slice_get jobs i ≡ Some job) c.deref_mut.ensures.value at)
