use Rattle.std.proofs.Common.{◌≡◌, ℕ, ◌<◌, ◌≤◌, length, take}
use Rattle.std.specs.Prelude.{slice_get, Some, false}
use Rattle.op_desk.specs.Batches.{history_in}
use Rattle.op_round.specs.Jobs.{PlainJobs}
use Rattle.op_round.proofs.plain.run_round_plain.Given as goal

abbrev pub invariant-loop-index : goal.invariant-loop-index
invariant-loop-index g l = record {
  jobs : PlainJobs g.F.FeeTerms.allows (g.V.Verifier.accepts l.verifier) g.C.Source.left l.fn.batch.begun l.fn.batch.moment l.fn.batch.begun (take l.index l.fn.jobs) (take l.index l.jobs) (history_in l.batch);
  size : length l.jobs ≡ length l.fn.jobs;
  begun : (l.batch.begun ≡ l.fn.batch.begun) × (l.batch.moment ≡ l.fn.batch.moment);
  left : (i : ℕ) → l.index ≤ i → slice_get l.jobs i ≡ slice_get l.fn.jobs i;
  unused : (i : ℕ) → l.index ≤ i → i < length l.fn.jobs → slice_get l.batch.used i ≡ Some false;
}
