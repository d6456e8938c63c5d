use Rattle.std.proofs.Common.{◌≡◌, ◌∙◌, List, length, sym, ap, subst}
use Rattle.op_round.specs.Jobs.{AreGiven}
use Rattle.op_round.specs.declared.job.Job.{Job}
use Rattle.op_round.proofs.Asking.{are_fit, acted_for, length_asking, origin_at_start}
use Rattle.op_round.proofs.round.run_round.Goals as goal

pub run_tasks-batch-requires-clause-fit : goal.run_tasks-batch-requires-clause-fit
run_tasks-batch-requires-clause-fit g c κs within =
    are_fit (g.V.Verifier.accepts c.args.verifier.now) g.C.Source.left c.args.batch.begun c.args.jobs.now c.prepare_all.new.jobs c.requires.jobs
    (c.prepare_all.ensures c.args.batch.begun (origin_at_start c.args.batch c.origin.result.now c.requires.fresh.entries c.origin.ensures) c.requires.jobs)

pub give_replies-requires : goal.give_replies-requires
give_replies-requires g c =
    c.run_tasks-batch.ensures.done.kept.fits.replies ∙ length_asking c.prepare_all.new.jobs ∙ sym (ap (λ (l : List (Job g.row.C.Denot)). length l) c.run_tasks-batch.ensures.same)

pub returns-clause-round : goal.returns-clause-round
returns-clause-round g c = λ none. (
  c.prepare_all.new.jobs,
  c.prepare_all.ensures c.args.batch.begun (origin_at_start c.args.batch c.origin.result.now c.requires.fresh.entries c.origin.ensures) c.requires.jobs,
  acted_for g.F.FeeTerms.allows c.args.batch.begun c.args.batch.moment c.prepare_all.new.jobs c.give_replies.new.jobs c.run_tasks-batch.result.0 c.run_tasks-batch.result.1.items c.run_tasks-batch.ensures.done
      (subst (λ (l : List (Job g.row.C.Denot)). AreGiven l c.give_replies.new.jobs c.run_tasks-batch.result.1.items) c.run_tasks-batch.ensures.same c.give_replies.ensures),
)
