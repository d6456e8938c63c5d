use Rattle.op_round.proofs.Asking.{fit_read}
use Rattle.op_round.proofs.InTurn.{in_turn}
use Rattle.op_round.proofs.plain.run_job.Goals as goal

pub act_in_turn-requires-clause-fit : goal.act_in_turn-requires-clause-fit
act_in_turn-requires-clause-fit g c =
    fit_read (g.V.Verifier.accepts c.args.verifier.now) g.C.Source.left c.args.batch.now.begun c.args.job.now c.prepare_job.new.job c.requires.fresh (c.prepare_job.ensures c.args.batch.now.begun c.requires.origin c.requires.fresh)

pub returns-clause-job : goal.returns-clause-job
returns-clause-job g c =
    in_turn g.F.FeeTerms.allows (g.V.Verifier.accepts c.args.verifier.now) g.C.Source.left c.args.batch.now c.act_in_turn.new.batch c.args.index c.args.job.now c.prepare_job.new.job c.act_in_turn.new.job (c.prepare_job.ensures c.args.batch.now.begun c.requires.origin c.requires.fresh) c.act_in_turn.ensures
