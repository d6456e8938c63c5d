use Rattle.std.proofs.Common.{◌≡◌, ap}
use Rattle.std.specs.declared.option.Option.{Option}
use Rattle.op_model.specs.declared.reply.Reply.{Reply}
use Rattle.op_round.proofs.InTurn.{acts}
use Rattle.op_round.proofs.plain.act_in_turn.Goals as goal

pub returns-in-Some : goal.returns-in-Some
returns-in-Some g c =
    let e = c.act-reply.ensures in
    acts g.F.FeeTerms.allows c.args.batch.now c.act-reply.new.self c.args.index c.args.job.now _ c.in-Some.task c.act-reply.result c.in-Some.is (ap (λ (o : Option Reply). record c.args.job.now { reply = o }) c.put_reply.ensures) e.handled e.used e.begun
