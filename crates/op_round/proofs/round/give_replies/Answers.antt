use Rattle.std.proofs.Common.{◌≡◌, ◌<◌, ◌∙◌, List, length, refl, sym, ap, subst, rules}
use Rattle.std.specs.Prelude.{slice_get, None}
use Rattle.std.specs.declared.option.Option.{Option}
use Rattle.std.proofs.lemmas.List.{length-set}
use Rattle.std.proofs.lemmas.Option.{slice_get_read, slice_get_within}
use Rattle.op_model.specs.declared.reply.Reply.{Reply}
use Rattle.op_round.specs.Jobs.{Gives}
use Rattle.op_round.specs.declared.job.Job.{Job}
use Rattle.op_round.proofs.Asking.{given_more, left_more}
use Rattle.op_round.proofs.round.give_replies.Goals as goal

pub loop-index-preserved : goal.loop-index-preserved
loop-index-preserved g c =
    let now = c.loop-index.jobs in
    let k = c.loop-index.index in
    let inv = c.loop-index.invariant in
    let below : c.loop-index.index < length c.loop-index.jobs = search rules in
    let at = slice_get_read c.loop-index.jobs (length c.loop-index.jobs) c.loop-index.index c.index-jobs-index.result refl below c.index-jobs-index.is in
    let gives : Gives c.index-jobs-index.result c.give.new.job c.take_reply-reply.result = subst (λ (x : Job g.row.C.Denot). Gives x c.give.new.job c.take_reply-reply.result) (sym c.index-jobs-index.is) c.give.ensures in
    record {
      jobs = length-set c.loop-index.jobs c.loop-index.index c.give.new.job ∙ inv.jobs;
      replies = ap (λ (l : List (Option Reply)). length l) c.take_reply-reply.ensures.left ∙ length-set c.loop-index.replies.items c.loop-index.index None ∙ inv.replies;
      given = given_more c.args.jobs.now c.loop-index.jobs c.args.replies.items c.loop-index.replies.items c.take_reply-reply.new.replies.items c.loop-index.index c.index-jobs-index.result c.give.new.job c.take_reply-reply.result inv.jobs inv.left at c.take_reply-reply.ensures.reply c.take_reply-reply.ensures.left inv.given gives;
      left = left_more c.args.jobs.now c.loop-index.jobs c.args.replies.items c.loop-index.replies.items c.take_reply-reply.new.replies.items c.loop-index.index c.index-jobs-index.result c.give.new.job c.take_reply-reply.result inv.jobs inv.left at c.take_reply-reply.ensures.reply c.take_reply-reply.ensures.left;
    }

pub returns : goal.returns
returns g c = (
  c.loop-index.invariant.jobs,
  λ i a b reply at_a at_b at_reply.
      let within : i < length c.args.jobs.now = slice_get_within c.args.jobs.now i a at_a in
      let below : i < c.loop-index.index = search rules in
      c.loop-index.invariant.given i a b reply below at_a at_b at_reply,
)
