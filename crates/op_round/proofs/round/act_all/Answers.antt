use Rattle.std.proofs.Common.{◌≡◌, ◌<◌, ◌∙◌, List, length, refl, sym, ap, subst}
use Rattle.std.specs.Prelude.{slice_get, Some}
use Rattle.std.proofs.lemmas.Option.{slice_get_read}
use Rattle.op_round.specs.Books.{Asking, AreFit}
use Rattle.op_round.specs.Jobs.{asking, asked_of}
use Rattle.op_round.specs.declared.job.Job.{Job}
use Rattle.op_round.proofs.Acting.{done}
use Rattle.op_round.proofs.Asking.{fit_at, asked_at, same_list, length_asking}
use Rattle.op_round.proofs.round.act_all.Goals as goal

pub for_each_mut-requires-clause-accepts : goal.for_each_mut-requires-clause-accepts
for_each_mut-requires-clause-accepts g c κs within =
    λ i p below read.
    let is = slice_get_read c.args.jobs.now (length c.args.jobs.now) i p.now refl below read in
    let fit = subst (λ (a : Asking). AreFit g.N.Named.start a) (sym c.requires.asked) c.requires.fit in (
      subst (λ (n : _). i < n) (sym (length_asking c.args.jobs.now) ∙ ap (λ (a : Asking). length a) c.requires.asked) below,
      subst (λ (a : Asking). slice_get a i ≡ Some (asked_of p.now)) c.requires.asked (asked_at g.N.Named.start c.args.jobs.now i p.now is),
      fit_at g.N.Named.start c.args.jobs.now i p.now is fit,
    )

pub returns-clause-done : goal.returns-clause-done
returns-clause-done g c =
    done g.F.FeeTerms.allows g.N.Named.start g.N.Named.moment g.N.Named.asked c.act_rest.new.book c.finish.result.0 c.finish.result.1.items c.finish.ensures.kept c.act_rest.ensures c.finish.ensures.batch.0 c.finish.ensures.batch.1

pub act_rest-requires-clause-asked : goal.act_rest-requires-clause-asked
act_rest-requires-clause-asked g c =
    let same = same_list c.args.jobs.now c.for_each_mut.new.s c.for_each_mut.auto.s
    (λ i d below. let e = c.for_each_mut.ensures i d below in sym e.1.left ∙ e.1.call ∙ e.1.argument_is) in
    ap (λ (jobs : List (Job _)). asking jobs) same ∙ c.requires.asked

pub returns-clause-same : goal.returns-clause-same
returns-clause-same g c =
    same_list c.args.jobs.now c.for_each_mut.new.s c.for_each_mut.auto.s
    (λ i d below. let e = c.for_each_mut.ensures i d below in sym e.1.left ∙ e.1.call ∙ e.1.argument_is)
