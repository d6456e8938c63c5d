use Rattle.std.proofs.Common.{◌≡◌, ◌<◌, ◌≤◌, ◌+◌, ◌∙◌, ℕ, List, ◌++◌, length, refl, sym, ap, subst, rules, arith}
use Rattle.std.specs.Prelude.{slice_get, Some, Bool, false}
use Rattle.std.proofs.lemmas.List.{append-nil, length-set}
use Rattle.std.proofs.lemmas.Option.{slice_get_read}
use Rattle.op_desk.specs.Batches.{history_in}
use Rattle.op_model.specs.History.{origin_of}
use Rattle.op_model.specs.declared.act.Entry.{Entry}
use Rattle.op_round.specs.Jobs.{PlainJob, IsFreshJob}
use Rattle.op_round.specs.declared.job.Job.{Job}
use Rattle.op_round.proofs.Asking.{origin_at_start}
use Rattle.op_round.proofs.InTurn.{jobs_more, all_jobs}
use Rattle.op_round.proofs.Keeping.{get_replicate}
use Rattle.op_round.proofs.Rounds.{get_set_other}
use Rattle.op_round.proofs.plain.run_round_plain.Goals as goal

pub loop-index-init : goal.loop-index-init
loop-index-init g c = record {
  jobs = ap (λ (l : List Entry). c.args.batch.begun ++ l) c.requires.fresh.entries ∙ append-nil c.args.batch.begun;
  size = refl;
  begun = (refl, refl);
  left = λ i above. refl;
  unused = λ i above within. ap (λ (l : List Bool). slice_get l i) c.requires.fresh.used ∙ get_replicate (length c.args.jobs.now) i false within;
}

pub run_job-requires-clause-unused : goal.run_job-requires-clause-unused
run_job-requires-clause-unused g c =
    let below : c.loop-index.index < length c.args.jobs.now = search rules in
    c.loop-index.invariant.unused c.loop-index.index (omega arith) below

pub run_job-requires-clause-origin : goal.run_job-requires-clause-origin
run_job-requires-clause-origin g c =
    origin_at_start c.args.batch c.origin.result.now c.requires.fresh.entries c.origin.ensures ∙ ap (λ (l : List Entry). origin_of l) (sym c.loop-index.invariant.begun.0)

pub run_job-requires-clause-fresh : goal.run_job-requires-clause-fresh
run_job-requires-clause-fresh g c =
    let below : c.loop-index.index < length c.loop-index.jobs = search rules in
    let at = slice_get_read c.loop-index.jobs (length c.loop-index.jobs) c.loop-index.index c.index-jobs-index.result refl below c.index-jobs-index.is in
    subst (λ (x : Job g.row.C.Denot). IsFreshJob c.loop-index.batch.begun x) c.index-jobs-index.is
    (subst (λ (s : List Entry). IsFreshJob s c.index-jobs-index.result) (sym c.loop-index.invariant.begun.0) (c.requires.jobs c.loop-index.index c.index-jobs-index.result (sym (c.loop-index.invariant.left c.loop-index.index (omega arith)) ∙ at)))

pub loop-index-preserved : goal.loop-index-preserved
loop-index-preserved g c =
    let inv = c.loop-index.invariant in
    let below : c.loop-index.index < length c.loop-index.jobs = search rules in
    let at = slice_get_read c.loop-index.jobs (length c.loop-index.jobs) c.loop-index.index c.index-jobs-index.result refl below c.index-jobs-index.is in
    let at_old = sym (inv.left c.loop-index.index (omega arith)) ∙ at in
    let ran = subst (λ (x : Job g.row.C.Denot). PlainJob g.F.FeeTerms.allows (g.V.Verifier.accepts c.args.verifier.now) g.C.Source.left c.loop-index.batch.begun c.loop-index.batch.moment (history_in c.loop-index.batch) x c.run_job.new.job (history_in c.run_job.new.batch)) (sym c.index-jobs-index.is) c.run_job.ensures.job in
    let other : (i : ℕ) → c.loop-index.index + 1 ≤ i → i ≡ c.loop-index.index → ⊥ = λ i above same. omega (arith, above, same) in
    record {
      jobs = jobs_more g.F.FeeTerms.allows (g.V.Verifier.accepts c.args.verifier.now) g.C.Source.left c.args.batch.begun c.args.batch.moment c.args.jobs.now c.loop-index.jobs c.loop-index.index c.loop-index.batch c.run_job.new.batch c.index-jobs-index.result c.run_job.new.job at_old at inv.begun.0 inv.begun.1 inv.jobs ran;
      size = length-set c.loop-index.jobs c.loop-index.index c.run_job.new.job ∙ inv.size;
      begun = (c.run_job.ensures.begun.0 ∙ inv.begun.0, c.run_job.ensures.begun.1 ∙ inv.begun.1);
      left = λ i above. get_set_other c.loop-index.jobs c.loop-index.index i c.run_job.new.job (other i above) ∙ inv.left i (omega (arith, above));
      unused = λ i above within. c.run_job.ensures.others i (omega (arith, above)) ∙ inv.unused i (omega (arith, above)) within;
    }

pub returns-clause-jobs : goal.returns-clause-jobs
returns-clause-jobs g c =
    let full : length c.args.jobs.now ≤ c.loop-index.index = search rules in
    all_jobs g.F.FeeTerms.allows (g.V.Verifier.accepts c.args.verifier.now) g.C.Source.left c.args.batch.begun c.args.batch.moment c.args.jobs.now c.loop-index.jobs c.loop-index.index (history_in c.loop-index.batch) c.loop-index.invariant.size full c.loop-index.invariant.jobs

pub returns-clause-begun : goal.returns-clause-begun
returns-clause-begun g c = c.loop-index.invariant.begun
