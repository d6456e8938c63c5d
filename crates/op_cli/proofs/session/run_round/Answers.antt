use Rattle.std.proofs.Common.{◌++◌, List, ℕ, refl, sym, subst, ap, ◌∙◌}
use Rattle.std.specs.Io.KnownBytes.{Appends}
use Rattle.op_model.specs.declared.act.Entry.{Entry}
use Rattle.op_session.specs.Session.{settled}
use Rattle.op_cli.specs.Kept.{history_at}
use Rattle.op_cli.specs.Turns.{NotStood}
use Rattle.op_cli.proofs.Journals.{leaves_same}
use Rattle.op_cli.proofs.Results.{on_ok_all, if_err_map}
use Rattle.op_cli.proofs.RoundLemmas.{handles_from, not_handled}
use Rattle.op_cli.proofs.TurnLemmas.{keeps_same}
use Rattle.op_cli.proofs.session.run_round.Goals as goal

pub returns-in-Some-clause-ok : goal.returns-in-Some-clause-ok
returns-in-Some-clause-ok g c =
    let batch = c.in-Some.round.batch in
    let begun = c.in-Some.ensures.begun in
    let answered = c.in-Some.ensures.answered in
    on_ok_all c.end_round.result
    (λ whole told leaves stood is. (
      batch.entries,
      whole ∙ ap (λ (h : List Entry). h ++ batch.entries) (begun ∙ sym is),
      (
        answered.0,
        handles_from g.F.FeeTerms.allows (history_at c.args.desk.now) batch.begun batch.entries stood c.args.asked.now.answer c.args.task.now c.args.asked.now.word answered.0 is begun answered.1,
        subst (λ (text : List ℕ). Appends (g.K.Sink.written c.args.outside.now.sink) (g.K.Sink.written c.end_round.new.sink) text) answered.2 told,
      ),
      leaves stood (is ∙ sym begun),
    ))
    c.end_round.ensures.whole c.end_round.ensures.told c.end_round.ensures.stands

pub returns-in-Some-clause-err : goal.returns-in-Some-clause-err
returns-in-Some-clause-err g c =
    let batch = c.in-Some.round.batch in
    let begun = c.in-Some.ensures.begun in
    let answered = c.in-Some.ensures.answered in
    if_err_map c.end_round.result
    (λ end failing stood is.
    let failed = failing stood (is ∙ sym begun) in (
      failed.0,
      not_handled g.F.FeeTerms.allows stood _ _ c.args.asked.now.answer c.args.asked.now.word batch.entries c.args.task.now answered.0 end failed.0
          (handles_from g.F.FeeTerms.allows (history_at c.args.desk.now) batch.begun batch.entries stood c.args.asked.now.answer c.args.task.now c.args.asked.now.word answered.0 is begun answered.1)
          (subst (λ (text : List ℕ). NotStood stood batch.entries (g.K.Sink.written c.args.outside.now.sink) (g.K.Sink.written c.end_round.new.sink) text end failed.0) answered.2 failed.1),
      failed.2,
    ))
    c.end_round.ensures.err

pub returns-in-None-clause-err : goal.returns-in-None-clause-err
returns-in-None-clause-err g c stood is =
    (settled stood, (keeps_same _, refl), leaves_same g.D.Disk g.met.D.Disk.only_now (history_at c.args.desk.now) c.args.outside.now.disk c.requires.sound stood is)
