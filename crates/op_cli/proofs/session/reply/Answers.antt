use Rattle.std.proofs.Common.{◌≡◌, ◌∷◌, [], ap, refl, sym, subst, ◌∙◌}
use Rattle.op_ports.specs.Clock.{AsksKnown}
use Rattle.op_ports.specs.Words.{DrawsKnown}
use Rattle.op_session.specs.Session.{settled}
use Rattle.op_session.specs.Stood.{opened_with}
use Rattle.op_session.specs.declared.end.End.TheVariants.{ReadFault, WordsFault}
use Rattle.op_cli.specs.Kept.{history_at}
use Rattle.op_cli.specs.Told.{world_of}
use Rattle.op_cli.proofs.Journals.{leaves_same, now_opened}
use Rattle.op_cli.proofs.Results.{on_ok_map, if_err_map, never}
use Rattle.op_cli.proofs.TurnLemmas.{keeps_same, reply_fails}
use Rattle.op_cli.proofs.session.reply.Goals as goal

pub returns-in-Ok-clause-ok : goal.returns-in-Ok-clause-ok
returns-in-Ok-clause-ok g c =
    let others = c.answer_request.ensures.others in
    let asks = subst (λ clock. AsksKnown (g.C.Clock.answers c.args.outside.now.clock) (g.C.Clock.answers clock) (c.now-answer.result ∷ [])) (sym others.clock) c.now-answer.ensures in
    let draws = subst (λ draws. DrawsKnown (g.W.Words.words c.args.outside.now.draws) (g.W.Words.words draws) (c.in-Ok.word ∷ [])) (sym others.draws) c.in-Ok.ensures.drawn in
    on_ok_map c.answer_request.result
    (λ answers stood is.
    let done = answers stood is in
    (done.0, done.1, (c.now-answer.result, c.in-Ok.word, asks, draws, search, done.2), done.3))
    c.answer_request.ensures.ok

pub returns-in-Ok-clause-err : goal.returns-in-Ok-clause-err
returns-in-Ok-clause-err g c =
    let others = c.answer_request.ensures.others in
    let asks = subst (λ clock. AsksKnown (g.C.Clock.answers c.args.outside.now.clock) (g.C.Clock.answers clock) (c.now-answer.result ∷ [])) (sym others.clock) c.now-answer.ensures in
    let draws = subst (λ draws. DrawsKnown (g.W.Words.words c.args.outside.now.draws) (g.W.Words.words draws) (c.in-Ok.word ∷ [])) (sym others.draws) c.in-Ok.ensures.drawn in
    let world = world_of g.S.Source g.C.Clock g.W.Words g.K.Sink g.V.Verifier in
    if_err_map c.answer_request.result
    (λ end failing stood is.
    let failed = failing stood is in
    (failed.0, reply_fails g.F.FeeTerms.allows stood (world c.args.outside.now) (world c.answer_request.new.outside) c.args.raw.now end failed.0 c.now-answer.result c.in-Ok.word asks draws (search) failed.1, failed.2))
    c.answer_request.ensures.err

pub returns-in-Ok-clause-causes : goal.returns-in-Ok-clause-causes
returns-in-Ok-clause-causes g c =
    let others = c.answer_request.ensures.others in
    let first = opened_with (history_at c.args.desk.now) in
    let opened = now_opened (history_at c.args.desk.now) in
    record {
      read = record {
        cause = λ is. absurd (never _ c.answer_request.result ReadFault c.answer_request.ensures.err (λ told. (told first opened).1) is);
        kept = λ _. ap g.S.Source.faults others.source;
      };
      round = c.answer_request.ensures.causes;
      draw = record {
        cause = λ is. absurd (never _ c.answer_request.result WordsFault c.answer_request.ensures.err (λ told. (told first opened).1) is);
        kept = λ _. ap g.W.Words.faults others.draws ∙ c.in-Ok.ensures.cause.kept;
      };
    }

pub returns-in-Err-clause-err : goal.returns-in-Err-clause-err
returns-in-Err-clause-err g c stood is = (
  settled stood,
  (c.now-answer.result, c.now-answer.ensures, c.in-Err.ensures.drawn, keeps_same _, refl),
  leaves_same g.D.Disk g.met.D.Disk.only_now (history_at c.args.desk.now) c.args.outside.now.disk c.requires.sound stood is,
)
