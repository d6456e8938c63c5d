use Rattle.std.proofs.Common.{List, sym, subst, ap}
use Rattle.op_http.specs.Reader.{Takes}
use Rattle.op_model.specs.declared.act.Entry.{Entry}
use Rattle.op_session.specs.Session.{settled}
use Rattle.op_cli.specs.Kept.{history_at}
use Rattle.op_cli.specs.Told.{world_of}
use Rattle.op_cli.specs.Turns.{Unread}
use Rattle.op_cli.proofs.Journals.{leaves_same}
use Rattle.op_cli.proofs.Results.{on_ok_map, if_err_map}
use Rattle.op_cli.proofs.TurnLemmas.{turns, fails, unread_stops, stream_ended}
use Rattle.op_cli.proofs.session.turn.Goals as goal

pub returns-in-Ok-Some-clause-ok : goal.returns-in-Ok-Some-clause-ok
returns-in-Ok-Some-clause-ok g c =
    let world = world_of g.S.Source g.C.Clock g.W.Words g.K.Sink g.V.Verifier in
    let reads = rw c.in-Ok-Some.field-0-is at c.in-Ok-Some.ensures.reads in
    let takes = subst (λ source. Takes c.args.reader.now c.next.new.self (g.S.Source.left c.args.outside.now.source) (g.S.Source.left source) c.in-Ok-Some.raw) (sym c.reply.ensures.source) reads in
    on_ok_map c.reply.result
    (λ replied stood is.
    let done = replied stood is in
    (done.0, done.1, turns g.F.FeeTerms.allows stood c.args.reader.now c.next.new.self (world c.args.outside.now) (world c.reply.new.outside) c.in-Ok-Some.raw done.0 takes (ap g.V.Verifier.accepts c.reply.ensures.verifier) done.2, done.3))
    c.reply.ensures.ok

pub returns-in-Ok-Some-clause-err : goal.returns-in-Ok-Some-clause-err
returns-in-Ok-Some-clause-err g c =
    let world = world_of g.S.Source g.C.Clock g.W.Words g.K.Sink g.V.Verifier in
    let reads = rw c.in-Ok-Some.field-0-is at c.in-Ok-Some.ensures.reads in
    let takes = subst (λ source. Takes c.args.reader.now c.next.new.self (g.S.Source.left c.args.outside.now.source) (g.S.Source.left source) c.in-Ok-Some.raw) (sym c.reply.ensures.source) reads in
    if_err_map c.reply.result
    (λ end failing stood is.
    let failed = failing stood is in
    (failed.0, fails g.F.FeeTerms.allows stood c.args.reader.now c.next.new.self (world c.args.outside.now) (world c.reply.new.outside) c.in-Ok-Some.raw end failed.0 takes (ap g.V.Verifier.accepts c.reply.ensures.verifier) failed.1, failed.2))
    c.reply.ensures.err

pub returns-in-Ok-None-clause-err : goal.returns-in-Ok-None-clause-err
returns-in-Ok-None-clause-err g c stood is =
    let ended = rw c.in-Ok-None.field-0-is at c.in-Ok-None.ensures.reads in (
      settled stood,
      stream_ended _ _ _ _ _ _ ended,
      leaves_same g.D.Disk g.met.D.Disk.only_now (history_at c.args.desk.now) c.args.outside.now.disk c.requires.sound stood is,
    )

pub returns-in-Err-clause-err : goal.returns-in-Err-clause-err
returns-in-Err-clause-err g c stood is = (
  settled stood,
  unread_stops _ _ _ _ _ _ _ c.unread.result c.in-Err.fault c.in-Err.ensures.reads
      (subst (λ (h : List Entry). Unread h c.in-Err.fault (g.K.Sink.written c.args.outside.now.sink) (g.K.Sink.written c.unread.new.sink) c.unread.result) (sym is) c.unread.ensures.end),
  leaves_same g.D.Disk g.met.D.Disk.only_now (history_at c.args.desk.now) c.args.outside.now.disk c.requires.sound stood is,
)
