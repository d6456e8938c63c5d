use Rattle.std.proofs.Common.{◌≡◌, ◌+◌, ◌≤◌, ◌*◌}
use Rattle.op_model.specs.Requests.{head_limit, body_limit}
use Rattle.op_session.specs.Session.{Final, Session, begun, settled}
use Rattle.op_session.specs.Stood.{Stood, now}
use Rattle.op_session.specs.World.{World}
use Rattle.op_session.specs.declared.end.End.{End}
use Rattle.op_cli.specs.Kept.{history_at, IsReady, Kept}
use Rattle.op_cli.specs.Told.{world_of}
use Rattle.op_cli.specs.Turns.{here}
use Rattle.op_cli.proofs.session.session.Given as goal

-- what a session from here would be, is one from the beginning
abbrev pub invariant-loop-answered : goal.invariant-loop-answered
invariant-loop-answered g l =
    let world = world_of g.S.Source g.C.Clock g.W.Words g.K.Sink g.V.Verifier in
    (stood : Stood) × record {
      stands : now stood ≡ history_at l.desk;
      goes_on : (after : World) (end : End) (final : Final) → Session g.F.FeeTerms.allows (here stood l.reader (world l.outside) l._answered) after end final → Session g.F.FeeTerms.allows (begun (history_at l.fn.desk) (world l.fn.outside)) after end final;
      kept : Kept g.D.Disk (history_at l.fn.desk) (settled stood) l.fn.outside.disk l.outside.disk;
      ready : IsReady g.D.Disk l.desk l.outside.disk;
      at : l.reader.at ≤ l._answered * (head_limit + body_limit);
      read_kept : g.S.Source.faults l.outside.source ≡ g.S.Source.faults l.fn.outside.source;
      disk_kept : g.D.Disk.faults l.outside.disk ≡ g.D.Disk.faults l.fn.outside.disk;
      write_kept : g.K.Sink.faults l.outside.sink ≡ g.K.Sink.faults l.fn.outside.sink;
      draw_kept : g.W.Words.faults l.outside.draws ≡ g.W.Words.faults l.fn.outside.draws;
    }
