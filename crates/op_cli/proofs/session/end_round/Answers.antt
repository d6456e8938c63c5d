use Rattle.std.proofs.Common.{◌≢◌, List, [], ℕ, Err, sym, subst, ap}
use Rattle.op_desk.specs.Batches.{history_in}
use Rattle.op_desk.specs.Spelling.{LacksRoom}
use Rattle.op_model.specs.History.{origin_of}
use Rattle.op_session.specs.Session.{settled, tried_after, unfit_after}
use Rattle.op_session.specs.Stood.{now, with_entries}
use Rattle.op_ports.specs.Sink.{AppendsFront}
use Rattle.op_cli.specs.Kept.{Leaves}
use Rattle.op_cli.proofs.Journals.{leaves_round, leaves_failed, leaves_unfit, lacks_room, ready_behind}
use Rattle.op_cli.proofs.Results.{on_ok_map, on_ok_always, if_err_map}
use Rattle.op_cli.proofs.RoundLemmas.{cut_reply, lost_on_disk, lost_for_room}
use Rattle.op_cli.proofs.session.end_round.Goals as goal

pub returns-in-Ok-clause-ready : goal.returns-in-Ok-clause-ready
returns-in-Ok-clause-ready g c =
    on_ok_map c.write_reply.result
    (λ (_ : Unit {0}). ready_behind g.D.Disk c.close_round.new.self c.args.round.batch.begun c.args.round.batch.entries c.args.desk.now.tail c.args.disk.now c.close_round.new.disk
    c.in-Ok.ensures.whole c.requires.stands c.in-Ok.ensures.stands)
    (on_ok_always c.write_reply.result)

pub returns-in-Ok-clause-stands : goal.returns-in-Ok-clause-stands
returns-in-Ok-clause-stands g c =
    on_ok_map c.write_reply.result
    (λ (_ : Unit {0}). leaves_round g.D.Disk g.met.D.Disk.reads_an_image c.args.round.batch.begun c.args.round.batch.entries c.args.desk.now.tail c.args.disk.now c.close_round.new.disk c.in-Ok.ensures.sound
    c.requires.stands c.in-Ok.ensures.any_moment c.in-Ok.ensures.images
    c.in-Ok.ensures.calls (λ none. (c.in-Ok.ensures.empty none).1))
    (on_ok_always c.write_reply.result)

pub returns-in-Ok-clause-err : goal.returns-in-Ok-clause-err
returns-in-Ok-clause-err g c =
    if_err_map c.write_reply.result
    (λ end failed stood is. (
      settled (with_entries stood c.args.round.batch.entries),
      cut_reply stood c.args.round.batch.entries _ _ c.args.round.text.items end failed.0
          (subst (λ (k : List ℕ). AppendsFront (g.K.Sink.written c.args.sink.now) (g.K.Sink.written c.write_reply.new.sink) k) c.deref.ensures.value failed.1),
      leaves_round g.D.Disk g.met.D.Disk.reads_an_image c.args.round.batch.begun c.args.round.batch.entries c.args.desk.now.tail c.args.disk.now c.close_round.new.disk c.in-Ok.ensures.sound
          c.requires.stands c.in-Ok.ensures.any_moment c.in-Ok.ensures.images
          c.in-Ok.ensures.calls (λ none. (c.in-Ok.ensures.empty none).1) stood is,
    ))
    c.write_reply.ensures.err

pub returns-in-Err-DiskFault-clause-err : goal.returns-in-Err-DiskFault-clause-err
returns-in-Err-DiskFault-clause-err g c stood is =
    let before = c.args.round.batch.begun in
    let round = c.args.round.batch.entries in
    let some : round ≢ [] = λ none. let ok = (c.in-Err-DiskFault.ensures.empty none).0 in cc in (
      tried_after stood (with_entries stood round),
      lost_on_disk stood round _ _ c.args.round.text.items c.write_last.result c.disk_fault_reply.result.now some (c.disk_fault_reply.ensures (origin_of (now stood))) c.write_last.ensures.end,
      leaves_failed g.D.Disk g.met.D.Disk.reads_an_image g.met.D.Disk.counts_now before round c.args.desk.now.tail c.args.disk.now c.close_round.new.disk some c.in-Err-DiskFault.ensures.sound
          c.requires.stands c.in-Err-DiskFault.ensures.any_moment
          (c.in-Err-DiskFault.ensures.cause.cause (ap Err c.in-Err-DiskFault.field-0-is)) c.in-Err-DiskFault.ensures.at_most stood is,
    )

pub returns-clause-err : goal.returns-clause-err
returns-clause-err g c stood is =
    let before = c.args.round.batch.begun in
    let round = c.args.round.batch.entries in
    let unfit = with_entries stood round in
    let full = c.in-Err-Full.ensures.full c.in-Err-Full.field-0-0 c.in-Err-Full.field-0-1 (ap Err c.in-Err-Full.field-0-is) in
    let no_room = c.in-Err-Full.ensures.no_room c.in-Err-Full.field-0-0 c.in-Err-Full.field-0-1 (ap Err c.in-Err-Full.field-0-is) in (
      unfit_after stood unfit,
      lost_for_room stood round _ _ c.args.round.text.items c.write_last-in-Err-Full.result c.journal_full_reply.result.now full.0 (c.journal_full_reply.ensures (origin_of (now stood))) c.write_last-in-Err-Full.ensures.end,
      subst (λ disk. Leaves g.D.Disk stood (unfit_after stood unfit) c.args.disk.now disk) (sym full.4)
          (leaves_unfit g.D.Disk g.met.D.Disk.only_now before stood unfit c.args.disk.now is c.requires.sound
          (λ differs told. lacks_room before stood round _ is (subst (λ (bytes : List ℕ). LacksRoom before (history_in c.args.round.batch) bytes) (ap g.D.Disk.seen full.4) (no_room told)))),
    )
