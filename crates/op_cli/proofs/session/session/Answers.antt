use Rattle.std.proofs.Common.{◌≡◌, ℕ, arith, sym, ap, subst, ◌∙◌, refl}
use Rattle.std.specs.Prelude.{Err}
use Rattle.op_causes.specs.Causes.{Rose, NamesFault}
use Rattle.op_desk.specs.Wallets.{IsSound}
use Rattle.op_http.specs.Held.{Held}
use Rattle.op_session.specs.Session.{Session, settled}
use Rattle.op_session.specs.Stood.{opened_with, with_entries}
use Rattle.op_session.specs.Turn.{Standing, turn_limit}
use Rattle.op_session.specs.declared.end.End.TheVariants.{DiskFault, WriteFault}
use Rattle.op_cli.specs.Kept.{history_at}
use Rattle.op_cli.specs.Told.{world_of}
use Rattle.op_cli.specs.Turns.{here}
use Rattle.op_cli.proofs.Journals.{kept_more, kept_first, now_opened, now_with}
use Rattle.op_cli.proofs.SessionLemmas.{one_more, at_once, at_limit, begins_fresh, no_table}
use Rattle.op_cli.proofs.session.session.Goals as goal

-- the count at first was that before
since : (first before now : ℕ) (named named' : Type 0) → before ≡ first → (named' → named) → (named → named') → NamesFault before now named → NamesFault first now named'
since first before now named named' same to back is =
    record { cause = λ n. subst (λ (k : ℕ). Rose k now) same (is.cause (to n)); kept = λ other. is.kept (λ n. other (back n)) ∙ same }

pub returns-in_default-clause-session : goal.returns-in_default-clause-session
returns-in_default-clause-session g c =
    let world = world_of g.S.Source g.C.Clock g.W.Words g.K.Sink g.V.Verifier c.args.outside.now in
    let first = history_at c.args.desk in (
      settled (opened_with first),
      no_table g.F.FeeTerms.allows first world,
      kept_first g.D.Disk g.met.D.Disk.only_now first c.args.outside.now.disk c.requires.sound,
    )

pub loop-answered-init : goal.loop-answered-init
loop-answered-init g c =
    let world = world_of g.S.Source g.C.Clock g.W.Words g.K.Sink g.V.Verifier c.args.outside.now in
    let first = history_at c.args.desk in (
      opened_with first,
      record {
        stands = now_opened first;
        goes_on = λ after end final session.
            subst (λ (standing : Standing). Session g.F.FeeTerms.allows standing after end final) (ap (λ (held : Held). here (opened_with first) held world 0) c.new-reader.ensures ∙ begins_fresh first world) session;
        kept = kept_first g.D.Disk g.met.D.Disk.only_now first c.args.outside.now.disk c.requires.sound;
        ready = c.requires.ready;
        at = omega (arith, ap (λ (held : Held). held.at) c.new-reader.ensures);
        read_kept = refl;
        disk_kept = refl;
        write_kept = refl;
        draw_kept = refl;
      },
    )

pub turn-requires-clause-sound : goal.turn-requires-clause-sound
turn-requires-clause-sound g c = let inv = c.loop-answered.invariant in subst IsSound inv.1.stands inv.1.kept.sound

pub loop-answered-preserved : goal.loop-answered-preserved
loop-answered-preserved g c =
    let stood = c.loop-answered.invariant.0 in
    let inv = c.loop-answered.invariant.1 in
    let n = c.loop-answered._answered in
    let turned = c.in-Ok-turn.ensures.ok stood inv.stands in
    let moved = c.in-Ok-turn.ensures.moved in (
      with_entries stood turned.0,
      record {
        stands = now_with stood turned.0 ∙ sym turned.1;
        goes_on = λ after end final rest.
            let step = turned.2 n c.loop-answered-test.true in
            inv.goes_on after end final (one_more _ _ _ step.0 after end final step.1 rest);
        kept = kept_more g.D.Disk g.met.D.Disk.only_now (history_at c.args.desk) stood (settled (with_entries stood turned.0)) c.args.outside.now.disk c.loop-answered.outside.disk c.turn.new.outside.disk
            inv.kept inv.disk_kept turned.3;
        ready = c.in-Ok-turn.ensures.ready;
        at = omega (arith, moved, inv.at);
        read_kept = c.in-Ok-turn.ensures.causes.read.kept (λ e. cc) ∙ inv.read_kept;
        disk_kept = c.in-Ok-turn.ensures.causes.round.disk_kept (λ e. cc) (λ e. cc) ∙ inv.disk_kept;
        write_kept = c.in-Ok-turn.ensures.causes.round.write.kept (λ e. cc) ∙ inv.write_kept;
        draw_kept = c.in-Ok-turn.ensures.causes.draw.kept (λ e. cc) ∙ inv.draw_kept;
      },
    )

pub returns-in-Err-clause-session : goal.returns-in-Err-clause-session
returns-in-Err-clause-session g c =
    let stood = c.loop-answered.invariant.0 in
    let inv = c.loop-answered.invariant.1 in
    let ended = c.in-Err.ensures.err stood inv.stands in (
      ended.0,
      inv.goes_on _ _ _ (at_once _ _ _ _ ended.0 (ended.1 c.loop-answered._answered c.loop-answered-test.true)),
      kept_more g.D.Disk g.met.D.Disk.only_now (history_at c.args.desk) stood ended.0 c.args.outside.now.disk c.loop-answered.outside.disk c.turn.new.outside.disk
          inv.kept inv.disk_kept ended.2,
    )

pub returns-in-Err-clause-causes : goal.returns-in-Err-clause-causes
returns-in-Err-clause-causes g c =
    let inv = c.loop-answered.invariant.1 in
    let turned = c.in-Err.ensures.causes in
    record {
      read = since _ _ _ _ _ inv.read_kept (λ is. ap Err is) (λ is. cc) turned.read;
      round = record {
        disk_cause = λ is. subst (λ (n : ℕ). Rose n (g.D.Disk.faults c.turn.new.outside.disk)) inv.disk_kept (turned.round.disk_cause (ap Err is));
        disk_kept = λ no_disk no_write. turned.round.disk_kept (λ is. let same : c.in-Err.end ≡ DiskFault = cc in no_disk same) (λ is. let same : c.in-Err.end ≡ WriteFault = cc in no_write same) ∙ inv.disk_kept;
        write = since _ _ _ _ _ inv.write_kept (λ is. ap Err is) (λ is. cc) turned.round.write;
      };
      draw = since _ _ _ _ _ inv.draw_kept (λ is. ap Err is) (λ is. cc) turned.draw;
    }

pub returns-clause-session : goal.returns-clause-session
returns-clause-session g c =
    let stood = c.loop-answered.invariant.0 in
    let inv = c.loop-answered.invariant.1 in
    let all : c.loop-answered._answered ≡ turn_limit = omega arith in
    (settled stood, inv.goes_on _ _ _ (at_once _ _ _ _ _ (at_limit _ stood c.loop-answered.reader _ c.loop-answered._answered all)), inv.kept)
