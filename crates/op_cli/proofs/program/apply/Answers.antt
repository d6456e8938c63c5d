use Rattle.std.proofs.Common.{◌≡◌, ℕ, List, IsTrue, refl, sym, ap, subst, ◌∙◌, inr}
use Rattle.op_causes.specs.Causes.{Rose}
use Rattle.op_desk.specs.Spelling.{Spells, history_of}
use Rattle.op_model.specs.Legal.{IsLegal}
use Rattle.op_model.specs.declared.act.Entry.{Entry}
use Rattle.op_session.specs.declared.end.End.{End}
use Rattle.op_session.specs.declared.status.Status.{Status}
use Rattle.op_session.specs.declared.status.Status.TheVariants.{Ended}
use Rattle.op_cli.specs.Kept.{history_at, Endures}
use Rattle.op_cli.proofs.Journals.{whole_is}
use Rattle.op_cli.proofs.Openings.{opened_spells, every_moment, end_spells}
use Rattle.op_cli.proofs.WholeLemmas.{complete, ends_well}
use Rattle.op_cli.proofs.program.apply.Goals as goal

pub returns-in-Ok-clause-replies : goal.returns-in-Ok-clause-replies
returns-in-Ok-clause-replies g c =
    let old = c.args.outside.now.disk in
    let opened = c.recover.new.disk in
    let new = c.session.new.outside.disk in
    let first = history_at c.in-Ok.desk in
    let whole = c.in-Ok.ensures.whole in
    let same : first ≡ whole.0 = whole_is c.in-Ok.desk whole.0 whole.1 in
    let found : IsTrue g.D.Disk.tells → Spells first (g.D.Disk.seen old) = λ told. subst (λ (h : List Entry). Spells h (g.D.Disk.seen old)) (sym same) (whole.3 told) in
    let calm : g.D.Disk.faults opened ≡ g.D.Disk.faults old = c.in-Ok.ensures.cause.kept (λ e. cc) in
    let ran = c.session.ensures.session in
    let kept = ran.2 in
    let endures : (told : IsTrue g.D.Disk.tells) → Endures g.D.Disk (c.in-Ok.ensures.calls told).0 ran.0 opened new = λ told.
    let calls = c.in-Ok.ensures.calls told in
    let later = c.in-Ok.ensures.past_sync told (λ e. cc) in
    kept.endures told calls.0 (opened_spells g.D.Disk g.met.D.Disk.counts_now calls.0 old opened calls.1 later (c.in-Ok.ensures.synced told later)) in
    inr (record {
      first = first;
      end = c.session.result;
      final = ran.0;
      found = found;
      continues = λ told history spelled. whole_is c.in-Ok.desk history (c.in-Ok.ensures.alone told history spelled);
      session = ran.1;
      is = refl;
      complete = complete g.F.FeeTerms.allows _ _ first ran.0 c.session.result ran.1;
      stands = kept.begins;
      tried = kept.tried;
      sound = kept.sound;
      laws = λ front rest same. c.laws_are_kept.ensures front (c.beginnings_are_legal.ensures front rest (subst IsLegal same kept.sound.legal));
      at_exit = λ told bytes image.
          let calls = c.in-Ok.ensures.calls told in
          let is : history_of calls.0 ≡ first = sym (whole_is c.in-Ok.desk (history_of calls.0) (c.in-Ok.ensures.alone told (history_of calls.0) (calls.0, calls.1, refl))) in
          end_spells calls.0 ran.0 bytes (is ∙ sym kept.begins) kept.tried ((endures told).at_end bytes image);
      settled = λ none. kept.settled (λ rose. none (subst (λ (n : ℕ). Rose n (g.D.Disk.faults new)) calm rose));
      unfit = kept.unfit;
      at_every_moment = λ told.
          let calls = c.in-Ok.ensures.calls told in
          let later = c.in-Ok.ensures.past_sync told (λ e. cc) in
          every_moment g.D.Disk ran.0 old opened new calls.0 calls.1 calls.2 later (c.in-Ok.ensures.synced told later) (endures told);
    })

same_end : (a b : End) → Ended a ≡ Ended b → a ≡ b
same_end a b is = cc

pub returns-in-Ok-clause-causes : goal.returns-in-Ok-clause-causes
returns-in-Ok-clause-causes g c =
    let ran = c.session.ensures.causes in
    let calm : g.D.Disk.faults c.recover.new.disk ≡ g.D.Disk.faults c.args.outside.now.disk = c.in-Ok.ensures.cause.kept (λ e. cc) in
    record {
      read = record { cause = λ is. ran.read.cause (same_end _ _ is); kept = λ no. ran.read.kept (λ is. no (ap Ended is)) };
      round = record {
        disk_cause = λ is. subst (λ (n : ℕ). Rose n (g.D.Disk.faults c.session.new.outside.disk)) calm (ran.round.disk_cause (same_end _ _ is));
        disk_kept = λ no nor. ran.round.disk_kept (λ is. no (ap Ended is)) (λ is. nor (ap Ended is)) ∙ calm;
        write = record { cause = λ is. ran.round.write.cause (same_end _ _ is); kept = λ no. ran.round.write.kept (λ is. no (ap Ended is)) };
      };
      draw = record { cause = λ is. ran.draw.cause (same_end _ _ is); kept = λ no. ran.draw.kept (λ is. no (ap Ended is)) };
    }

pub returns-in-Ok-clause-ends : goal.returns-in-Ok-clause-ends
returns-in-Ok-clause-ends g c source sink disk draws usage illegal full memory limit =
    let causes = returns-in-Ok-clause-causes g c in
    ends_well c.session.result (λ is. source (causes.read.cause is)) (λ is. sink (causes.round.write.cause is)) (λ is. disk (causes.round.disk_cause is)) (λ is. draws (causes.draw.cause is)) full memory limit
