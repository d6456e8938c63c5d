use Rattle.std.proofs.Common.{◌≡◌, ◌⊎◌, inl, ◌∙◌, ◌+◌, ◌++◌, ◌∷◌, [], ⊎_elim, ℕ, List, length, length-append, refl, sym, ap, subst, arith}
use Rattle.std.specs.Prelude.{Ok, Err, Some, nat_le}
use Rattle.op_disk.proofs.Moments.{then}
use Rattle.op_journal.specs.Frames.{Holds, SpellsUpTo, IsFrameAt, IsBadFrame}
use Rattle.op_journal.specs.Recovered.{IsOldOrShort}
use Rattle.op_model.specs.declared.act.Entry.{Entry}
use Rattle.op_record.specs.Rounds.{IsRound}
use Rattle.op_desk.specs.Payloads.{IsLoaded}
use Rattle.op_desk.specs.Reading.{Fails, IsFree, FailsAtFrame, IsBrokenAt}
use Rattle.op_desk.specs.Spelling.{Stands}
use Rattle.op_journal.specs.declared.recovery.JournalFault.TheVariants as journal
use Rattle.op_desk.specs.Faults.{of_journal}
use Rattle.op_desk.specs.Wallets.{WalletValue, WalletState}
use Rattle.op_causes.specs.Causes.{Rose}
use Rattle.op_journal.specs.declared.recovery.JournalFault.{JournalFault}
use Rattle.op_desk.specs.declared.fault.DeskFault.{DeskFault}
use Rattle.op_desk.specs.declared.fault.DeskFault.TheVariants as desk
use Rattle.op_desk.proofs.Closing.{image_spells}
use Rattle.op_desk.proofs.Recovering.{first_calls, read_more, fails_at_frame, fails_at_record, fails_at_entry, begin_due, next_due, payload_due, spells_all, read_is_old}
use Rattle.op_desk.proofs.Unique.{due_where, free_where, sound_fails_not, one_history}
use Rattle.op_desk.proofs.desk.Desk.recover.Goals as goal

-- only the journal's fault of the disk is the desk's
disk_alone : (fault : JournalFault) → of_journal fault ≡ desk.DiskFault → fault ≡ journal.DiskFault
disk_alone journal.DiskFault is = refl
disk_alone journal.BadHeader is = cc
disk_alone (journal.BadFrame at) is = cc
disk_alone journal.Memory is = cc

-- ---- at the start

pub loop-frame-init : goal.loop-frame-init
loop-frame-init g c =
    let first = c.args.disk.now in
    let old = g.D.Disk.seen first in
    let now = c.begin.new.disk in
    let e = c.in-Ok.ensures in
    let empty : c.in-Ok-new.wallet.history ≡ [] = ap (λ (w : WalletState). w.history) c.in-Ok-new.ensures.value in
    record {
      at = e.start.0;
      counted = omega arith;
      sound = c.in-Ok-new.ensures.sound;
      last = inl empty;
      faults = e.cause.kept (λ bad. cc);
      read = λ told. record {
        opened = e.opened told;
        found = e.found told;
        rounds = [];
        payloads = [];
        are = tt;
        holds = subst (λ (k : ℕ). Holds [] k (g.D.Disk.seen now)) e.start.0 (e.holds told);
        is = sym empty;
      };
      frames = λ told. refl;
      calls = λ told. first_calls (nat_le (length old) 9) (g.D.Disk.moment first) (g.D.Disk.moment now) (e.calls told);
      past = λ told. e.past_sync (λ bad. cc);
      any_moment = e.any_moment;
      synced = λ told x left. e.synced told (e.past_sync (λ bad. cc)) x left;
    }

-- ---- a refusal of the opening

pub returns-in-Err-clause-refused_where : goal.returns-in-Err-clause-refused_where
returns-in-Err-clause-refused_where g c fault told fails =
    let old = g.D.Disk.seen c.args.disk.now in
    let due = begin_due old c.in-Err.fault c.in-Err.ensures.refusals (λ is. let h = c.in-Err.ensures.bad_header (ap Err is) told in record { long = h.0; strange = h.1 }) in
    due_where old c.from.result fault (subst (λ (e : DeskFault). IsFree e ⊎ Fails e old) (sym c.from.ensures) due) fails

-- ---- a refusal of a frame

pub returns-in-Err-next_frame-clause-refused : goal.returns-in-Err-next_frame-clause-refused
returns-in-Err-next_frame-clause-refused g c told =
    let inv = c.loop-frame.invariant in
    let old = g.D.Disk.seen c.args.disk.now in
    let seen = g.D.Disk.seen c.loop-frame.disk in
    let images = g.D.Disk.images c.loop-frame.disk in
    let e = c.in-Err-next_frame in
    let due = next_due old e.fault e.ensures.refusals (λ at is.
    let h = e.ensures.bad_frame at (ap Err is) in
    let here = h.0 ∙ inv.at in
    let bad = subst (λ (k : ℕ). IsBadFrame k seen) here (h.1 told) in
    subst (λ (k : ℕ). FailsAtFrame old k) (sym here) (fails_at_frame old seen images c.loop-frame.recovery.length c.loop-frame.gate c.loop-frame.wallet.history (inv.read told) inv.sound bad)) in
    subst (λ (x : DeskFault). IsFree x ⊎ Fails x old) (sym c.from-in-Err-next_frame.ensures) due

pub returns-in-Err-next_frame-clause-refused_where : goal.returns-in-Err-next_frame-clause-refused_where
returns-in-Err-next_frame-clause-refused_where g c fault told fails =
    due_where (g.D.Disk.seen c.args.disk.now) c.from-in-Err-next_frame.result fault (returns-in-Err-next_frame-clause-refused g c told) fails

pub returns-in-Err-next_frame-clause-opened_where : goal.returns-in-Err-next_frame-clause-opened_where
returns-in-Err-next_frame-clause-opened_where g c history told spells =
    free_where (g.D.Disk.seen c.args.disk.now) c.from-in-Err-next_frame.result history (returns-in-Err-next_frame-clause-refused g c told) spells

pub returns-in-Err-next_frame-clause-any_moment : goal.returns-in-Err-next_frame-clause-any_moment
returns-in-Err-next_frame-clause-any_moment g c told =
    let inv = c.loop-frame.invariant in
    let first = c.args.disk.now in
    let seen = g.D.Disk.seen c.loop-frame.disk in
    then g.D.Disk first c.loop-frame.disk c.next_frame.new.disk (IsOldOrShort (g.D.Disk.images first) (g.D.Disk.seen first)) (λ x. x ≡ seen) (inv.any_moment told) (c.next_frame.ensures.any_moment told)
    (λ x is. read_is_old (g.D.Disk.seen first) seen x (g.D.Disk.images first) (inv.read told).opened (g.met.D.Disk.reads_an_image first told) is)

pub returns-in-Err-next_frame-clause-cause : goal.returns-in-Err-next_frame-clause-cause
returns-in-Err-next_frame-clause-cause g c =
    let e = c.in-Err-next_frame in
    let before = c.loop-frame.invariant.faults in
    record {
      cause = λ named.
          let same : c.from-in-Err-next_frame.result ≡ desk.DiskFault = cc in
          let is = ap Err (disk_alone e.fault (sym c.from-in-Err-next_frame.ensures ∙ same)) in
          subst (λ (k : ℕ). Rose k (g.D.Disk.faults c.next_frame.new.disk)) before (e.ensures.cause.cause is);
      kept = λ other.
          e.ensures.cause.kept (λ is. let same : e.fault ≡ journal.DiskFault = cc in other (ap Err (c.from-in-Err-next_frame.ensures ∙ ap of_journal same))) ∙ before;
    }

-- ---- the end

pub returns-then-not-more-clause-whole : goal.returns-then-not-more-clause-whole
returns-then-not-more-clause-whole g c =
    let inv = c.loop-frame.invariant in
    let old = g.D.Disk.seen c.args.disk.now in
    let seen = g.D.Disk.seen c.loop-frame.disk in
    let images = g.D.Disk.images c.loop-frame.disk in
    let e = c.in-Ok-next_frame.ensures in
    let no = ap Ok c.if-not-more.true in (
      c.loop-frame.wallet.history,
      refl,
      inv.sound,
      λ told.
          let read = inv.read told in
          let payloads = read.payloads in
          let upto = e.spells no told payloads (subst (λ (k : ℕ). Holds payloads k seen) (sym inv.at) read.holds) in
          let here = subst (λ (k : ℕ). SpellsUpTo payloads k seen) ((e.end no).0 ∙ inv.at) (subst (λ (l : List ℕ). SpellsUpTo payloads c.next_frame.new.self.at l) e.seen upto) in
          spells_all old seen images c.loop-frame.recovery.length c.loop-frame.gate c.loop-frame.wallet.history read here,
    )

pub returns-then-not-more-clause-alone : goal.returns-then-not-more-clause-alone
unfolding returns-then-not-more-clause-whole
returns-then-not-more-clause-alone g c told history spelled =
    let whole = returns-then-not-more-clause-whole g c in
    ap (λ (h : List Entry). let w : WalletValue = record { history = h } in Some w) (one_history (g.D.Disk.seen c.args.disk.now) whole.0 history (whole.3 told) spelled)

pub returns-then-not-more-clause-calls : goal.returns-then-not-more-clause-calls
unfolding returns-then-not-more-clause-whole spells_all
returns-then-not-more-clause-calls g c told =
    let inv = c.loop-frame.invariant in
    let no = ap Ok c.if-not-more.true in
    let spelled = (returns-then-not-more-clause-whole g c).3 told in
    let frames : length spelled.0 ≡ c.loop-frame._frame = inv.frames told in
    (spelled.0, spelled.1, omega (arith, inv.calls told, frames, c.in-Ok-next_frame.ensures.last_call no))

pub returns-then-not-more-clause-refused_where : goal.returns-then-not-more-clause-refused_where
returns-then-not-more-clause-refused_where g c fault told fails =
    let whole = returns-then-not-more-clause-whole g c in
    sound_fails_not (g.D.Disk.seen c.args.disk.now) whole.0 fault (record { spells = whole.3 told; sound = whole.2 }) fails

pub returns-then-not-more-clause-images : goal.returns-then-not-more-clause-images
returns-then-not-more-clause-images g c told x image =
    let inv = c.loop-frame.invariant in
    let seen = g.D.Disk.seen c.loop-frame.disk in
    let e = c.in-Ok-next_frame.ensures in
    let no = ap Ok c.if-not-more.true in
    let read = inv.read told in
    let payloads = read.payloads in
    let upto = e.spells no told payloads (subst (λ (k : ℕ). Holds payloads k seen) (sym inv.at) read.holds) in
    let stands : Stands (read.rounds) c.next_frame.new.self.at (g.D.Disk.seen c.next_frame.new.disk) (g.D.Disk.images c.next_frame.new.disk) = record { payloads = payloads; are = read.are; holds = upto.holds; settled = e.settled no told } in (
      read.rounds,
      ap (λ (h : List Entry). let w : WalletValue = record { history = h } in Some w) (sym read.is),
      image_spells read.rounds c.next_frame.new.self.at (g.D.Disk.seen c.next_frame.new.disk) (g.D.Disk.images c.next_frame.new.disk) x stands image,
    )

-- ---- a refusal of a payload

pub returns-in-Err-load_payload-clause-refused : goal.returns-in-Err-load_payload-clause-refused
returns-in-Err-load_payload-clause-refused g c told =
    let inv = c.loop-frame.invariant in
    let old = g.D.Disk.seen c.args.disk.now in
    let seen = g.D.Disk.seen c.loop-frame.disk in
    let images = g.D.Disk.images c.loop-frame.disk in
    let payload = c.next_frame.new.payload.items in
    let same = c.deref.ensures.value in
    let yes = ap Ok c.if-not-more.false in
    let found = subst (λ (k : ℕ). IsFrameAt k payload seen) inv.at (c.in-Ok-next_frame.ensures.frame yes told) in
    let e = c.in-Err-load_payload in
    payload_due old e.fault e.ensures.refusals
    (λ at is.
    let h = e.ensures.broken at (ap Err is) in
    fails_at_record old seen images c.loop-frame.recovery.length c.loop-frame.gate at h.0 c.loop-frame.wallet.history payload (inv.read told) inv.sound found (subst (λ (p : List ℕ). IsBrokenAt p h.0) same h.1) h.2)
    (λ number is.
    let h = e.ensures.illegal number (ap Err is) in
    fails_at_entry old seen images c.loop-frame.recovery.length c.loop-frame.gate number c.loop-frame.wallet.history h.0 payload (inv.read told) inv.sound found (subst (λ (p : List ℕ). IsRound p h.0) same h.1) h.2)

pub returns-in-Err-load_payload-clause-refused_where : goal.returns-in-Err-load_payload-clause-refused_where
returns-in-Err-load_payload-clause-refused_where g c fault told fails =
    due_where (g.D.Disk.seen c.args.disk.now) c.in-Err-load_payload.fault fault (returns-in-Err-load_payload-clause-refused g c told) fails

pub returns-in-Err-load_payload-clause-opened_where : goal.returns-in-Err-load_payload-clause-opened_where
returns-in-Err-load_payload-clause-opened_where g c history told spells =
    free_where (g.D.Disk.seen c.args.disk.now) c.in-Err-load_payload.fault history (returns-in-Err-load_payload-clause-refused g c told) spells

pub returns-in-Err-load_payload-clause-any_moment : goal.returns-in-Err-load_payload-clause-any_moment
returns-in-Err-load_payload-clause-any_moment g c told =
    let inv = c.loop-frame.invariant in
    let first = c.args.disk.now in
    let seen = g.D.Disk.seen c.loop-frame.disk in
    then g.D.Disk first c.loop-frame.disk c.next_frame.new.disk (IsOldOrShort (g.D.Disk.images first) (g.D.Disk.seen first)) (λ x. x ≡ seen) (inv.any_moment told) (c.next_frame.ensures.any_moment told)
    (λ x is. read_is_old (g.D.Disk.seen first) seen x (g.D.Disk.images first) (inv.read told).opened (g.met.D.Disk.reads_an_image first told) is)

-- ---- one frame more

pub loop-frame-preserved : goal.loop-frame-preserved
unfolding read_more
loop-frame-preserved g c =
    let inv = c.loop-frame.invariant in
    let first = c.args.disk.now in
    let old = g.D.Disk.seen first in
    let seen = g.D.Disk.seen c.loop-frame.disk in
    let e = c.in-Ok-next_frame.ensures in
    let payload = c.next_frame.new.payload.items in
    let yes = ap Ok c.if-not-more.false in
    let next : c.next_frame.new.self.at ≡ c.loop-frame.gate + (5 + c.len.result) = omega (arith, (e.next yes).0, inv.at, c.len.ensures, c.next_frame.new.payload.ok.0) in
    let round = subst (λ (p : List ℕ). IsLoaded p c.loop-frame.wallet.history c.load_payload.new.wallet.history) c.deref.ensures.value c.in-Ok-load_payload.ensures.ok in
    record {
      at = next;
      counted = omega (arith, inv.counted, next);
      sound = round.sound;
      last = c.in-Ok-load_payload.ensures.last;
      faults = e.cause.kept (λ bad. cc) ∙ inv.faults;
      read = λ told.
          read_more old seen (g.D.Disk.seen c.next_frame.new.disk) (g.D.Disk.images c.loop-frame.disk) (g.D.Disk.images c.next_frame.new.disk) c.loop-frame.recovery.length c.next_frame.new.self.length c.loop-frame.gate (c.loop-frame.gate + (5 + c.len.result))
          c.loop-frame.wallet.history c.load_payload.new.wallet.history payload (inv.read told) e.seen (e.found told)
          (λ payloads holds. subst (λ (k : ℕ). Holds (payloads ++ payload ∷ []) k (g.D.Disk.seen c.next_frame.new.disk)) next (e.holds yes told payloads (subst (λ (k : ℕ). Holds payloads k seen) (sym inv.at) holds)))
          round;
      frames = λ told. length-append (inv.read told).rounds (round.round ∷ []) ∙ omega (arith, inv.frames told);
      calls = λ told. omega (arith, inv.calls told, e.calls yes);
      past = λ told. omega (arith, inv.past told, (e.any_moment told).later);
      any_moment = λ told.
          then g.D.Disk first c.loop-frame.disk c.next_frame.new.disk (IsOldOrShort (g.D.Disk.images first) old) (λ x. x ≡ seen) (inv.any_moment told) (e.any_moment told) (λ x is. read_is_old old seen x (g.D.Disk.images first) (inv.read told).opened (g.met.D.Disk.reads_an_image first told) is);
      synced = λ told x left.
          ⊎_elim (λ was. inv.synced told x was) (λ is. read_is_old old seen x (λ d. d ≡ old) (inv.read told).opened refl is) ((e.any_moment told).before (g.D.Disk.moment first + 1) x (omega (arith, inv.past told)) left);
    }
