use Rattle.std.proofs.Common.{◌≡◌, ◌+◌, ◌*◌, ◌<◌, ◌≤◌, ℕ, List, length, IsTrue, nat_le, if◌then◌else◌}
use Rattle.op_disk.specs.Moments.{LeavesOnly}
use Rattle.op_journal.specs.Recovered.{IsOldOrShort}
use Rattle.op_desk.specs.Wallets.{IsSound, IsAtLast}
use Rattle.op_desk.proofs.Recovering.{HasRead}
use Rattle.op_desk.proofs.desk.Desk.recover.Given as goal

abbrev pub invariant-loop-frame : goal.invariant-loop-frame
invariant-loop-frame g l = record {
  at : l.recovery.at ≡ l.gate;
  counted : l._frame + 8 ≤ l.gate;
  sound : IsSound l.wallet.history;
  last : IsAtLast l.wallet;
  faults : g.D.Disk.faults l.disk ≡ g.D.Disk.faults l.fn.disk;
  read : IsTrue g.D.Disk.tells → HasRead (g.D.Disk.seen l.fn.disk) (g.D.Disk.seen l.disk) (g.D.Disk.images l.disk) l.recovery.length l.gate l.wallet.history;
  frames : (told : IsTrue g.D.Disk.tells) → length (read told).rounds ≡ l._frame;
  calls : IsTrue g.D.Disk.tells → g.D.Disk.moment l.disk ≡ g.D.Disk.moment l.fn.disk + ((if nat_le (length (g.D.Disk.seen l.fn.disk)) 9 then 4 else 3) + 3 * l._frame);
  past : IsTrue g.D.Disk.tells → g.D.Disk.moment l.fn.disk + 1 < g.D.Disk.moment l.disk;
  any_moment : IsTrue g.D.Disk.tells → LeavesOnly g.D.Disk l.fn.disk l.disk (IsOldOrShort (g.D.Disk.images l.fn.disk) (g.D.Disk.seen l.fn.disk));
  synced : IsTrue g.D.Disk.tells → (c : List ℕ) → g.D.Disk.since l.disk (g.D.Disk.moment l.fn.disk + 1) c → IsOldOrShort (λ d. d ≡ g.D.Disk.seen l.fn.disk) (g.D.Disk.seen l.fn.disk) c;
}
