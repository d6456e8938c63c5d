-- How a run of calls on a disk goes on.
use Rattle.std.proofs.Common.{inl, inr, ⊎_elim, ℕ, List, arith}
use Rattle.op_disk.specs.Calls.{Elapses}
use Rattle.op_disk.specs.Moments.{LeavesOnly}
use Rattle.op_disk.specs.declared.Disk.{Ghosts}

module _ {D : Type 0} (g : Ghosts D) where
  pub started : (old : D) (P : List ℕ → Type 0) → ((c : List ℕ) → g.since old (g.moment old) c → P c) → LeavesOnly g old old P
  started old P here = record { later = omega arith; each = here; before = λ t c le left. inl left }

  -- by one call
  pub goes_on : (old mid new : D) (P images : List ℕ → Type 0) → LeavesOnly g old mid P → Elapses (g.moment mid) (g.moment new) (g.since mid) (g.since new) images
      → ((c : List ℕ) → images c → P c) → LeavesOnly g old new P
  goes_on old mid new P images so_far time here = record {
    later = omega (arith, so_far.later, time.later);
    each = λ c left. ⊎_elim (so_far.each c) (here c) (time.nothing_else (g.moment old) c so_far.later left);
    before = λ t c le left. ⊎_elim (so_far.before t c le) (λ now. inr (here c now)) (time.nothing_else t c (omega (arith, le, so_far.later)) left);
  }

  -- by another run
  pub then : (old mid new : D) (P Q : List ℕ → Type 0) → LeavesOnly g old mid P → LeavesOnly g mid new Q → ((c : List ℕ) → Q c → P c) → LeavesOnly g old new P
  then old mid new P Q first next also = record {
    later = omega (arith, first.later, next.later);
    each = λ c left. ⊎_elim (first.each c) (also c) (next.before (g.moment old) c first.later left);
    before = λ t c le left. ⊎_elim (first.before t c le) (λ now. inr (also c now)) (next.before t c (omega (arith, le, first.later)) left);
  }
