use Rattle.std.proofs.Common.{◌≤◌, ◌-◌, sym, ap, subst}
use Rattle.std.specs.Prelude.{unwrap_or}
use Rattle.op_grant.specs.Value.{spent_in}
use Rattle.op_grant.proofs.MaySpend.{given_back_is, nothing_given_back}
use Rattle.op_grant.proofs.grants.Grants.unspend.Goals as goal
use Rattle.op_grant.proofs.grants.Grants.unspend.Goals.{in-Some, in_default}

pub overflow_sub-spent : goal.overflow_sub-spent
overflow_sub-spent c =
    subst (λ o. c.args.value ≤ unwrap_or o 0) (sym c.in-Some.ensures.value) (subst (λ v. c.args.value ≤ spent_in v c.args.n c.args.j) (sym c.self.view_is) c.requires.covered)

pub returns : goal.returns
returns c =
    let rows = c.self.inside.rows.items in
    let counters = c.self.inside.counters in
    elim c.match-get_mut.branch [
      | in-Some w ↦ let written = (c.get_mut.follows.holds (w.in-Some.spent.now - c.args.value)).0 in
          rw w.self-inside-is (given_back_is c.args.self.now rows counters.entries _ c.args.n c.args.j c.args.value w.in-Some.spent.now c.self.view_is w.in-Some.ensures.value written)
      | in_default w ↦ rw w.self-inside-is
          (nothing_given_back c.args.self.now rows counters.entries _ c.args.n c.args.j c.args.value c.self.view_is w.in_default.ensures.value (ap (λ m. m.entries) c.get_mut.follows.holds-at-none))
    ]
