use Rattle.std.proofs.Common.{◌≡◌, ◌-◌, true, false, sym, ap, subst, ◌∙◌, arith, rules}
use Rattle.std.specs.Prelude.{◌==◌, not, filter, slice_set, is_some, IsTrue}
use Rattle.std.proofs.lemmas.Fn.{filter_same}
use Rattle.op_model.specs.History.{nth, with_item}
use Rattle.op_model.proofs.Items.{set_at_is_with_item}
use Rattle.op_hooks.specs.Due.{is_open, tried_once}
use Rattle.op_model.specs.Numbers.{numbers_where}
use Rattle.op_hooks.specs.Value.{is_event_due_in}
use Rattle.op_hooks.proofs.Dues.{place_of_some, nth_of_place, due_of_number, open_where_due, attempted_is}
use Rattle.op_model.proofs.Numbers.{numbers_where-stays, numbers_where-leaves}
use Rattle.op_hooks.proofs.events.Events.attempted.Goals as goal

pub index_mut-requires : goal.index_mut-requires
index_mut-requires c =
    let kept = c.self.inside.kept in
    let there = subst (λ v. IsTrue (is_some (nth v.events c.args.event))) (sym c.self.view_is) c.requires in
    omega (arith, place_of_some kept.items c.args.event there, kept.ok.0)

pub invariant_of-self : goal.invariant_of-self
invariant_of-self c =
    let kept = c.self.inside.kept in
    let n = c.args.event in
    let change = tried_once c.args.t c.args.outcome in
    let there = subst (λ v. IsTrue (is_some (nth v.events n))) (sym c.self.view_is) c.requires in
    let found = nth_of_place kept.items n c.index.result.now there c.index.ensures in
    let left : c.retain.new.self.items ≡ filter (λ k. not (k == n)) c.self.inside.unfinished.items =
    filter_same _ (λ k. not (k == n)) _ (λ k b f q. search rules) c.self.inside.unfinished.items _ c.retain.ensures.filtered in
    let written : slice_set kept.items (n - 1) c.tried_once-tried.result ≡ with_item change kept.items n =
    ap (slice_set kept.items (n - 1)) c.tried_once-tried.ensures ∙ set_at_is_with_item change n kept.items c.index.result.now there c.index.ensures in
    let closed : is_open (change c.index.result.now) ≡ false = ap is_open (sym c.tried_once-tried.ensures) ∙ sym c.is_open.ensures ∙ c.if-not-is_open.true in
    let leaves = numbers_where-leaves is_open change kept.items n c.index.result.now found closed in
    (left ∙ ap (filter (λ k. not (k == n))) c.self.invariant.0 ∙ sym leaves ∙ ap (numbers_where is_open) (sym written), omega (arith, c.retain.ensures.capacity, c.self.invariant.1))

pub invariant_of-self-else-not-is_open : goal.invariant_of-self-else-not-is_open
invariant_of-self-else-not-is_open c =
    let kept = c.self.inside.kept in
    let n = c.args.event in
    let change = tried_once c.args.t c.args.outcome in
    let there = subst (λ v. IsTrue (is_some (nth v.events n))) (sym c.self.view_is) c.requires in
    let found = nth_of_place kept.items n c.index.result.now there c.index.ensures in
    let written : slice_set kept.items (n - 1) c.tried_once-tried.result ≡ with_item change kept.items n =
    ap (slice_set kept.items (n - 1)) c.tried_once-tried.ensures ∙ set_at_is_with_item change n kept.items c.index.result.now there c.index.ensures in
    let is : is_open (change c.index.result.now) ≡ true = ap is_open (sym c.tried_once-tried.ensures) ∙ sym c.is_open.ensures ∙ c.if-not-is_open.false in
    let due = subst (λ v. is_event_due_in v n c.args.t ≡ true) (sym c.self.view_is) (sym c.is_due.ensures ∙ c.if-not-is_due.false) in
    let was = open_where_due c.args.t c.index.result.now (due_of_number c.args.t kept.items n c.index.result.now found due) in
    let stays = numbers_where-stays is_open change kept.items n c.index.result.now found (is ∙ sym was) in
    (c.self.invariant.0 ∙ sym stays ∙ ap (numbers_where is_open) (sym written), c.self.invariant.1)

pub returns-then-not-is_open-clause-done : goal.returns-then-not-is_open-clause-done
returns-then-not-is_open-clause-done c =
    let kept = c.self.inside.kept in
    let n = c.args.event in
    let change = tried_once c.args.t c.args.outcome in
    let there = subst (λ v. IsTrue (is_some (nth v.events n))) (sym c.self.view_is) c.requires in
    let written = ap (slice_set kept.items (n - 1)) c.tried_once-tried.ensures ∙ set_at_is_with_item change n kept.items c.index.result.now there c.index.ensures in
    attempted_is c.args.self.now kept.items (slice_set kept.items (n - 1) c.tried_once-tried.result) _ n c.args.t c.args.outcome c.self.view_is written

pub returns-else-not-is_open-clause-done : goal.returns-else-not-is_open-clause-done
returns-else-not-is_open-clause-done c =
    let kept = c.self.inside.kept in
    let n = c.args.event in
    let change = tried_once c.args.t c.args.outcome in
    let there = subst (λ v. IsTrue (is_some (nth v.events n))) (sym c.self.view_is) c.requires in
    let written = ap (slice_set kept.items (n - 1)) c.tried_once-tried.ensures ∙ set_at_is_with_item change n kept.items c.index.result.now there c.index.ensures in
    attempted_is c.args.self.now kept.items (slice_set kept.items (n - 1) c.tried_once-tried.result) _ n c.args.t c.args.outcome c.self.view_is written
