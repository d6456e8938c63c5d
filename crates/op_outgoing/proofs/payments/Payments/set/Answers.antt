use Rattle.std.proofs.Common.{◌≡◌, true, false, sym, subst, ◌∙◌, ap, rules}
use Rattle.std.specs.Prelude.{◌==◌, not, filter, IsTrue, is_some, IfSome}
use Rattle.std.proofs.lemmas.Fn.{filter_same}
use Rattle.op_model.specs.History.{nth, with_item}
use Rattle.op_model.proofs.Items.{set_at_is_with_item}
use Rattle.op_outgoing.specs.Progress.{with_progress, is_alive, CanBecome}
use Rattle.op_outgoing.proofs.Kept.{kept_ended, kept_going}
use Rattle.op_outgoing.proofs.payments.Payments.set.Goals as goal

pub invariant_of-self : goal.invariant_of-self
invariant_of-self c =
    let n = c.args.n in
    let p = c.args.progress in
    let inside = c.self.inside in
    let there = subst (λ rows. IsTrue (is_some (nth rows n))) (sym c.self.view_is) c.requires.there in
    let can = subst (λ rows. IfSome (nth rows n) (λ row. CanBecome p row)) (sym c.self.view_is) c.requires.can in
    let ended : is_alive (with_progress p c.index_mut-row.result.now) ≡ false = ap not (sym c.has_ended.ensures ∙ c.if-has_ended.true) in
    let left : c.retain.new.self.items ≡ filter (λ k. not (k == n)) inside.running.items = filter_same _ (λ k. not (k == n)) _ (λ k b f q. search rules) inside.running.items _ c.retain.ensures.filtered in
    kept_ended inside.kept.items inside.running.items c.retain.new.self.items n p c.index_mut-row.result.now c.self.invariant there c.index_mut-row.ensures.value can ended left

pub invariant_of-self-else-has_ended : goal.invariant_of-self-else-has_ended
invariant_of-self-else-has_ended c =
    let n = c.args.n in
    let p = c.args.progress in
    let inside = c.self.inside in
    let there = subst (λ rows. IsTrue (is_some (nth rows n))) (sym c.self.view_is) c.requires.there in
    let can = subst (λ rows. IfSome (nth rows n) (λ row. CanBecome p row)) (sym c.self.view_is) c.requires.can in
    let going : is_alive (with_progress p c.index_mut-row.result.now) ≡ true = ap not (sym c.has_ended.ensures ∙ c.if-has_ended.false) in
    kept_going inside.kept.items inside.running.items n p c.index_mut-row.result.now c.self.invariant there c.index_mut-row.ensures.value can going

pub returns-then-has_ended : goal.returns-then-has_ended
returns-then-has_ended c =
    let n = c.args.n in
    let there = subst (λ rows. IsTrue (is_some (nth rows n))) (sym c.self.view_is) c.requires.there in
    set_at_is_with_item (with_progress c.args.progress) n c.self.inside.kept.items c.index_mut-row.result.now there c.index_mut-row.ensures.value
    ∙ ap (λ rows. with_item (with_progress c.args.progress) rows n) c.self.view_is

pub returns-else-has_ended : goal.returns-else-has_ended
returns-else-has_ended c =
    let n = c.args.n in
    let there = subst (λ rows. IsTrue (is_some (nth rows n))) (sym c.self.view_is) c.requires.there in
    set_at_is_with_item (with_progress c.args.progress) n c.self.inside.kept.items c.index_mut-row.result.now there c.index_mut-row.ensures.value
    ∙ ap (λ rows. with_item (with_progress c.args.progress) rows n) c.self.view_is
