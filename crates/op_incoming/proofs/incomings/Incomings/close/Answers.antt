use Rattle.std.proofs.Common.{◌≡◌, sym, subst, ◌∙◌, ap, rules}
use Rattle.std.specs.Prelude.{◌==◌, not, filter, IsTrue}
use Rattle.std.proofs.lemmas.Fn.{filter_same}
use Rattle.op_model.specs.History.{with_item}
use Rattle.op_model.proofs.Items.{set_at_is_with_item}
use Rattle.op_incoming.specs.Rows.{has_row, closed_as}
use Rattle.op_incoming.proofs.Kept.{kept_closed}
use Rattle.op_incoming.proofs.incomings.Incomings.close.Goals as goal

pub invariant_of-self : goal.invariant_of-self
invariant_of-self c =
    let n = c.args.n in
    let inside = c.self.inside in
    let there = subst (λ rows. IsTrue (has_row rows n)) (sym c.self.view_is) c.requires.there in
    let left : c.retain.new.self.items ≡ filter (λ k. not (k == n)) inside.unfinished.items = filter_same _ (λ k. not (k == n)) _ (λ k b f q. search rules) inside.unfinished.items _ c.retain.ensures.filtered in
    kept_closed inside.kept.items inside.unfinished.items c.retain.new.self.items n c.args.closing c.index_mut.result.now c.self.invariant there c.index_mut.ensures.value c.requires.closing left

pub returns : goal.returns
returns c =
    let n = c.args.n in
    let there = subst (λ rows. IsTrue (has_row rows n)) (sym c.self.view_is) c.requires.there in
    set_at_is_with_item (closed_as c.args.closing) n c.self.inside.kept.items c.index_mut.result.now there c.index_mut.ensures.value
    ∙ ap (λ rows. with_item (closed_as c.args.closing) rows n) c.self.view_is
