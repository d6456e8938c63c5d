use Rattle.std.proofs.Common.{◌≡◌, ◌<◌, ◌-◌, false, true, length, get_or-set_same, sym, subst, ◌∙◌, ap, rules}
use Rattle.std.specs.Prelude.{◌==◌, not, filter, IsTrue}
use Rattle.std.proofs.lemmas.Fn.{filter_same}
use Rattle.op_model.proofs.Items.{set_at_is_with_item}
use Rattle.op_incoming.specs.Rows.{has_row, received_by, bound_in, with_received, is_unfinished, paid}
use Rattle.op_incoming.proofs.Kept.{kept_full, kept_partly}
use Rattle.op_incoming.proofs.Places.{place_of_some}
use Rattle.op_incoming.proofs.incomings.Incomings.receive.Goals as goal

pub invariant_of-self : goal.invariant_of-self
invariant_of-self c =
    let n = c.args.n in
    let inside = c.self.inside in
    let rows = inside.kept.items in
    let x = c.index_mut.result.now in
    let there = subst (λ rows. IsTrue (has_row rows n)) (sym c.self.view_is) c.requires.there in
    let below = subst (λ rows. received_by rows n < bound_in rows n) (sym c.self.view_is) c.requires.below in
    let place : n - 1 < length rows = place_of_some rows n there in
    let after : c.index.result.now ≡ with_received c.args.value x = c.index.ensures ∙ get_or-set_same rows (n - 1) (with_received c.args.value x) c.index.result.now place in
    let full : is_unfinished (with_received c.args.value x) ≡ false = ap is_unfinished (sym after) ∙ sym c.is_unfinished.ensures ∙ c.if-not-is_unfinished.true in
    let left : c.retain.new.self.items ≡ filter (λ k. not (k == n)) inside.unfinished.items = filter_same _ (λ k. not (k == n)) _ (λ k b f q. search rules) inside.unfinished.items _ c.retain.ensures.filtered in
    kept_full rows inside.unfinished.items c.retain.new.self.items n c.args.value x c.self.invariant there c.index_mut.ensures.value below c.requires.value full left

pub invariant_of-self-else-not-is_unfinished : goal.invariant_of-self-else-not-is_unfinished
invariant_of-self-else-not-is_unfinished c =
    let n = c.args.n in
    let inside = c.self.inside in
    let rows = inside.kept.items in
    let x = c.index_mut.result.now in
    let there = subst (λ rows. IsTrue (has_row rows n)) (sym c.self.view_is) c.requires.there in
    let below = subst (λ rows. received_by rows n < bound_in rows n) (sym c.self.view_is) c.requires.below in
    let place : n - 1 < length rows = place_of_some rows n there in
    let after : c.index.result.now ≡ with_received c.args.value x = c.index.ensures ∙ get_or-set_same rows (n - 1) (with_received c.args.value x) c.index.result.now place in
    let partly : is_unfinished (with_received c.args.value x) ≡ true = ap is_unfinished (sym after) ∙ sym c.is_unfinished.ensures ∙ c.if-not-is_unfinished.false in
    kept_partly rows inside.unfinished.items n c.args.value x c.self.invariant there c.index_mut.ensures.value below c.requires.value partly

pub returns-then-not-is_unfinished : goal.returns-then-not-is_unfinished
returns-then-not-is_unfinished c =
    let n = c.args.n in
    let there = subst (λ rows. IsTrue (has_row rows n)) (sym c.self.view_is) c.requires.there in
    set_at_is_with_item (with_received c.args.value) n c.self.inside.kept.items c.index_mut.result.now there c.index_mut.ensures.value
    ∙ ap (λ rows. paid rows n c.args.value) c.self.view_is

pub returns-else-not-is_unfinished : goal.returns-else-not-is_unfinished
returns-else-not-is_unfinished c =
    let n = c.args.n in
    let there = subst (λ rows. IsTrue (has_row rows n)) (sym c.self.view_is) c.requires.there in
    set_at_is_with_item (with_received c.args.value) n c.self.inside.kept.items c.index_mut.result.now there c.index_mut.ensures.value
    ∙ ap (λ rows. paid rows n c.args.value) c.self.view_is
