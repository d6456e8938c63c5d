use Rattle.std.proofs.Common.{◌≡◌, ◌∙◌, ◌++◌, ◌-◌, ℕ, List, length, ap, sym, subst, take-append-drop}
use Rattle.std.specs.Prelude.{Bool, slice_get}
use Rattle.std.specs.Option.{option_to_list}
use Rattle.op_model.specs.declared.act.Entry.{Entry}
use Rattle.op_desk.specs.Batches.{BatchValue, history_in}
use Rattle.op_desk.specs.Wallets.{Handles}
use Rattle.op_desk.proofs.Batches.{kept_next, behind_next}
use Rattle.op_desk.proofs.batch.Batch.act.Goals as goal

pub invariant_of-self : goal.invariant_of-self
invariant_of-self g c =
    let e = c.answer.ensures in
    let entry = c.answer.result.entry in
    kept_next c.self.inside c.answer.new.self c.args.index (c.count.result - c.self.inside.begun) entry c.self.invariant e.sound e.entry e.round.0 e.round.1 e.fits
    (ap (λ (l : List Bool). slice_get l c.args.index) (ap (λ (v : BatchValue). v.used) c.self.view_is) ∙ c.requires.index)

pub returns-clause-handled : goal.returns-clause-handled
returns-clause-handled g c =
    let b = c.self.inside in
    let old : b.wallet.history ≡ history_in c.args.self.now = sym (take-append-drop b.begun b.wallet.history) ∙ ap history_in c.self.view_is in
    let new = take-append-drop b.begun c.answer.new.self.history in
    let moment = ap (λ (v : BatchValue). v.moment) c.self.view_is in
    let place = length c.args.self.now.entries in
    let task = c.args.task.now in
    let word = c.args.word.now in
    let reply = c.answer.result.reply in
    let after = c.answer.new.self.history in
    let h = c.answer.ensures.handled place in
    subst (λ (x : List Entry). Handles g.F.FeeTerms.allows (history_in c.args.self.now) c.args.self.now.moment place task word reply x) (sym new)
    (subst (λ (m : ℕ). Handles g.F.FeeTerms.allows (history_in c.args.self.now) m place task word reply after) moment
    (subst (λ (x : List Entry). Handles g.F.FeeTerms.allows x b.moment place task word reply after) old h))

pub returns-clause-entries : goal.returns-clause-entries
returns-clause-entries g c =
    let b = c.self.inside in
    let old = ap (λ (v : BatchValue). v.entries) c.self.view_is in (
      c.answer.result.entry,
      behind_next b.wallet.history c.answer.new.self.history b.begun c.answer.result.entry c.self.invariant.begun c.answer.ensures.entry ∙ ap (λ (l : List Entry). l ++ option_to_list c.answer.result.entry) old,
    )
