use Rattle.std.proofs.Common.{refl, ap, ◌∙◌, take, arith}
use Rattle.std.specs.Prelude.{filter}
use Rattle.op_hooks.specs.Due.{is_due_at, is_open}
use Rattle.op_model.specs.Numbers.{numbers_where}
use Rattle.op_hooks.specs.Value.{is_event_due_in}
use Rattle.op_hooks.proofs.Dues.{open_where_due}
use Rattle.op_model.proofs.Numbers.{filter-numbers_where, first_passing, all_passing}
use Rattle.op_hooks.proofs.events.Events.first_due.Goals as goal

pub returns-then-len-room : goal.returns-then-len-room
returns-then-len-room c =
    let value = c.args.self.now in
    let t = c.args.t in
    let numbers = c.deref-number-items.ensures.value ∙ c.self.invariant.0 ∙ ap (λ v. numbers_where is_open v.events) c.self.view_is in
    let due = ap (filter (λ n. is_event_due_in value n t)) numbers ∙ filter-numbers_where is_open (is_due_at t) (λ n. is_event_due_in value n t) value.events (open_where_due t) (λ n. refl) in
    first_passing (λ n. is_event_due_in value n t) c.deref-number-items.result.now c.loop-number.due.items c.loop-number.number-index c.args.room c.loop-number.invariant.items (omega (arith, c.len.ensures, c.if-len-room.true, c.loop-number.due.ok.0))
    ∙ ap (take c.args.room) due

pub returns : goal.returns
returns c =
    let value = c.args.self.now in
    let t = c.args.t in
    let numbers = c.deref-number-items.ensures.value ∙ c.self.invariant.0 ∙ ap (λ v. numbers_where is_open v.events) c.self.view_is in
    let due = ap (filter (λ n. is_event_due_in value n t)) numbers ∙ filter-numbers_where is_open (is_due_at t) (λ n. is_event_due_in value n t) value.events (open_where_due t) (λ n. refl) in
    all_passing (λ n. is_event_due_in value n t) c.deref-number-items.result.now c.loop-number.due.items c.loop-number.number-index c.args.room c.loop-number.invariant.items (omega (arith, c.loop-number-test.false)) c.loop-number.invariant.few
    ∙ ap (take c.args.room) due
