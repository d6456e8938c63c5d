use Rattle.std.proofs.Common.{refl, ap, ◌∙◌, map, take, arith}
use Rattle.std.specs.Prelude.{filter}
use Rattle.op_model.specs.declared.request.Task.TheVariants.{Expire}
use Rattle.op_model.specs.Numbers.{numbers_where}
use Rattle.op_incoming.specs.Rows.{row_is, is_due_at, is_unfinished}
use Rattle.op_incoming.proofs.Dues.{unfinished_where_due, first_tasks, all_tasks}
use Rattle.op_model.proofs.Numbers.{filter-numbers_where}
use Rattle.op_incoming.proofs.incomings.Incomings.first_due.Goals as goal

pub returns-then-len-room : goal.returns-then-len-room
returns-then-len-room c =
    let rows = c.args.self.now in
    let test = is_due_at c.args.t in
    let numbers = c.deref-number-items.ensures.value ∙ c.self.invariant.listed ∙ ap (numbers_where is_unfinished) c.self.view_is in
    let due = ap (filter (row_is test rows)) numbers ∙ filter-numbers_where is_unfinished test (row_is test rows) rows (unfinished_where_due c.args.t) (λ n. refl) in
    first_tasks (row_is test rows) c.deref-number-items.result.now c.loop-number.due.items c.loop-number.number-index c.args.room c.loop-number.invariant.items (omega (arith, c.len.ensures, c.if-len-room.true, c.loop-number.due.ok.0))
    ∙ ap (λ ns. map Expire (take c.args.room ns)) due

pub returns : goal.returns
returns c =
    let rows = c.args.self.now in
    let test = is_due_at c.args.t in
    let numbers = c.deref-number-items.ensures.value ∙ c.self.invariant.listed ∙ ap (numbers_where is_unfinished) c.self.view_is in
    let due = ap (filter (row_is test rows)) numbers ∙ filter-numbers_where is_unfinished test (row_is test rows) rows (unfinished_where_due c.args.t) (λ n. refl) in
    all_tasks (row_is test rows) c.deref-number-items.result.now c.loop-number.due.items c.loop-number.number-index c.args.room c.loop-number.invariant.items (omega (arith, c.loop-number-test.false)) c.loop-number.invariant.few
    ∙ ap (λ ns. map Expire (take c.args.room ns)) due
