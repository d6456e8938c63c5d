use Rattle.std.proofs.Common.{◌≡◌, ◌<◌, [], ◌∷◌, ◌++◌, refl, ap, sym, ◌∙◌, map, take, length, length-append, get_or, unwrap_or, arith}
use Rattle.std.specs.Prelude.{filter}
use Rattle.std.proofs.lemmas.List.{length-map, take_all}
use Rattle.op_model.specs.Numbers.{numbers_where}
use Rattle.op_model.proofs.Numbers.{first_passing, all_passing}
use Rattle.op_model.specs.History.{last}
use Rattle.op_model.specs.declared.request.Task.TheVariants.{Step}
use Rattle.op_outgoing.specs.Progress.{is_alive}
use Rattle.op_outgoing.proofs.Rounds.{is_above, step_in, due_of_numbers, cursor_full, cursor_short, taken_more, taken_same, step_more, last_more}
use Rattle.op_outgoing.proofs.payments.Payments.due.Goals as goal
use Rattle.op_outgoing.proofs.payments.Payments.due.Goals.{then-number-cursor+in_ok-push, else-number-cursor, then-len-room-2, else-len-room-2}

pub returns-then-len-room : goal.returns-then-len-room
returns-then-len-room c =
    let rows = c.args.self.now in
    let cursor = c.args.cursor in
    let room = c.args.room in
    let items = c.deref-number-items.result.now in
    let ns = filter (is_above cursor) (take c.loop-number.number-index items) in
    let numbers : items ≡ numbers_where is_alive rows = c.deref-number-items.ensures.value ∙ c.self.invariant.listed ∙ ap (numbers_where is_alive) c.self.view_is in
    let full : length ns ≡ room = omega (arith, ap length c.loop-number.invariant.tasks, length-map ns (step_in rows), c.len.ensures, c.if-len-room.true, c.loop-number.tasks.ok.0) in
    let first : ns ≡ take room (filter (is_above cursor) (numbers_where is_alive rows)) = first_passing (is_above cursor) items ns c.loop-number.number-index room refl full ∙ ap (λ xs. take room (filter (is_above cursor) xs)) numbers in
    (due_of_numbers rows cursor room c.loop-number.tasks.items ns c.loop-number.invariant.tasks first, cursor_full rows cursor room c.loop-number.last ns c.loop-number.invariant.last first full)

pub loop-number-preserved : goal.loop-number-preserved
loop-number-preserved c =
    let rows = c.args.self.now in
    let cursor = c.args.cursor in
    let i = c.loop-number.number-index in
    let items = c.deref-number-items.result.now in
    let n = get_or items i 0 in
    let within : i < length items = omega (arith, c.loop-number-test.true) in
    elim c.if-number-cursor.branch [
      | then-number-cursor+in_ok-push w ↦
          let more = taken_more cursor items i n within refl w.if-number-cursor.true in
          let pushed : c.if-number-cursor.tasks.items ≡ c.loop-number.tasks.items ++ Step n w.step_of.result ∷ [] = ap (λ tasks. tasks.items) w.tasks-is ∙ w.in_ok-push.ensures.items in
          record {
            tasks = pushed ∙ step_more rows c.loop-number.tasks.items (filter (is_above cursor) (take i items)) _ n w.step_of.result c.loop-number.invariant.tasks w.step_of.ensures more;
            last = w.last-is ∙ last_more (filter (is_above cursor) (take i items)) _ n more;
            few = omega (arith, ap length pushed, length-append c.loop-number.tasks.items (Step n w.step_of.result ∷ []), c.loop-number.invariant.few, c.len.ensures, c.if-len-room.false, c.loop-number.tasks.ok.0);
          }
      | else-number-cursor w ↦
          let same = taken_same cursor items i n within refl w.if-number-cursor.false in
          record {
            tasks = ap (λ tasks. tasks.items) w.tasks-is ∙ c.loop-number.invariant.tasks ∙ ap (map (step_in rows)) (sym same);
            last = w.last-is ∙ c.loop-number.invariant.last ∙ ap (λ ns. unwrap_or (last ns) 0) (sym same);
            few = omega (arith, ap (λ tasks. length tasks.items) w.tasks-is, c.loop-number.invariant.few);
          }
    ]

pub returns : goal.returns
returns c =
    let rows = c.args.self.now in
    let cursor = c.args.cursor in
    let room = c.args.room in
    let items = c.deref-number-items.result.now in
    let ns = filter (is_above cursor) (take c.loop-number.number-index items) in
    let numbers : items ≡ numbers_where is_alive rows = c.deref-number-items.ensures.value ∙ c.self.invariant.listed ∙ ap (numbers_where is_alive) c.self.view_is in
    let whole : ns ≡ filter (is_above cursor) (numbers_where is_alive rows) = ap (filter (is_above cursor)) (take_all c.loop-number.number-index items (omega (arith, c.loop-number-test.false)) ∙ numbers) in
    let count : length ns ≡ length c.loop-number.tasks.items = omega (arith, ap length c.loop-number.invariant.tasks, length-map ns (step_in rows)) in
    let first : ns ≡ take room (filter (is_above cursor) (numbers_where is_alive rows)) = all_passing (is_above cursor) items ns c.loop-number.number-index room refl (omega (arith, c.loop-number-test.false)) (omega (arith, count, c.loop-number.invariant.few)) ∙ ap (λ xs. take room (filter (is_above cursor) xs)) numbers in (
      due_of_numbers rows cursor room c.loop-number.tasks.items ns c.loop-number.invariant.tasks first,
      elim c.if-len-room-2.branch [
        | then-len-room-2 w ↦ w.next-is ∙ cursor_short rows cursor room ns whole (omega (arith, count, c.len-2.ensures, w.if-len-room-2.true, c.loop-number.tasks.ok.0))
        | else-len-room-2 w ↦ w.next-is ∙ cursor_full rows cursor room c.loop-number.last ns c.loop-number.invariant.last first (omega (arith, count, c.len-2.ensures, w.if-len-room-2.false, c.loop-number.invariant.few, c.loop-number.tasks.ok.0))
      ],
    )
