-- What the wallet's definitions say of incoming payments, from payments that stand as a history has them.
use Rattle.std.proofs.Common.{◌≡◌, refl, ap, subst, ◌∙◌, ℕ, suc, ◌+◌, ◌-◌, cond, List, [], ◌∷◌, map, take, arith, add-zero}
use Rattle.std.specs.Prelude.{◌&&◌, ◌||◌, not, nat_lt, nat_le, slice_get, Some, None}
use Rattle.std.specs.List.{enumerate_from, filter_map, list_any, cons_option}
use Rattle.op_model.specs.History.{nth, numbered}
use Rattle.op_model.specs.Incoming as defined
use Rattle.op_model.specs.Payments.{incomings}
use Rattle.op_model.specs.Work.{expiring}
use Rattle.op_model.specs.declared.act.Entry.{Entry}
use Rattle.op_model.specs.declared.request.Task.TheVariants.{Expire}
use Rattle.op_incoming.specs.Models.{StandsAs, IsAsDefined, PaymentsAreDefined}
use Rattle.op_model.specs.Numbers.{number_if, numbers_where}
use Rattle.op_incoming.specs.Rows.{is_unfinished, is_due_at}
use Rattle.op_incoming.specs.declared.incoming.Incoming.{Incoming}

unfinished_same : (history : List Entry) (i : ℕ) (x : Incoming) → StandsAs history i x → is_unfinished x ≡ defined.is_unfinished history i x.row
unfinished_same history i x stands =
    ap (λ may. may && nat_lt x.received (defined.bound_of x.row)) stands.closed
    ∙ ap (λ value. not (defined.is_closed history i) && nat_lt value (defined.bound_of x.row)) stands.received

same_of : (history : List Entry) (i t : ℕ) (x : Incoming) → StandsAs history i x → IsAsDefined history i t x
same_of history i t x stands =
    let unfinished = unfinished_same history i x stands in
    record {
      open_then = ap (λ may. may && nat_lt t x.row.expiry) unfinished;
      due_then = ap (λ may. may && nat_le x.row.expiry t) unfinished;
      completed = ap (λ by_act. by_act || nat_le (defined.bound_of x.row) x.received) stands.completed
          ∙ ap (λ value. list_any (λ e. defined.is_completing i e.act) history || nat_le (defined.bound_of x.row) value) stands.received;
      room = ap (λ value. defined.bound_of x.row - value) stands.received;
    }

-- the numbers of those that are due, from a number on
due_from : (history : List Entry) (t b : ℕ) (rows : List Incoming) → ((i : ℕ) (x : Incoming) → slice_get rows i ≡ Some x → StandsAs history (b + i) x) → filter_map (number_if (is_due_at t)) (enumerate_from b rows) ≡ filter_map (λ (i, row). cond (defined.is_due history i row t) (Some i) None) (enumerate_from b (map (λ x. x.row) rows))
due_from history t b [] stand = refl
due_from history t b (x ∷ rows) stand =
    let here = same_of history b t x (subst (λ i. StandsAs history i x) (add-zero b) (stand 0 x refl)) in
    let next = λ (i : ℕ) (y : Incoming) (got : slice_get rows i ≡ Some y). let number : b + suc i ≡ (b + 1) + i = omega arith in subst (λ k. StandsAs history k y) number (stand (suc i) y got) in
    ap (λ due. cons_option (cond due (Some b) None) (filter_map (number_if (is_due_at t)) (enumerate_from (b + 1) rows))) here.due_then
    ∙ ap (λ numbers. cons_option (cond (defined.is_due history b x.row t) (Some b) None) numbers) (due_from history t (b + 1) rows next)

due_numbers : (history : List Entry) (t : ℕ) (rows : List Incoming) → map (λ x. x.row) rows ≡ incomings history → ((i : ℕ) (x : Incoming) → nth rows i ≡ Some x → StandsAs history i x) → numbers_where (is_due_at t) rows ≡ expiring history t
due_numbers history t rows same stand =
    due_from history t 1 rows (λ i x got. let number : suc i ≡ 1 + i = omega arith in subst (λ k. StandsAs history k x) number (stand (suc i) x got))
    ∙ ap (λ made. filter_map (λ (i, row). cond (defined.is_due history i row t) (Some i) None) (numbered made)) same

pub payments_are_defined : PaymentsAreDefined
payments_are_defined = λ history rows same stand. record {
  each = λ i t x found. same_of history i t x (stand i x found);
  due_then = λ t room. ap (λ numbers. map Expire (take room numbers)) (due_numbers history t rows same stand);
}
