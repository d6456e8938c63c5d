-- What is kept of payments, behind each change.
use Rattle.std.proofs.Common.{◌≡◌, sym, ap, ◌∙◌, ℕ, ◌+◌, ◌-◌, true, false, cond, List, [], ◌∷◌, ◌++◌, length, get_or, IsTrue}
use Rattle.std.specs.Prelude.{◌==◌, not, filter, slice_set, Some, None, is_some, IfSome}
use Rattle.std.specs.Option.{option_to_list}
use Rattle.std.specs.declared.option.Option.{Option}
use Rattle.std.proofs.lemmas.List.Elements.{All-set, All-append, All-cons, All-nil}
use Rattle.op_model.specs.Numbers.{number_if, numbers_where}
use Rattle.op_model.proofs.Numbers.{numbers_where-stays, numbers_where-leaves}
use Rattle.op_incoming.proofs.Places.{nth_of_place}
use Rattle.op_model.specs.History.{nth}
use Rattle.op_model.specs.declared.row.OutgoingRow.{OutgoingRow}
use Rattle.op_model.proofs.Items.{set_at_is_with_item}
use Rattle.op_model.proofs.Next.{numbered_collected-next}
use Rattle.op_outgoing.specs.Progress.{with_progress, is_alive, CanBecome}
use Rattle.op_outgoing.specs.Sound.{IsSoundRow}
use Rattle.op_outgoing.specs.Work.{AreKept}
use Rattle.op_outgoing.specs.declared.progress.Progress.{Progress}

can_at : (found : Option OutgoingRow) (x : OutgoingRow) (p : Progress) → found ≡ Some x → IfSome found (λ row. CanBecome p row) → CanBecome p x
can_at found x p is can = rw is at can

can_of : (rows : List OutgoingRow) (n : ℕ) (x : OutgoingRow) (p : Progress) → IsTrue (is_some (nth rows n)) → x ≡ get_or rows (n - 1) x → IfSome (nth rows n) (λ row. CanBecome p row) → CanBecome p x
can_of rows n x p there at can = can_at (nth rows n) x p (nth_of_place rows n x there at) can

-- a payment that ends
pub kept_ended : (rows : List OutgoingRow) (running left : List ℕ) (n : ℕ) (p : Progress) (x : OutgoingRow) → AreKept rows running → IsTrue (is_some (nth rows n)) → x ≡ get_or rows (n - 1) x → IfSome (nth rows n) (λ row. CanBecome p row) → is_alive (with_progress p x) ≡ false → left ≡ filter (λ k. not (k == n)) running → AreKept (slice_set rows (n - 1) (with_progress p x)) left
kept_ended rows running left n p x kept there at can ended is =
    let change = λ (row : OutgoingRow). with_progress p row in
    record {
      sound = All-set IsSoundRow rows (n - 1) (change x) (can_of rows n x p there at can).sound kept.sound;
      listed = is ∙ ap (filter (λ k. not (k == n))) kept.listed
          ∙ sym (numbers_where-leaves is_alive change rows n x (nth_of_place rows n x there at) ended)
          ∙ ap (numbers_where is_alive) (sym (set_at_is_with_item change n rows x there at));
    }

-- a payment that goes on
pub kept_going : (rows : List OutgoingRow) (running : List ℕ) (n : ℕ) (p : Progress) (x : OutgoingRow) → AreKept rows running → IsTrue (is_some (nth rows n)) → x ≡ get_or rows (n - 1) x → IfSome (nth rows n) (λ row. CanBecome p row) → is_alive (with_progress p x) ≡ true → AreKept (slice_set rows (n - 1) (with_progress p x)) running
kept_going rows running n p x kept there at can alive =
    let change = λ (row : OutgoingRow). with_progress p row in
    let may = can_of rows n x p there at can in
    record {
      sound = All-set IsSoundRow rows (n - 1) (change x) may.sound kept.sound;
      listed = kept.listed
          ∙ sym (numbers_where-stays is_alive change rows n x (nth_of_place rows n x there at) (alive ∙ sym (may.alive alive)))
          ∙ ap (numbers_where is_alive) (sym (set_at_is_with_item change n rows x there at));
    }

-- one more payment
pub kept_pushed : (rows : List OutgoingRow) (running : List ℕ) (row : OutgoingRow) (number : ℕ) → AreKept rows running → IsSoundRow row → is_alive row ≡ true → number ≡ 1 + length rows → AreKept (rows ++ row ∷ []) (running ++ number ∷ [])
kept_pushed rows running row number kept sound alive is = record {
  sound = All-append IsSoundRow rows (row ∷ []) kept.sound (All-cons IsSoundRow row [] sound (All-nil IsSoundRow));
  listed = ap (λ xs. xs ++ number ∷ []) kept.listed ∙ ap (λ k. numbers_where is_alive rows ++ k ∷ []) is
      ∙ sym (numbered_collected-next (number_if is_alive) rows row
      ∙ ap (λ b. numbers_where is_alive rows ++ option_to_list (cond b (Some (1 + length rows)) None)) alive);
}
