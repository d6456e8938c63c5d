-- Incoming payments that are made, completed and expired.
use Rattle.std.proofs.Common.{◌≡◌, ℕ, zero, suc, ◌+◌, Bool, true, false, cond, ◌&&◌, ◌||◌, List, [], ◌∷◌, ◌++◌, length, refl, ◌∙◌, sym, ap, subst, arith, Some, None, Option, not, sum_by}
use Rattle.std.specs.Prelude.{◌==◌, is_some}
use Rattle.std.specs.List.{list_any}
use Rattle.std.specs.Option.{option_map, option_to_list}
use Rattle.std.proofs.lemmas.Bool.Decides.{nat_tests}
use Rattle.std.proofs.lemmas.List.{map-append}
use Rattle.std.proofs.lemmas.List.Sums.{sum_by-cons}
use Rattle.op_incoming.specs.Models.{StandsAs as IsIncoming}
use Rattle.op_incoming.specs.Rows.{closed_as, fresh, made, is_unclosed, was_completed}
use Rattle.op_incoming.specs.declared.incoming.Closing.{Closing}
use Rattle.op_incoming.specs.declared.incoming.Closing.TheVariants as closings
use Rattle.op_incoming.specs.declared.incoming.Incoming.{Incoming}
use Rattle.op_incoming.proofs.Places.{nth-with_item}
use Rattle.op_laws.specs.Placed.{IsPlacedIn}
use Rattle.op_laws.proofs.Lists.{any_next, nth_counted, some_counted}
use Rattle.op_legal.proofs.Chains.{none_is_not, some_is}
use Rattle.op_legal.proofs.Unnamed.{incoming_unnamed}
use Rattle.op_model.specs.History.{nth, with_item}
use Rattle.op_model.specs.Incoming.{is_closing, is_completing, is_closed}
use Rattle.op_model.specs.Legal.{IsLegal}
use Rattle.op_model.specs.Payments.{incomings, incoming_made, incoming_row, outgoings, received}
use Rattle.op_model.specs.declared.act.Act.{Act}
use Rattle.op_model.specs.declared.act.Act.TheVariants as acts
use Rattle.op_model.specs.declared.act.Entry.{Entry}
use Rattle.op_model.specs.declared.row.IncomingRow.{IncomingRow}
use Rattle.op_model.specs.declared.row.OutgoingRow.{OutgoingRow}
use Rattle.op_model.proofs.Next.{incomings-next}
use Rattle.op_model.proofs.Numbered.{any_narrow}
use Rattle.op_model.proofs.SumsNext.{received_stays}
use Rattle.op_paying.specs.Money.{AreIncomings}
use Rattle.op_paying.proofs.Opening.{some_next, last_here}
use Rattle.op_paying.proofs.Received.{map_from}
use Rattle.op_paying.proofs.StepReplies.{row_at, some_map}

-- ---- an incoming payment that is closed

number_is : (k n : ℕ) → (k == n) ≡ true → k ≡ n
number_is k n h = grind (arith, nat_tests)

swapped : (b : Bool) (k n : ℕ) → (k == n) ≡ b → (n == k) ≡ b
swapped true k n h = grind (arith, nat_tests)
swapped false k n h = grind (arith, nat_tests)

-- the entry closes payment n alone, as the closing says
pub record Closes (e : Entry) (n : ℕ) (closing : Closing) : Type 0 where
  pub closes : (i : ℕ) → is_closing i e.act ≡ (n == i)
  pub completes : (i : ℕ) → is_completing i e.act ≡ ((n == i) && was_completed closing)
  pub closed : is_unclosed closing ≡ false

or_true : (a b : Bool) → b ≡ true → (a || b) ≡ true
or_true true b h = refl
or_true false b h = h

with_none : (a b : Bool) → a ≡ false → (a || b) ≡ b
with_none true b h = absurd (let e : true ≡ false = h in cc)
with_none false b h = refl

or_false : (a b : Bool) → b ≡ false → (a || b) ≡ a
or_false true b h = refl
or_false false b h = h

of_unclosed : (closing : Closing) → is_unclosed closing ≡ true → was_completed closing ≡ false
of_unclosed closings.Unclosed h = refl
of_unclosed closings.Completed h = absurd (let e : false ≡ true = h in cc)
of_unclosed closings.Expired h = refl

both_none : (n k : ℕ) (b : Bool) → (n == k) ≡ false → ((n == k) && b) ≡ false
both_none n k b h = ap (λ t. t && b) h

closed_where : (b : Bool) (history : List Entry) (e : Entry) (rows : List Incoming) (n k : ℕ) (closing : Closing) (found : Option Incoming) (y : Incoming) → AreIncomings history rows → Closes e n closing → ((i : ℕ) → received (history ++ e ∷ []) i ≡ received history i)
    → ((x : Incoming) → nth rows n ≡ Some x → is_unclosed x.closing ≡ true) → (k == n) ≡ b → nth rows k ≡ found → cond b (option_map (closed_as closing) found) found ≡ Some y → IsIncoming (history ++ e ∷ []) k y
closed_where true history e rows n k closing None y are is same was here at h = none_is_not y h
closed_where true history e rows n k closing (Some x) y are is same was here at h =
    let old = are.each k x at in
    let new : closed_as closing x ≡ y = some_is (closed_as closing x) y h in
    let now : (n == k) ≡ true = swapped true k n here in
    let not_yet : is_unclosed x.closing ≡ true = was x (ap (nth rows) (sym (number_is k n here)) ∙ at) in
    let closes : is_closing k e.act ≡ true = is.closes k ∙ now in
    let completes : is_completing k e.act ≡ was_completed closing = is.completes k ∙ ap (λ t. t && was_completed closing) now in
    subst (IsIncoming (history ++ e ∷ []) k) new
    (record {
      received = old.received ∙ sym (same k);
      closed = is.closed ∙ sym (ap not (any_next (λ (f : Entry). is_closing k f.act) history e ∙ or_true (is_closed history k) (is_closing k e.act) closes));
      completed =
          sym (any_next (λ (f : Entry). is_completing k f.act) history e
          ∙ with_none (list_any (λ f. is_completing k f.act) history) (is_completing k e.act) (sym old.completed ∙ of_unclosed x.closing not_yet) ∙ completes);
    })
closed_where false history e rows n k closing None y are is same was here at h = none_is_not y h
closed_where false history e rows n k closing (Some x) y are is same was here at h =
    let old = are.each k x at in
    let new : x ≡ y = some_is x y h in
    let apart : (n == k) ≡ false = swapped false k n here in
    subst (IsIncoming (history ++ e ∷ []) k) new
    (record {
      received = old.received ∙ sym (same k);
      closed = old.closed ∙ sym (ap not (any_next (λ (f : Entry). is_closing k f.act) history e ∙ or_false (is_closed history k) (is_closing k e.act) (is.closes k ∙ apart)));
      completed =
          old.completed
          ∙ sym (any_next (λ (f : Entry). is_completing k f.act) history e ∙ or_false (list_any (λ f. is_completing k f.act) history) (is_completing k e.act) (is.completes k ∙ both_none n k (was_completed closing) apart));
    })

pub closed_incomings : (history : List Entry) (e : Entry) (rows : List Incoming) (n : ℕ) (closing : Closing) → AreIncomings history rows → Closes e n closing → incomings (history ++ e ∷ []) ≡ incomings history → outgoings (history ++ e ∷ []) ≡ outgoings history
    → ((x : Incoming) → nth rows n ≡ Some x → is_unclosed x.closing ≡ true) → AreIncomings (history ++ e ∷ []) (with_item (closed_as closing) rows n)
closed_incomings history e rows n closing are is none same was = record {
  rows_are = map_from (λ (x : Incoming). x.row) (closed_as closing) n 1 rows (λ x. refl) ∙ are.rows_are ∙ sym none;
  each =
      λ k y at. closed_where (k == n) history e rows n k closing (nth rows k) y are is (λ i. received_stays history (history ++ e ∷ []) i same) was refl refl
      (sym (nth-with_item (closed_as closing) rows n k) ∙ at);
}

-- ---- an incoming payment that is made

sum_zero : {X : Type 0} (f : X → ℕ) (xs : List X) → ((k : ℕ) (x : X) → nth xs k ≡ Some x → f x ≡ 0) → sum_by f xs ≡ 0
sum_zero f [] zero_at = refl
sum_zero f (x ∷ xs) zero_at =
    let here : f x ≡ 0 = zero_at 1 x refl in
    let rest : sum_by f xs ≡ 0 = sum_zero f xs (λ k y h. later k y h) in
    omega (arith, sum_by-cons f x xs, here, rest)
  where
    later : (k : ℕ) (y : _) → nth xs k ≡ Some y → f y ≡ 0
    later zero y h = none_is_not y h
    later (suc k) y h = zero_at (suc (suc k)) y h

-- no payment delivers to an incoming payment that is not there
none_received : (history : List Entry) (i : ℕ) → IsPlacedIn history → is_some (incoming_row history i) ≡ false → received history i ≡ 0
none_received history i placed none =
    sum_zero (λ row. cond (row.terms.incoming == i) row.delivered 0) (outgoings history)
    (λ p row at. nothing (row.terms.incoming == i) row refl (placed.payments p row at).incoming)
  where
    nothing : (b : Bool) (row : OutgoingRow) → (row.terms.incoming == i) ≡ b → is_some (incoming_row history row.terms.incoming) ≡ true → cond b row.delivered 0 ≡ 0
    nothing true row same there =
        absurd (let e : true ≡ false = sym there ∙ ap (λ k. is_some (incoming_row history k)) (number_is row.terms.incoming i same) ∙ none in cc)
    nothing false row same there = refl

kept_incoming : (history : List Entry) (e : Entry) (i : ℕ) (x : Incoming) → is_closing i e.act ≡ false → is_completing i e.act ≡ false → received (history ++ e ∷ []) i ≡ received history i → IsIncoming history i x → IsIncoming (history ++ e ∷ []) i x
kept_incoming history e i x closes completes same old = record {
  received = old.received ∙ sym same;
  closed = old.closed ∙ sym (ap not (any_next (λ (f : Entry). is_closing i f.act) history e ∙ or_false (is_closed history i) (is_closing i e.act) closes));
  completed = old.completed ∙ sym (any_next (λ (f : Entry). is_completing i f.act) history e ∙ or_false (list_any (λ f. is_completing i f.act) history) (is_completing i e.act) completes);
}

narrow : (i : ℕ) (act : Act) → is_closing i act ≡ false → is_completing i act ≡ false
narrow i (acts.IncomingCompleted grant incoming) h = h
narrow i _ h = refl

fresh_incoming : (history : List Entry) (e : Entry) (i : ℕ) (row : IncomingRow) → is_closing i e.act ≡ false → received (history ++ e ∷ []) i ≡ received history i → received history i ≡ 0 → is_closed history i ≡ false → IsIncoming (history ++ e ∷ []) i (fresh row)
fresh_incoming history e i row closes same none open_still = record {
  received = sym (same ∙ none);
  closed = sym (ap not (any_next (λ (f : Entry). is_closing i f.act) history e ∙ or_false (is_closed history i) (is_closing i e.act) closes ∙ open_still));
  completed =
      sym (any_next (λ (f : Entry). is_completing i f.act) history e
      ∙ or_false (list_any (λ f. is_completing i f.act) history) (is_completing i e.act) (narrow i e.act closes)
      ∙ any_narrow (λ (f : Entry). is_completing i f.act) (λ f. is_closing i f.act) history (λ f h. narrow i f.act h) open_still);
}

made_where : (b : Bool) (history : List Entry) (e : Entry) (rows : List Incoming) (row : IncomingRow) (k : ℕ) (y : Incoming) → AreIncomings history rows → IsPlacedIn history → IsLegal history → ((i : ℕ) → is_closing i e.act ≡ false) → ((i : ℕ) → received (history ++ e ∷ []) i ≡ received history i)
    → is_some (nth rows k) ≡ b → is_some (incoming_row history k) ≡ b → nth (rows ++ fresh row ∷ []) k ≡ Some y → IsIncoming (history ++ e ∷ []) k y
made_where true history e rows row k y are placed legal closes same there row_there at =
    kept_incoming history e k y (closes k) (narrow k e.act (closes k)) (same k)
    (are.each k y (sym (nth_counted rows (fresh row) k (some_counted rows k there)) ∙ at))
made_where false history e rows row k y are placed legal closes same there row_there at =
    let last : (1 + length rows) ≡ k = number_is (1 + length rows) k (sym (ap (λ b. b || ((1 + length rows) == k)) there) ∙ some_next rows (fresh row) (1 + length rows) k refl ∙ ap is_some at) in
    let new : fresh row ≡ y = some_is (fresh row) y (sym (last_here rows (fresh row) k (sym last)) ∙ at) in
    subst (IsIncoming (history ++ e ∷ []) k) new
    (fresh_incoming history e k row (closes k) (same k) (none_received history k placed row_there) (incoming_unnamed history k legal row_there))

pub made_incomings : (history : List Entry) (e : Entry) (rows : List Incoming) (row : IncomingRow) → AreIncomings history rows → IsPlacedIn history → IsLegal history → incoming_made e.at e.act ≡ Some row → ((i : ℕ) → is_closing i e.act ≡ false) → outgoings (history ++ e ∷ []) ≡ outgoings history
    → AreIncomings (history ++ e ∷ []) (made rows row)
made_incomings history e rows row are placed legal is closes same = record {
  rows_are =
      map-append (λ (x : Incoming). x.row) rows (fresh row ∷ []) ∙ ap (λ (l : List IncomingRow). l ++ row ∷ []) are.rows_are
      ∙ sym (incomings-next history e ∙ ap (λ (o : Option IncomingRow). incomings history ++ option_to_list o) is);
  each =
      λ k y at. made_where (is_some (nth rows k)) history e rows row k y are placed legal closes (λ i. received_stays history (history ++ e ∷ []) i same) refl
      (ap is_some (row_at history rows k are) ∙ some_map (λ (x : Incoming). x.row) (nth rows k)) at;
}
