-- What a payment has received is the sum of what calls gave it.
use Rattle.std.proofs.Common.{◌≡◌, refl, sym, ap, ◌∙◌, ℕ, ◌+◌, Bool, true, false, cond, List, [], ◌∷◌, arith, IsTrue, sum_by, zero, suc}
use Rattle.std.specs.Prelude.{◌==◌, Some, None, is_some}
use Rattle.std.specs.Option.{option_map, option_map_or}
use Rattle.std.specs.declared.option.Option.{Option}
use Rattle.std.proofs.lemmas.List.Sums.{sum_by-cons}
use Rattle.std.proofs.lemmas.Bool.Decides.{nat_tests}
use Rattle.op_model.specs.History.{nth, with_item}
use Rattle.op_incoming.specs.Rows.{received_by, fresh, closed_as, with_received}
use Rattle.op_incoming.specs.Runs.{Call, Made, Completed, Expired, Received, CanCall, AreCalls, after_call, after_calls, given, ReceivedIsASum}
use Rattle.op_incoming.specs.declared.incoming.Closing.TheVariants as closings
use Rattle.op_incoming.specs.declared.incoming.Incoming.{Incoming}
use Rattle.op_incoming.proofs.Places.{nth-with_item, number-next}

-- a change that adds to what one payment received
grows : (change : Incoming → Incoming) (more : ℕ) (is : Bool) (found : Option Incoming) → ((i : Incoming) → (change i).received ≡ i.received + more) → (is ≡ true → found ≡ None → more ≡ 0) → option_map_or (λ i. i.received) (cond is (option_map change found) found) 0 ≡ option_map_or (λ i. i.received) found 0 + cond is more 0
grows change more true None adds there = let none : more ≡ 0 = there refl refl in omega arith
grows change more true (Some i) adds there = adds i
grows change more false None adds there = omega arith
grows change more false (Some i) adds there = omega arith

grown : (change : Incoming → Incoming) (more : ℕ) (rows : List Incoming) (k n : ℕ) → ((i : Incoming) → (change i).received ≡ i.received + more) → ((n == k) ≡ true → nth rows n ≡ None → more ≡ 0) → received_by (with_item change rows k) n ≡ received_by rows n + cond (n == k) more 0
grown change more rows k n adds there =
    ap (λ found. option_map_or (λ i. i.received) found 0) (nth-with_item change rows k n) ∙ grows change more (n == k) (nth rows n) adds there

no_more : (is : Bool) (a : ℕ) → a + cond is 0 0 ≡ a + 0
no_more true a = refl
no_more false a = refl

there_is_some : (found : Option Incoming) → IsTrue (is_some found) → found ≡ None → ⊥
there_is_some None there none = let no : false ≡ true = there in cc
there_is_some (Some i) there none = cc

same_number : (n k : ℕ) → (n == k) ≡ true → n ≡ k
same_number n k is = grind (arith, nat_tests)

call_gives : (rows : List Incoming) (call : Call) (n : ℕ) → CanCall rows call → received_by (after_call rows call) n ≡ received_by rows n + given n call
call_gives rows (Made row) n can = let same = number-next (λ i. i.received) rows (fresh row) n refl in omega arith
call_gives rows (Completed k) n can =
    grown (closed_as closings.Completed) 0 rows k n (λ i. omega arith) (λ is none. refl) ∙ no_more (n == k) (received_by rows n)
call_gives rows (Expired k) n can =
    grown (closed_as closings.Expired) 0 rows k n (λ i. omega arith) (λ is none. refl) ∙ no_more (n == k) (received_by rows n)
call_gives rows (Received k value) n can =
    grown (with_received value) value rows k n (λ i. refl)
    (λ is none. absurd (there_is_some (nth rows k) can (ap (nth rows) (sym (same_number n k is)) ∙ none)))

calls_give : (calls : List Call) (rows : List Incoming) (n : ℕ) → AreCalls rows calls → received_by (after_calls rows calls) n ≡ received_by rows n + sum_by (given n) calls
calls_give [] rows n are = omega arith
calls_give (call ∷ calls) rows n are =
    let first : received_by (after_call rows call) n ≡ received_by rows n + given n call = call_gives rows call n are.0 in
    let rest : received_by (after_calls (after_call rows call) calls) n ≡ received_by (after_call rows call) n + sum_by (given n) calls = calls_give calls (after_call rows call) n are.1 in
    let more = sum_by-cons (given n) call calls in
    omega arith

none_received : (n : ℕ) → received_by [] n ≡ 0
none_received zero = refl
none_received (suc m) = refl

pub received_is_a_sum : ReceivedIsASum
received_is_a_sum = λ calls are n. let sums = calls_give calls [] n are in let start = none_received n in omega arith
