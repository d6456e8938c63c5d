-- What was spent stays where an act neither makes a payment nor lets one fail.
use Rattle.std.proofs.Common.{◌≡◌, ℕ, ◌+◌, Bool, true, false, cond, ◌&&◌, ◌||◌, List, [], ◌∷◌, ◌++◌, length, map, refl, ◌∙◌, sym, ap, arith, Some, None, Option, append-nil}
use Rattle.std.proofs.lemmas.List.Sums.{sum_by-cons}
use Rattle.std.specs.Prelude.{◌==◌, is_some, sum_by}
use Rattle.std.specs.List.{AllByRecursion, enumerate_from, filter_map, list_any}
use Rattle.std.specs.Option.{option_map_or, option_to_list}
use Rattle.op_model.specs.Grants.{GrantMade, grants_made, grant_asked, items_of, cap_of, lies_within, spent, weight, is_failed}
use Rattle.op_model.specs.History.{nth, last}
use Rattle.op_model.specs.Legal.{IsLegal, IsNext}
use Rattle.op_model.specs.Payments.{PaymentMade, payments_made, payment_added, payment_so_far, outgoings, outgoing_row, is_step, is_last_piece, is_funding, failure, fail_reason}
use Rattle.op_model.specs.declared.act.Act.{Act}
use Rattle.op_model.specs.declared.act.Act.TheVariants as acts
use Rattle.op_model.specs.declared.act.Entry.{Entry}
use Rattle.op_model.specs.declared.act.FailReason.{FailReason}
use Rattle.op_model.specs.declared.grant.Cap.{Cap}
use Rattle.op_model.specs.declared.grant.Item.{Item}
use Rattle.op_model.specs.declared.row.OutgoingRow.{OutgoingRow}
use Rattle.op_model.specs.declared.row.PaymentState.TheVariants as states
use Rattle.op_model.specs.declared.row.Terms.{Terms}
use Rattle.op_model.proofs.Next.{grants_made-next, collected-next}
use Rattle.op_model.proofs.Numbered.{nth-front, same_number, sum_by-rows}
use Rattle.op_model.proofs.OutgoingsNext.{payment_at, payments_made_stay}
use Rattle.op_model.proofs.Payments.{payment_stays}
use Rattle.op_legal.proofs.Chains.{some_is}
use Rattle.op_legal.proofs.StepActs.{funded_acts, sent_acts, completed_acts, failed_acts}
use Rattle.op_granting.specs.Kinds.{is_on_spending}
use Rattle.op_granting.specs.Models.{behind}
use Rattle.op_granting.proofs.Counting.{counts}
use Rattle.op_granting.proofs.Granted.{IsGranted, all_granted, items_made}

-- ---- a payment that takes a step has not failed

or_none : (b : Bool) → (b || false) ≡ true → b ≡ true
or_none true h = refl
or_none false h = h

some_where : (b : Bool) (reason : FailReason) → is_some (cond b (Some reason) None) ≡ true → b ≡ true
some_where true reason h = refl
some_where false reason h = h

alive_at : (history : List Entry) (n p : ℕ) (own row : OutgoingRow) → outgoing_row history n ≡ Some own → is_failed own.state ≡ false → (n == p) ≡ true → outgoing_row history p ≡ Some row → is_failed row.state ≡ false
alive_at history n p own row there running same found =
    ap (λ (r : OutgoingRow). is_failed r.state) (some_is row own (sym found ∙ ap (outgoing_row history) (sym (same_number n p same)) ∙ there)) ∙ running

step_not_failed : (history : List Entry) (t : ℕ) (act : Act) (p : ℕ) (row : OutgoingRow) → IsNext history (record { at = t; act = act }) → is_step p act ≡ true → outgoing_row history p ≡ Some row → is_failed row.state ≡ false
step_not_failed history t (acts.OutgoingFunded n k) p row next h found = let is = funded_acts history t n k next in alive_at history n p is.row row is.there is.running (or_none (n == p) h) found
step_not_failed history t (acts.OutgoingSent n k) p row next h found = let is = sent_acts history t n k next in alive_at history n p is.row row is.there is.running (or_none (n == p) h) found
step_not_failed history t (acts.OutgoingCompleted n k) p row next h found = let is = completed_acts history t n k next in alive_at history n p is.row row is.there is.running (or_none (n == p) h) found
step_not_failed history t (acts.OutgoingFailed n k reason) p row next h found = let is = failed_acts history t n k reason next in alive_at history n p is.row row is.there is.running (some_where (n == p) reason h) found
step_not_failed history t _ p row next h found = absurd (let e : false ≡ true = h in cc)

-- ---- what a payment counts that goes on

-- what a payment that has not failed counts
abbrev promised : Option Cap → Terms → ℕ
promised None terms = 0
promised (Some cap) terms = cond cap.debit terms.debit terms.receive

alive_weight : (cap : Option Cap) (row : OutgoingRow) → is_failed row.state ≡ false → weight cap row ≡ promised cap row.terms
alive_weight None row h = refl
alive_weight (Some cap) row h =
    ap (λ b. cond cap.debit (cond b (row.sent + row.fee) row.terms.debit) (cond b row.delivered row.terms.receive)) h

failed_by : (x a b : Bool) → is_failed (cond x states.Failed (cond a states.Completed (cond b states.Sending states.Funding))) ≡ x
failed_by true a b = refl
failed_by false true b = refl
failed_by false false true = refl
failed_by false false false = refl

failed_is : (history : List Entry) (p : ℕ) (m : PaymentMade) → is_failed (payment_so_far history (p, m)).state ≡ is_some (fail_reason history p)
failed_is history p m = failed_by (is_some (fail_reason history p)) (list_any (λ (e : Entry). is_last_piece p e.act) history) (list_any (λ (e : Entry). is_funding p e.act) history)

reason_next : (history : List Entry) (t : ℕ) (act : Act) (p : ℕ) → failure p act ≡ None → fail_reason (behind history t act) p ≡ fail_reason history p
reason_next history t act p none =
    let reasons : List FailReason = filter_map (λ (f : Entry). failure p f.act) history in
    ap (λ (l : List FailReason). last l) (collected-next (λ (f : Entry). failure p f.act) history (record { at = t; act = act }) ∙ ap (λ (o : Option FailReason). reasons ++ option_to_list o) none ∙ append-nil reasons)

-- a payment that has not failed, and does not fail, counts what it counted
counts_same : (history : List Entry) (t : ℕ) (act : Act) (items : List Item) (g j p : ℕ) (m : PaymentMade) (b : Bool) → is_step p act ≡ b → failure p act ≡ None → (b ≡ true → is_failed (payment_so_far history (p, m)).state ≡ false)
    → counts items g j (payment_so_far (behind history t act) (p, m)) ≡ counts items g j (payment_so_far history (p, m))
counts_same history t act items g j p m false is none alive = ap (counts items g j) (payment_stays history (record { at = t; act = act }) p m is)
counts_same history t act items g j p m true is none alive =
    let old = payment_so_far history (p, m) in
    let new = payment_so_far (behind history t act) (p, m) in
    let later : is_failed new.state ≡ false = failed_is (behind history t act) p m ∙ ap is_some (reason_next history t act p none) ∙ sym (failed_is history p m) ∙ alive refl in
    ap (λ n. cond ((m.grant == g) && lies_within items m.made j) n 0) (alive_weight (cap_of items) new later ∙ sym (alive_weight (cap_of items) old (alive refl)))

-- ---- sums

added_none : (history : List Entry) (t : ℕ) (act : Act) → is_on_spending act ≡ false → payment_added history t act ≡ []
added_none history t (acts.OutgoingMade grant quote metadata) h = absurd (let e : true ≡ false = h in cc)
added_none history t (acts.OutgoingDirect grant address incoming debit source fee receive num den metadata) h = absurd (let e : true ≡ false = h in cc)
added_none history t _ h = refl

fails_none : (act : Act) (p : ℕ) → is_on_spending act ≡ false → failure p act ≡ None
fails_none (acts.OutgoingFailed payment step reason) p h = absurd (let e : true ≡ false = h in cc)
fails_none _ p h = refl

sums_stay : (history : List Entry) (t : ℕ) (act : Act) (g j : ℕ) (items : List Item) → IsNext history (record { at = t; act = act }) → is_on_spending act ≡ false
    → sum_by (counts items g j) (outgoings (behind history t act)) ≡ sum_by (counts items g j) (outgoings history)
sums_stay history t act g j items next quiet =
    let e : Entry = record { at = t; act = act } in
    let w = counts items g j in
    ap (λ (xs : List PaymentMade). sum_by w (map (payment_so_far (history ++ e ∷ [])) (enumerate_from 1 xs))) (payments_made_stay history e (added_none history t act quiet))
    ∙ sum_by-rows w (payment_so_far (history ++ e ∷ [])) (payment_so_far history) (payments_made history)
    (λ p m h. counts_same history t act items g j p m (is_step p act) refl (fails_none act p quiet) (λ is. step_not_failed history t act p (payment_so_far history (p, m)) next is (payment_at history p m h)))

uncounted : (made : List GrantMade) (n g : ℕ) (c : Bool) (k : ℕ) (b : Bool) → (n == g) ≡ b → nth made g ≡ None → is_some (nth made n) ≡ true → cond (b && c) k 0 ≡ 0
uncounted made n g c k true is none there =
    let same : n ≡ g = same_number n g is in
    absurd (let e : false ≡ true = sym (ap is_some none) ∙ ap (λ (m : ℕ). is_some (nth made m)) (sym same) ∙ there in cc)
uncounted made n g c k false is none there = refl

zero_from : (history : List Entry) (g j : ℕ) (items : List Item) (b : ℕ) (xs : List PaymentMade) → nth (grants_made history) g ≡ None → AllByRecursion (IsGranted (grants_made history)) xs → sum_by (counts items g j) (map (payment_so_far history) (enumerate_from b xs)) ≡ 0
zero_from history g j items b [] none all = refl
zero_from history g j items b (m ∷ xs) none all =
    let row = payment_so_far history (b, m) in
    let first : counts items g j row ≡ 0 = uncounted (grants_made history) m.grant g (lies_within items m.made j) (weight (cap_of items) row) (m.grant == g) refl none all.0.there in
    let rest = zero_from history g j items (b + 1) xs none all.1 in
    omega (arith, first, rest, sum_by-cons (counts items g j) row (map (payment_so_far history) (enumerate_from (b + 1) xs)))

-- the items of a grant that is there stay, and under another nothing is counted
items_or_none : (history : List Entry) (t : ℕ) (act : Act) (g j : ℕ) (o : Option GrantMade) → nth (grants_made history) g ≡ o → AllByRecursion (IsGranted (grants_made history)) (payments_made history)
    → sum_by (counts (items_of (behind history t act) g) g j) (outgoings history) ≡ sum_by (counts (items_of history g) g j) (outgoings history)
items_or_none history t act g j None is have =
    zero_from history g j (items_of (behind history t act) g) 1 (payments_made history) is have ∙ sym (zero_from history g j (items_of history g) 1 (payments_made history) is have)
items_or_none history t act g j (Some m) is have =
    let e : Entry = record { at = t; act = act } in
    let later : nth (grants_made (history ++ e ∷ [])) g ≡ Some m = ap (λ (l : List GrantMade). nth l g) (grants_made-next history e) ∙ nth-front (grants_made history) (option_to_list (grant_asked (1 + length history) t act)) g m is in
    let items : items_of (history ++ e ∷ []) g ≡ items_of history g =
    items_made (history ++ e ∷ []) g ∙ ap (λ (x : Option GrantMade). option_map_or (λ (y : GrantMade). y.items) x []) (later ∙ sym is) ∙ sym (items_made history g) in
    ap (λ (i : List Item). sum_by (counts i g j) (outgoings history)) items

pub other : (history : List Entry) (t : ℕ) (act : Act) (g j : ℕ) → IsLegal history → IsNext history (record { at = t; act = act }) → is_on_spending act ≡ false → spent (behind history t act) g j ≡ spent history g j
other history t act g j legal next quiet =
    sums_stay history t act g j (items_of (behind history t act) g) next quiet
    ∙ items_or_none history t act g j (nth (grants_made history) g) refl (all_granted history legal)
