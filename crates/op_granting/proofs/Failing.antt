-- What was spent behind a payment that fails.
use Rattle.std.proofs.Common.{◌≡◌, ℕ, ◌+◌, ◌-◌, ◌≤◌, ◌<◌, Bool, true, false, cond, ◌&&◌, List, [], ◌∷◌, ◌++◌, refl, ◌∙◌, sym, ap, subst, arith, Some, None, Option, add-zero}
use Rattle.std.specs.Prelude.{◌==◌, sum_by}
use Rattle.std.specs.Option.{option_map_or}
use Rattle.op_amount.specs.Rates.{share}
use Rattle.op_model.specs.Grants.{grants, items_of, cap_of, interval_at, lies_within, spent, weight, is_failed}
use Rattle.op_model.specs.History.{with_item}
use Rattle.op_model.specs.Legal.{IsLegal, IsNext}
use Rattle.op_model.specs.Payments.{outgoings, outgoing_row, pieces_sent, sent_after, fee_after, delivered_after}
use Rattle.op_model.specs.declared.act.Act.TheVariants as acts
use Rattle.op_model.specs.declared.act.Entry.{Entry}
use Rattle.op_model.specs.declared.act.FailReason.{FailReason}
use Rattle.op_model.specs.declared.grant.Cap.{Cap}
use Rattle.op_model.specs.declared.grant.Item.{Item}
use Rattle.op_model.specs.declared.row.OutgoingRow.{OutgoingRow}
use Rattle.op_model.proofs.Next.{pieces_sent-next}
use Rattle.op_model.proofs.Numbered.{sum_by-with_item, itself, same_number}
use Rattle.op_model.proofs.OutgoingsNext.{renewed, outgoings_renewed, failed_steps, failed_state}
use Rattle.op_grant.specs.Value.{GrantsValue, cap_in, spent_in, spent_less, by_grant}
use Rattle.op_grant.proofs.SpendingLaw.{key_test, less_step}
use Rattle.std.specs.BTreeMap.{is_at}
use Rattle.op_legal.proofs.Chains.{some_is}
use Rattle.op_legal.proofs.StepActs.{failed_acts}
use Rattle.op_laws.proofs.Floors.{floor-le, share-le, share_whole}
use Rattle.op_laws.proofs.Known.{all_known, terms_good}
use Rattle.op_laws.proofs.Renewed.{as_sent}
use Rattle.op_granting.specs.Models.{behind}
use Rattle.op_granting.specs.Spending.{SpendsAs, IsGivenBack, given_back}
use Rattle.op_granting.proofs.Counting.{counts, items_stay, cap_is}
use Rattle.op_granting.proofs.Intervals.{lies_within_is}

-- ---- a payment used no more than its terms say

pub record IsWithinTerms (row : OutgoingRow) : Type 0 where
  pub debit : row.sent + row.fee ≤ row.terms.debit
  pub receive : row.delivered ≤ row.terms.receive

sum_within : (sent fee source all debit : ℕ) → sent ≤ source → fee ≤ all → debit ≡ source + all → sent + fee ≤ debit
sum_within sent fee source all debit a b is = omega (arith, a, b, is)

fee_within : (fee sent source : ℕ) → sent ≤ source → 0 < source → share fee sent source ≤ fee
fee_within fee sent source within some =
    let whole = share_whole fee source some in
    let below = share-le fee sent source source within some in
    omega (arith, whole, below)

pub within_terms : (history : List Entry) (p : ℕ) (row : OutgoingRow) → IsLegal history → outgoing_row history p ≡ Some row → IsWithinTerms row
within_terms history p row legal there =
    let good = terms_good history p row (all_known history legal) there in
    let is = as_sent history p row there in
    let terms = row.terms in
    let n = pieces_sent history p in
    let sent : sent_after terms n ≤ terms.source = omega arith in
    let fee : fee_after terms n ≤ terms.fee = fee_within terms.fee (sent_after terms n) terms.source sent good.some in
    let got : delivered_after terms n ≤ terms.receive = subst (λ x. delivered_after terms n ≤ x) (sym good.receive) (floor-le (sent_after terms n) terms.source terms.num terms.den sent good.den) in
    record {
      debit = sum_within row.sent row.fee terms.source terms.fee terms.debit (subst (λ x. x ≤ terms.source) (sym is.sent) sent) (subst (λ x. x ≤ terms.fee) (sym is.fee) fee) good.debit;
      receive = subst (λ x. x ≤ terms.receive) (sym is.delivered) got;
    }

-- ---- the row that failed

-- it stands as it was, but failed
record HasFailed (row new : OutgoingRow) : Type 0 where
  failed : is_failed new.state ≡ true
  sent : new.sent ≡ row.sent
  fee : new.fee ≡ row.fee
  delivered : new.delivered ≡ row.delivered
  grant : new.grant ≡ row.grant
  made : new.made ≡ row.made

has_failed : (history : List Entry) (t p k : ℕ) (reason : FailReason) (row : OutgoingRow) → outgoing_row history p ≡ Some row → HasFailed row (renewed (behind history t (acts.OutgoingFailed p k reason)) p row)
has_failed history t p k reason row there =
    let e : Entry = record { at = t; act = acts.OutgoingFailed p k reason } in
    let is = as_sent history p row there in
    let pieces : pieces_sent (history ++ e ∷ []) p ≡ pieces_sent history p = pieces_sent-next history e p ∙ add-zero (pieces_sent history p) in
    record {
      failed = ap is_failed (failed_state history t p k reason);
      sent = ap (sent_after row.terms) pieces ∙ sym is.sent;
      fee = ap (fee_after row.terms) pieces ∙ sym is.fee;
      delivered = ap (delivered_after row.terms) pieces ∙ sym is.delivered;
      grant = refl;
      made = refl;
    }

by_kind : (b : Bool) (debit receive sent fee delivered : ℕ) → sent + fee ≤ debit → delivered ≤ receive → cond b debit receive ≡ cond b (sent + fee) delivered + cond b (debit - sent - fee) (receive - delivered)
by_kind true debit receive sent fee delivered d r = omega (arith, d)
by_kind false debit receive sent fee delivered d r = omega (arith, r)

-- what a failed payment counts, and what it gives back, are what it counted
weights : (cap : Option Cap) (row new : OutgoingRow) → is_failed row.state ≡ false → HasFailed row new → IsWithinTerms row → weight cap row ≡ weight cap new + given_back cap row
weights None row new alive is within = refl
weights (Some cap) row new alive is within =
    let old : weight (Some cap) row ≡ cond cap.debit row.terms.debit row.terms.receive =
    ap (λ b. cond cap.debit (cond b (row.sent + row.fee) row.terms.debit) (cond b row.delivered row.terms.receive)) alive in
    let later : weight (Some cap) new ≡ cond cap.debit (row.sent + row.fee) row.delivered =
    ap (λ b. cond cap.debit (cond b (new.sent + new.fee) new.terms.debit) (cond b new.delivered new.terms.receive)) is.failed
    ∙ ap (λ n. cond cap.debit (n + new.fee) new.delivered) is.sent ∙ ap (λ n. cond cap.debit (row.sent + n) new.delivered) is.fee ∙ ap (λ n. cond cap.debit (row.sent + row.fee) n) is.delivered in
    old ∙ by_kind cap.debit row.terms.debit row.terms.receive row.sent row.fee row.delivered within.debit within.receive ∙ ap (λ n. n + given_back (Some cap) row) (sym later)

-- ---- sums

counted_less : (value : GrantsValue) (m k n j v : ℕ) → v ≤ spent_in value m k → spent_in (spent_less value m k v) n j + cond ((m == n) && (k == j)) v 0 ≡ spent_in value n j
counted_less value m k n j v covers =
    ap (λ c. spent_in (spent_less value m k v) n j + cond c v 0) (key_test m k n j (is_at (by_grant (n, j)) (m, k)) refl)
    ∙ less_step (is_at (by_grant (n, j)) (m, k)) value m k n j v refl covers ∙ add-zero (spent_in value n j)

less_by : (b c d : Bool) (wr wf v before after less : ℕ) → (b ≡ true → c ≡ d) → (b ≡ true → wr ≡ wf + v) → after + cond (b && c) wr 0 ≡ before + cond (b && c) wf 0 → less + cond (b && d) v 0 ≡ before → less ≡ after
less_by false c d wr wf v before after less lies counted sums own = omega (arith, sums, own)
less_by true true true wr wf v before after less lies counted sums own = let w = counted refl in omega (arith, sums, own, w)
less_by true false false wr wf v before after less lies counted sums own = omega (arith, sums, own)
less_by true true false wr wf v before after less lies counted sums own = absurd (let e : true ≡ false = lies refl in cc)
less_by true false true wr wf v before after less lies counted sums own = absurd (let e : false ≡ true = lies refl in cc)

covered_by : (b c : Bool) (wr wf v before after : ℕ) → b ≡ true → c ≡ true → wr ≡ wf + v → after + cond (b && c) wr 0 ≡ before + cond (b && c) wf 0 → v ≤ before
covered_by true true wr wf v before after p q counted sums = omega (arith, counted, sums)
covered_by true false wr wf v before after p q counted sums = absurd (let e : false ≡ true = q in cc)
covered_by false c wr wf v before after p q counted sums = absurd (let e : false ≡ true = p in cc)

counts_failed : (items : List Item) (g j : ℕ) (row new : OutgoingRow) → HasFailed row new → counts items g j new ≡ cond ((row.grant == g) && lies_within items row.made j) (weight (cap_of items) new) 0
counts_failed items g j row new is =
    ap (λ n. cond ((n == g) && lies_within items new.made j) (weight (cap_of items) new) 0) is.grant
    ∙ ap (λ n. cond ((row.grant == g) && lies_within items n j) (weight (cap_of items) new) 0) is.made

-- the sums before and behind
sums_failed : (history : List Entry) (t p k : ℕ) (reason : FailReason) (row : OutgoingRow) (g i : ℕ) → outgoing_row history p ≡ Some row → (let after = behind history t (acts.OutgoingFailed p k reason) in
    spent after g i + cond ((row.grant == g) && lies_within (items_of history g) row.made i) (weight (cap_of (items_of history g)) row) 0
    ≡ spent history g i + cond ((row.grant == g) && lies_within (items_of history g) row.made i) (weight (cap_of (items_of history g)) (renewed after p row)) 0)
sums_failed history t p k reason row g i there =
    let act = acts.OutgoingFailed p k reason in
    let e : Entry = record { at = t; act = act } in
    let after = behind history t act in
    let items = items_of history g in
    let change = renewed after p in
    let same : spent after g i ≡ sum_by (counts items g i) (with_item change (outgoings history) p) =
    ap (λ (x : List Item). sum_by (counts x g i) (outgoings after)) (items_stay history t act g refl)
    ∙ ap (sum_by (counts items g i)) (outgoings_renewed history e p (failed_steps history t p k reason)) in
    ap (λ n. n + counts items g i row) same
    ∙ sum_by-with_item (counts items g i) change (outgoings history) p row there
    ∙ ap (λ n. spent history g i + n) (counts_failed items g i row (change row) (has_failed history t p k reason row there))

pub failed : (value : GrantsValue) (history : List Entry) (t p k j : ℕ) (reason : FailReason) (row : OutgoingRow) → IsLegal history → IsNext history (record { at = t; act = acts.OutgoingFailed p k reason }) → value.rows ≡ grants history → SpendsAs value history
    → outgoing_row history p ≡ Some row → interval_at (items_of history row.grant) row.made ≡ Some j → IsGivenBack value (behind history t (acts.OutgoingFailed p k reason)) row.grant j (given_back (cap_in value row.grant) row)
failed value history t p k j reason row legal next rows spends there lies =
    let after = behind history t (acts.OutgoingFailed p k reason) in
    let new = renewed after p row in
    let caps : cap_in value row.grant ≡ cap_of (items_of history row.grant) = cap_is value history row.grant rows in
    let v = given_back (cap_in value row.grant) row in
    let fails = failed_acts history t p k reason next in
    let alive : is_failed row.state ≡ false = ap (λ (r : OutgoingRow). is_failed r.state) (sym (some_is fails.row row (sym fails.there ∙ there))) ∙ fails.running in
    let within_is : (i : ℕ) → lies_within (items_of history row.grant) row.made i ≡ (j == i) = λ i. lies_within_is (items_of history row.grant) row.made i ∙ ap (λ (o : Option ℕ). option_map_or (λ x. x == i) o false) lies in
    let own : weight (cap_of (items_of history row.grant)) row ≡ weight (cap_of (items_of history row.grant)) new + v =
    weights (cap_of (items_of history row.grant)) row new alive (has_failed history t p k reason row there) (within_terms history p row legal there)
    ∙ ap (λ (o : Option Cap). weight (cap_of (items_of history row.grant)) new + given_back o row) (sym caps) in
    let covered : v ≤ spent history row.grant j =
    covered_by (row.grant == row.grant) (lies_within (items_of history row.grant) row.made j) (weight (cap_of (items_of history row.grant)) row) (weight (cap_of (items_of history row.grant)) new) v (spent history row.grant j) (spent after row.grant j)
    (itself row.grant) (within_is j ∙ itself j) own (sums_failed history t p k reason row row.grant j there) in
    let enough : v ≤ spent_in value row.grant j = subst (λ n. v ≤ n) (sym (spends row.grant j)) covered in
    record {
      covered = enough;
      spends = λ g i.
          less_by (row.grant == g) (lies_within (items_of history g) row.made i) (j == i) (weight (cap_of (items_of history g)) row) (weight (cap_of (items_of history g)) new) v (spent history g i) (spent after g i) (spent_in (spent_less value row.grant j v) g i)
          (λ h. subst (λ (n : ℕ). lies_within (items_of history n) row.made i ≡ (j == i)) (same_number row.grant g h) (within_is i))
          (λ h. subst (λ (n : ℕ). weight (cap_of (items_of history n)) row ≡ weight (cap_of (items_of history n)) new + v) (same_number row.grant g h) own)
          (sums_failed history t p k reason row g i there)
          (counted_less value row.grant j g i v enough ∙ spends g i);
    }
