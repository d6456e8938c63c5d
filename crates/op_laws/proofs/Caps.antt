-- What is spent is at most the cap.
use Rattle.std.proofs.Common.{◌≡◌, ℕ, zero, suc, ◌+◌, ◌<◌, ◌≤◌, Bool, true, false, cond, List, [], ◌∷◌, ◌++◌, length, refl, ◌∙◌, sym, ap, subst, arith, Some, None, Option, sum_by, map}
use Rattle.std.specs.Prelude.{◌==◌, ◌&&◌, if◌then◌else◌, MatchOption, is_some}
use Rattle.std.specs.List.{AllByRecursion, enumerate_from}
use Rattle.std.specs.Option.{option_map, option_map_or, option_to_list}
use Rattle.std.proofs.lemmas.List.Sums.{sum_by-cons, sum_by_push}
use Rattle.op_amount.specs.Rates.{share}
use Rattle.op_model.specs.Access.{spent_at}
use Rattle.op_model.specs.Grants.{GrantMade, grants_made, grant_asked, grant_so_far, grant_row, items_of, cap_of, spent, lies_within, weight, is_failed}
use Rattle.op_model.specs.History.{nth}
use Rattle.op_model.specs.Legal.{IsLegal, IsNext}
use Rattle.op_model.specs.Payments.{PaymentMade, payments_made, payment_added, payment_so_far, made_from_quote, quote_row, outgoings, is_step}
use Rattle.op_model.specs.declared.act.Act.{Act}
use Rattle.op_model.specs.declared.act.Act.TheVariants as acts
use Rattle.op_model.specs.declared.act.Entry.{Entry}
use Rattle.op_model.specs.declared.grant.Cap.{Cap}
use Rattle.op_model.specs.declared.grant.Item.{Item}
use Rattle.op_model.specs.declared.row.GrantRow.{GrantRow}
use Rattle.op_model.specs.declared.row.OutgoingRow.{OutgoingRow}
use Rattle.op_model.specs.declared.row.QuoteRow.{QuoteRow}
use Rattle.op_model.proofs.Next.{grants_made-next, payments_made-next}
use Rattle.op_model.proofs.Payments.{outgoings_stay}
use Rattle.op_model.proofs.OutgoingsNext.{renewed, fresh_payment, funded_steps, sent_steps, completed_steps, failed_steps}
use Rattle.op_model.proofs.Numbered.{sum_by-with_item}
use Rattle.op_laws.proofs.Floors.{floor-le}
use Rattle.op_laws.proofs.Floors.{share-le, share_whole}
use Rattle.op_legal.specs.Numbers.{HasGrant}
use Rattle.op_legal.proofs.Named.{next_names}
use Rattle.op_laws.specs.Keep.{SpendingIsCapped}
use Rattle.op_legal.proofs.Induction.{legal_induction}
use Rattle.op_laws.proofs.Intervals.{one_interval}
use Rattle.op_laws.proofs.Known.{AreKnown, all_known, terms_good}
use Rattle.op_laws.proofs.Lists.{some_kept, some_mapped, each_append, each_weaker, row_is, nth_kept, numbers_same}
use Rattle.op_laws.proofs.MakingActs.{AreGood}
use Rattle.op_laws.proofs.Paying.{IsPaying, outgoing_acts, direct_pays}
use Rattle.op_laws.proofs.Renewed.{IsStepEntry, rows_step, made_rows}
use Rattle.op_legal.proofs.StepActs.{funded_acts, sent_acts, completed_acts, failed_acts}

-- ---- a grant's items

abbrev items_in : Option GrantMade → List Item
items_in found = option_map_or (λ m. m.items) found []

mapped_items : (f : GrantMade → GrantRow) (o : Option GrantMade) → ((m : GrantMade) → (f m).items ≡ m.items) → option_map_or (λ row. row.items) (option_map f o) [] ≡ items_in o
mapped_items f None same = refl
mapped_items f (Some m) same = same m

grant_is : (history : List Entry) (g : ℕ) → grant_row history g ≡ option_map (λ m. grant_so_far history (g, m)) (nth (grants_made history) g)
grant_is history g = row_is (grant_so_far history) (grants_made history) g

items_are : (history : List Entry) (g : ℕ) → items_of history g ≡ items_in (nth (grants_made history) g)
items_are history g =
    ap (λ (o : Option GrantRow). option_map_or (λ row. row.items) o []) (grant_is history g)
    ∙ mapped_items (λ m. grant_so_far history (g, m)) (nth (grants_made history) g) (λ m. refl)

made_there : (history : List Entry) (g : ℕ) → HasGrant history g → is_some (nth (grants_made history) g) ≡ true
made_there history g h = sym (some_mapped (λ m. grant_so_far history (g, m)) (nth (grants_made history) g)) ∙ ap is_some (sym (grant_is history g)) ∙ h

-- ---- what rows count

abbrev counts : List Item → ℕ → ℕ → OutgoingRow → ℕ
counts items g j row = if (row.grant == g) && lies_within items row.made j then weight (cap_of items) row else 0

abbrev spent_by : List Item → ℕ → ℕ → List OutgoingRow → ℕ
spent_by items g j rows = sum_by (counts items g j) rows

abbrev AreWithin : List Item → ℕ → ℕ → List OutgoingRow → Type 0
AreWithin items g j rows = MatchOption (cap_of items) (Unit {0}) (λ cap. spent_by items g j rows ≤ cap.sum.value)

less_within : (o : Option Cap) (a b : ℕ) → a ≤ b → MatchOption o (Unit {0}) (λ cap. b ≤ cap.sum.value) → MatchOption o (Unit {0}) (λ cap. a ≤ cap.sum.value)
less_within None a b le h = tt
less_within (Some cap) a b le h = omega (arith, le, h)

none_within : (o : Option Cap) (a : ℕ) → a ≡ 0 → MatchOption o (Unit {0}) (λ cap. a ≤ cap.sum.value)
none_within None a is = tt
none_within (Some cap) a is = omega (arith, is)

-- ---- a step

running_weight : (o : Option Cap) (row : OutgoingRow) → is_failed row.state ≡ false → weight o row ≡ option_map_or (λ cap. cond cap.debit row.terms.debit row.terms.receive) o 0
running_weight None row h = refl
running_weight (Some cap) row h =
    ap (λ b. cond cap.debit (cond b (row.sent + row.fee) row.terms.debit) (cond b row.delivered row.terms.receive)) h

new_weight : (debit failed : Bool) (some all got receive : ℕ) → some ≤ all → got ≤ receive → cond debit (cond failed some all) (cond failed got receive) ≤ cond debit all receive
new_weight true true some all got receive a b = a
new_weight true false some all got receive a b = omega arith
new_weight false true some all got receive a b = b
new_weight false false some all got receive a b = omega arith

fee_within : (fee sent source : ℕ) → sent ≤ source → 0 < source → share fee sent source ≤ fee
fee_within fee sent source within some =
    let whole = share_whole fee source some in
    let below = share-le fee sent source source within some in
    omega (arith, whole, below)

spent_within : (sent fee source all debit : ℕ) → sent ≤ source → fee ≤ all → debit ≡ source + all → sent + fee ≤ debit
spent_within sent fee source all debit a b is = omega (arith, a, b, is)

renewed_weight : (o : Option Cap) (history : List Entry) (p : ℕ) (row : OutgoingRow) (good : AreGood history row.terms) (later : List Entry) → weight o (renewed later p row) ≤ option_map_or (λ cap. cond cap.debit row.terms.debit row.terms.receive) o 0
renewed_weight None history p row good later = omega arith
renewed_weight (Some cap) history p row good later =
    let terms = row.terms in
    let new = renewed later p row in
    let within : new.sent ≤ terms.source = omega arith in
    let fee : new.fee ≤ terms.fee = fee_within terms.fee new.sent terms.source within good.some in
    let delivered = floor-le new.sent terms.source terms.num terms.den within good.den in
    new_weight cap.debit (is_failed new.state) (new.sent + new.fee) terms.debit new.delivered terms.receive
    (spent_within new.sent new.fee terms.source terms.fee terms.debit within fee good.debit)
    (subst (λ n. new.delivered ≤ n) (sym good.receive) delivered)

either_less : (b : Bool) (x y : ℕ) → x ≤ y → cond b x 0 ≤ cond b y 0
either_less true x y h = h
either_less false x y h = omega arith

step_less : (history : List Entry) (e : Entry) (p : ℕ) (row : OutgoingRow) (items : List Item) (g j : ℕ) → AreGood history row.terms → is_failed row.state ≡ false → IsStepEntry history e p row
    → spent_by items g j (outgoings (history ++ e ∷ [])) ≤ spent_by items g j (outgoings history)
step_less history e p row items g j good running step =
    let next : List Entry = history ++ e ∷ [] in
    let new = renewed next p row in
    let sum : spent_by items g j (outgoings next) + counts items g j row ≡ spent_by items g j (outgoings history) + counts items g j new =
    ap (λ (l : List OutgoingRow). spent_by items g j l + counts items g j row) (rows_step history e p row step)
    ∙ sum_by-with_item (counts items g j) (renewed next p) (outgoings history) p row step.there in
    let less : weight (cap_of items) new ≤ weight (cap_of items) row =
    subst (λ n. weight (cap_of items) new ≤ n) (sym (running_weight (cap_of items) row running)) (renewed_weight (cap_of items) history p row good next) in
    let counted : counts items g j new ≤ counts items g j row = either_less ((row.grant == g) && lies_within items row.made j) (weight (cap_of items) new) (weight (cap_of items) row) less in
    omega (arith, sum, counted)

-- ---- a payment that is made

-- the sum with what one more payment counts, where it lies within
more_where : (ours lies : Bool) (sum more value top : ℕ) → more ≡ cond (ours && lies) value 0 → sum ≤ top → (ours ≡ true → lies ≡ true → sum + value ≤ top) → sum + more ≤ top
more_where true true sum more value top is old fits = let h = fits refl refl in omega (arith, is, h)
more_where true false sum more value top is old fits = omega (arith, is, old)
more_where false lies sum more value top is old fits = omega (arith, is, old)

made_where : (history : List Entry) (t grant : ℕ) (made : PaymentMade) (items : List Item) (g j : ℕ) (o : Option Cap) → made.grant ≡ grant → made.made ≡ t → cap_of items ≡ o → items_of history g ≡ items
    → MatchOption o (Unit {0}) (λ cap. spent_by items g j (outgoings history) ≤ cap.sum.value)
    → (grant ≡ g → MatchOption o (Unit {0}) (λ cap. spent_at history g items t + cond cap.debit made.terms.debit made.terms.receive ≤ cap.sum.value))
    → MatchOption o (Unit {0}) (λ cap. spent_by items g j (outgoings history) + counts items g j (fresh_payment made) ≤ cap.sum.value)
made_where history t grant made items g j None ours at is same old passes = tt
made_where history t grant made items g j (Some cap) ours at is same old passes =
    let fresh = fresh_payment made in
    let sum = spent_by items g j (outgoings history) in
    let value = cond cap.debit made.terms.debit made.terms.receive in
    let weighs : weight (cap_of items) fresh ≡ value = ap (λ (o : Option Cap). weight o fresh) is in
    let counted : counts items g j fresh ≡ cond ((grant == g) && lies_within items t j) value 0 =
    ap (λ n. cond ((made.grant == g) && lies_within items made.made j) n 0) weighs
    ∙ ap (λ n. cond ((n == g) && lies_within items made.made j) value 0) ours ∙ ap (λ n. cond ((grant == g) && lies_within items n j) value 0) at in
    more_where (grant == g) (lies_within items t j) sum (counts items g j fresh) value cap.sum.value counted old
    (λ own lies.
    let rule = passes (numbers_same grant g own) in
    let here : spent_at history g items t ≡ sum = ap (λ (o : Option ℕ). option_map_or (spent history g) o 0) (one_interval items t j lies) ∙ ap (λ (l : List Item). spent_by l g j (outgoings history)) same in
    omega (arith, rule, here))

made_within : (history : List Entry) (e : Entry) (grant : ℕ) (made : PaymentMade) (items : List Item) (g j : ℕ) → AreKnown history → IsPaying history e.at grant made.terms.debit made.terms.receive → made.grant ≡ grant → made.made ≡ e.at
    → payment_added history e.at e.act ≡ made ∷ [] → ((p : ℕ) → is_step p e.act ≡ false) → items_of history g ≡ items → AreWithin items g j (outgoings history) → AreWithin items g j (outgoings (history ++ e ∷ []))
made_within history e grant made items g j known is ours at adds none same old =
    let fresh = fresh_payment made in
    let t = e.at in
    let rows = made_rows history e made known adds none in
    let sum : spent_by items g j (outgoings (history ++ e ∷ [])) ≡ spent_by items g j (outgoings history) + counts items g j fresh =
    ap (spent_by items g j) rows ∙ sum_by_push (counts items g j) (outgoings history) fresh in
    let own : items_of history grant ≡ is.granted.items = ap (λ (o : Option GrantRow). option_map_or (λ row. row.items) o []) is.grant_is in
    let passes : grant ≡ g → MatchOption (cap_of items) (Unit {0}) (λ cap. spent_at history g items t + cond cap.debit made.terms.debit made.terms.receive ≤ cap.sum.value) =
    λ equal.
    let item : is.granted.items ≡ items = sym own ∙ ap (items_of history) equal ∙ same in
    subst (λ (n : ℕ). MatchOption (cap_of items) (Unit {0}) (λ cap. spent_at history n items t + cond cap.debit made.terms.debit made.terms.receive ≤ cap.sum.value)) equal
    (subst (λ (l : List Item). MatchOption (cap_of l) (Unit {0}) (λ cap. spent_at history grant l t + cond cap.debit made.terms.debit made.terms.receive ≤ cap.sum.value)) item is.capped) in
    less_within (cap_of items) (spent_by items g j (outgoings (history ++ e ∷ []))) (spent_by items g j (outgoings history) + counts items g j fresh) (omega (arith, sum))
    (made_where history t grant made items g j (cap_of items) ours at refl same old passes)

quoted_within : (history : List Entry) (t grant quote : ℕ) (metadata : Option (List ℕ)) (items : List Item) (g j : ℕ) (found : Option QuoteRow) → quote_row history quote ≡ found → AreKnown history
    → MatchOption found ⊥ (λ row. IsPaying history t grant row.terms.debit row.terms.receive) → items_of history g ≡ items → AreWithin items g j (outgoings history)
    → AreWithin items g j (outgoings (history ++ record { at = t; act = acts.OutgoingMade grant quote metadata } ∷ []))
quoted_within history t grant quote metadata items g j None is known pays same old = absurd pays
quoted_within history t grant quote metadata items g j (Some row) is known pays same old =
    made_within history (record { at = t; act = acts.OutgoingMade grant quote metadata }) grant (made_from_quote t grant quote metadata row) items g j known pays refl refl
    (ap (λ (o : Option QuoteRow). option_to_list (option_map (made_from_quote t grant quote metadata) o)) is) (λ p. refl) same old

-- ---- every entry, for a grant that is there

act_within : (history : List Entry) (t : ℕ) (act : Act) (items : List Item) (g j : ℕ) → AreKnown history → IsNext history (record { at = t; act = act }) → items_of history g ≡ items → AreWithin items g j (outgoings history)
    → AreWithin items g j (outgoings (history ++ record { at = t; act = act } ∷ []))
act_within history t (acts.OutgoingMade grant quote metadata) items g j known next same old =
    quoted_within history t grant quote metadata items g j (quote_row history quote) refl known (outgoing_acts history t grant quote metadata next) same old
act_within history t (acts.OutgoingDirect grant address incoming debit source fee receive num den metadata) items g j known next same old =
    made_within history (record { at = t; act = acts.OutgoingDirect grant address incoming debit source fee receive num den metadata }) grant _ items g j known
    (direct_pays history t grant address incoming debit source fee receive num den metadata next) refl refl refl (λ p. refl) same old
act_within history t (acts.OutgoingFunded p k) items g j known next same old =
    let e : Entry = record { at = t; act = acts.OutgoingFunded p k } in
    let is = funded_acts history t p k next in
    less_within (cap_of items) (spent_by items g j (outgoings (history ++ e ∷ []))) (spent_by items g j (outgoings history))
    (step_less history e p is.row items g j (terms_good history p is.row known is.there) is.running (record { there = is.there; steps = funded_steps history t p k })) old
act_within history t (acts.OutgoingSent p k) items g j known next same old =
    let e : Entry = record { at = t; act = acts.OutgoingSent p k } in
    let is = sent_acts history t p k next in
    less_within (cap_of items) (spent_by items g j (outgoings (history ++ e ∷ []))) (spent_by items g j (outgoings history))
    (step_less history e p is.row items g j (terms_good history p is.row known is.there) is.running (record { there = is.there; steps = sent_steps history t p k })) old
act_within history t (acts.OutgoingCompleted p k) items g j known next same old =
    let e : Entry = record { at = t; act = acts.OutgoingCompleted p k } in
    let is = completed_acts history t p k next in
    less_within (cap_of items) (spent_by items g j (outgoings (history ++ e ∷ []))) (spent_by items g j (outgoings history))
    (step_less history e p is.row items g j (terms_good history p is.row known is.there) is.running (record { there = is.there; steps = completed_steps history t p k })) old
act_within history t (acts.OutgoingFailed p k reason) items g j known next same old =
    let e : Entry = record { at = t; act = acts.OutgoingFailed p k reason } in
    let is = failed_acts history t p k reason next in
    less_within (cap_of items) (spent_by items g j (outgoings (history ++ e ∷ []))) (spent_by items g j (outgoings history))
    (step_less history e p is.row items g j (terms_good history p is.row known is.there) is.running (record { there = is.there; steps = failed_steps history t p k reason })) old
act_within history t act items g j known next same old =
    subst (AreWithin items g j) (sym (outgoings_stay history (record { at = t; act = act }) refl (λ p. refl))) old

-- ---- a grant that is not there yet

-- payments name grants that are made
AreGranted : List Entry → List PaymentMade → Type 0
AreGranted history made = AllByRecursion (λ m. is_some (nth (grants_made history) m.grant) ≡ true) made

added_where : (history : List Entry) (t grant quote : ℕ) (metadata : Option (List ℕ)) (found : Option QuoteRow) → is_some (nth (grants_made history) grant) ≡ true → AreGranted history (option_to_list (option_map (made_from_quote t grant quote metadata) found))
unfolding AreGranted
added_where history t grant quote metadata None is = tt
added_where history t grant quote metadata (Some row) is = (is, tt)

added_granted : (history : List Entry) (t : ℕ) (act : Act) → IsNext history (record { at = t; act = act }) → AreGranted history (payment_added history t act)
unfolding AreGranted
added_granted history t (acts.OutgoingMade grant quote metadata) next =
    added_where history t grant quote metadata (quote_row history quote) (made_there history grant (next_names history (record { at = t; act = acts.OutgoingMade grant quote metadata }) next).0)
added_granted history t (acts.OutgoingDirect grant address incoming debit source fee receive num den metadata) next =
    (made_there history grant (next_names history (record { at = t; act = acts.OutgoingDirect grant address incoming debit source fee receive num den metadata }) next).0, tt)
added_granted history t _ next = tt

later_granted : (history : List Entry) (e : Entry) → IsNext history e → AreGranted history (payments_made history) → AreGranted history (payments_made (history ++ e ∷ []))
unfolding AreGranted
later_granted history e next old =
    subst (AreGranted history) (sym (payments_made-next history e))
    (each_append (λ (m : PaymentMade). is_some (nth (grants_made history) m.grant) ≡ true) (payments_made history) (payment_added history e.at e.act) old (added_granted history e.at e.act next))

granted_stays : (history : List Entry) (e : Entry) (made : List PaymentMade) → AreGranted history made → AreGranted (history ++ e ∷ []) made
unfolding AreGranted
granted_stays history e made old =
    each_weaker (λ (m : PaymentMade). is_some (nth (grants_made history) m.grant) ≡ true) (λ (m : PaymentMade). is_some (nth (grants_made (history ++ e ∷ [])) m.grant) ≡ true) made
    (λ m h. ap (λ (l : List GrantMade). is_some (nth l m.grant)) (grants_made-next history e)
    ∙ some_kept (grants_made history) (option_to_list (grant_asked (1 + length history) e.at e.act)) m.grant h)
    old

apart_where : (history : List Entry) (n g : ℕ) (b : Bool) → (n == g) ≡ b → is_some (nth (grants_made history) n) ≡ true → nth (grants_made history) g ≡ None → b ≡ false
apart_where history n g true is some none =
    absurd (let e : true ≡ false = sym some ∙ ap (λ (k : ℕ). is_some (nth (grants_made history) k)) (numbers_same n g is) ∙ ap is_some none in cc)
apart_where history n g false is some none = refl

none_counted : (history later : List Entry) (items : List Item) (g j b : ℕ) (made : List PaymentMade) → AreGranted history made → nth (grants_made history) g ≡ None → sum_by (counts items g j) (map (payment_so_far later) (enumerate_from b made)) ≡ 0
unfolding AreGranted
none_counted history later items g j b [] old none = refl
none_counted history later items g j b (m ∷ ms) old none =
    let apart : (m.grant == g) ≡ false = apart_where history m.grant g (m.grant == g) refl old.0 none in
    let row = payment_so_far later (b, m) in
    let first : counts items g j row ≡ 0 = ap (λ t. cond (t && lies_within items row.made j) (weight (cap_of items) row) 0) apart in
    let rest = none_counted history later items g j (b + 1) ms old.1 none in
    let all = sum_by-cons (counts items g j) row (map (payment_so_far later) (enumerate_from (b + 1) ms)) in
    omega (arith, first, rest, all)

-- ---- all grants

record AreCapped (history : List Entry) : Type 0 where
  granted : AreGranted history (payments_made history)
  within : (g j : ℕ) → AreWithin (items_in (nth (grants_made history) g)) g j (outgoings history)

new_where : (history : List Entry) (e : Entry) (g j : ℕ) (later : Option GrantMade) → AreGranted history (payments_made (history ++ e ∷ [])) → nth (grants_made history) g ≡ None → AreWithin (items_in later) g j (outgoings (history ++ e ∷ []))
new_where history e g j None granted none = tt
new_where history e g j (Some m) granted none =
    none_within (cap_of m.items) (spent_by m.items g j (outgoings (history ++ e ∷ []))) (none_counted history (history ++ e ∷ []) m.items g j 1 (payments_made (history ++ e ∷ [])) granted none)

grant_where : (history : List Entry) (e : Entry) (g j : ℕ) (found : Option GrantMade) → AreKnown history → IsNext history e → AreGranted history (payments_made (history ++ e ∷ [])) → nth (grants_made history) g ≡ found → AreWithin (items_in found) g j (outgoings history)
    → AreWithin (items_in (nth (grants_made (history ++ e ∷ [])) g)) g j (outgoings (history ++ e ∷ []))
grant_where history e g j None known next granted is old = new_where history e g j (nth (grants_made (history ++ e ∷ [])) g) granted is
grant_where history e g j (Some m) known next granted is old =
    let kept : nth (grants_made (history ++ e ∷ [])) g ≡ Some m =
    ap (λ (l : List GrantMade). nth l g) (grants_made-next history e) ∙ nth_kept (grants_made history) (option_to_list (grant_asked (1 + length history) e.at e.act)) g m is in
    subst (λ (o : Option GrantMade). AreWithin (items_in o) g j (outgoings (history ++ e ∷ []))) (sym kept)
    (act_within history e.at e.act m.items g j known next (items_are history g ∙ ap items_in is) old)

capped_next : (history : List Entry) (e : Entry) → AreKnown history → IsNext history e → AreCapped history → AreCapped (history ++ e ∷ [])
capped_next history e known next old =
    let granted = later_granted history e next old.granted in
    record {
      granted = granted_stays history e (payments_made (history ++ e ∷ [])) granted;
      within = λ g j. grant_where history e g j (nth (grants_made history) g) known next granted refl (old.within g j);
    }

none_in : (g : ℕ) → items_in (nth [] g) ≡ []
none_in zero = refl
none_in (suc n) = refl

start : AreCapped []
unfolding AreGranted
start = record { granted = tt; within = λ g j. subst (λ (l : List Item). AreWithin l g j []) (sym (none_in g)) tt }

each_capped : (history : List Entry) → IsLegal history → AreCapped history
each_capped = legal_induction AreCapped start (λ history e legal next old. capped_next history e (all_known history legal) next old)

pub all_capped : SpendingIsCapped
all_capped history legal g j = subst (λ (l : List Item). AreWithin l g j (outgoings history)) (sym (items_are history g)) ((each_capped history legal).within g j)
