-- What an incoming payment has received is below twice the top.
use Rattle.std.proofs.Common.{◌≡◌, ℕ, ◌+◌, ◌*◌, ◌<◌, ◌≤◌, Bool, true, false, cond, List, [], ◌∷◌, ◌++◌, refl, ◌∙◌, sym, ap, subst, arith, Some, None, Option}
use Rattle.std.specs.Prelude.{◌==◌, not, nat_lt}
use Rattle.std.specs.Option.{option_map, option_map_or, option_to_list}
use Rattle.std.proofs.lemmas.Bool.Decides.{nat_tests}
use Rattle.op_amount.specs.declared.TheConstants.{TOP}
use Rattle.op_model.specs.Incoming.{is_open, is_unfinished, is_closed, bound_of}
use Rattle.op_model.specs.Legal.{IsLegal, IsNext}
use Rattle.op_model.specs.Payments.{PaymentMade, made_from_quote, quote_row, payment_added, received, incoming_row, is_piece, is_step, pieces_sent, sent_after, delivered_after}
use Rattle.op_model.specs.declared.act.Act.{Act}
use Rattle.op_model.specs.declared.act.Act.TheVariants as acts
use Rattle.op_model.specs.declared.act.Entry.{Entry}
use Rattle.op_model.specs.declared.row.IncomingRow.{IncomingRow}
use Rattle.op_model.specs.declared.row.OutgoingRow.{OutgoingRow}
use Rattle.op_model.specs.declared.row.QuoteRow.{QuoteRow}
use Rattle.op_model.specs.declared.row.Terms.{Terms}
use Rattle.op_model.proofs.Next.{pieces_sent-next}
use Rattle.op_model.proofs.OutgoingsNext.{renewed, funded_steps, sent_steps, completed_steps, failed_steps}
use Rattle.op_model.proofs.Payments.{outgoings_stay}
use Rattle.op_model.proofs.SumsNext.{received_stays, received_made, received_step}
use Rattle.op_legal.proofs.Induction.{legal_induction}
use Rattle.op_legal.proofs.Names.{both_left, both_right}
use Rattle.op_legal.proofs.StepActs.{funded_acts, sent_acts, completed_acts, failed_acts}
use Rattle.op_legal.proofs.Values.{HasValues, has_values, bound_small}
use Rattle.op_laws.specs.Received.{ReceivedIsBounded}
use Rattle.op_laws.proofs.Floors.{floor-le}
use Rattle.op_laws.proofs.Known.{AreKnown, all_known, terms_good}
use Rattle.op_laws.proofs.Lists.{numbers_same, same_self}
use Rattle.op_laws.proofs.MakingActs.{AreGood}
use Rattle.op_laws.proofs.Renewed.{IsStepEntry, rows_step, made_rows, as_sent}
use Rattle.op_laws.proofs.StepAnswers.{IsSendingNow, sending_now}

IsBelow : List Entry → Type 0
IsBelow history = (i : ℕ) → received history i < 2 * TOP

-- ---- a step

step_where : (b : Bool) (before after old new : ℕ) → after + cond b old 0 ≡ before + cond b new 0 → new ≤ old → before < 2 * TOP → after < 2 * TOP
step_where true before after old new is le h = omega (arith, is, le, h)
step_where false before after old new is le h = omega (arith, is, h)

-- a step that is no piece delivers nothing
still : (history : List Entry) (e : Entry) (p : ℕ) (row : OutgoingRow) → IsStepEntry history e p row → is_piece p e.act ≡ false → IsBelow history → IsBelow (history ++ e ∷ [])
unfolding IsBelow
still history e p row step none old i =
    let new = renewed (history ++ e ∷ []) p row in
    let pieces : pieces_sent (history ++ e ∷ []) p ≡ pieces_sent history p = let next = pieces_sent-next history e p ∙ ap (λ b. pieces_sent history p + cond b 1 0) none in omega (arith, next) in
    let same : new.delivered ≡ row.delivered = ap (delivered_after row.terms) pieces ∙ sym (as_sent history p row step.there).delivered in
    let sum = received_step history (history ++ e ∷ []) i (renewed (history ++ e ∷ []) p) p row (rows_step history e p row step) step.there in
    step_where (row.terms.incoming == i) (received history i) (received (history ++ e ∷ []) i) row.delivered new.delivered sum (omega (arith, same)) (old i)

-- ---- a piece

open_where : (history : List Entry) (i t : ℕ) (found : Option IncomingRow) → incoming_row history i ≡ found → HasValues history → option_map_or (λ r. is_open history i r t) found false ≡ true → received history i < TOP
open_where history i t None is has h = absurd (let e : false ≡ true = h in cc)
open_where history i t (Some row) is has h =
    let unfinished : is_unfinished history i row ≡ true = both_left (is_unfinished history i row) _ h in
    let test : nat_lt (received history i) (bound_of row) ≡ true = both_right (not (is_closed history i)) (nat_lt (received history i) (bound_of row)) unfinished in
    let less : received history i < bound_of row = grind (arith, nat_tests) in
    let small = bound_small history i row has is in
    omega (arith, less, small)

piece_where : (b : Bool) (before after old new : ℕ) → after + cond b old 0 ≡ before + cond b new 0 → new ≤ TOP → (b ≡ true → before < TOP) → before < 2 * TOP → after < 2 * TOP
piece_where true before after old new is le few h = let f = few refl in omega (arith, is, le, f)
piece_where false before after old new is le few h = omega (arith, is, h)

delivers : (history : List Entry) (terms : Terms) (n : ℕ) → AreGood history terms → delivered_after terms n ≤ TOP
delivers history terms n good =
    let within : sent_after terms n ≤ terms.source = omega arith in
    let whole = floor-le (sent_after terms n) terms.source terms.num terms.den within good.den in
    let receive = good.receive in
    let top = good.top in
    omega (arith, whole, receive, top)

piece : (history : List Entry) (e : Entry) (t p : ℕ) (row : OutgoingRow) → AreGood history row.terms → HasValues history → IsStepEntry history e p row → IsSendingNow history t p row → IsBelow history → IsBelow (history ++ e ∷ [])
unfolding IsBelow
piece history e t p row good has step now old i =
    let new = renewed (history ++ e ∷ []) p row in
    let sum = received_step history (history ++ e ∷ []) i (renewed (history ++ e ∷ []) p) p row (rows_step history e p row step) step.there in
    let few : received history row.terms.incoming < TOP = open_where history row.terms.incoming t (incoming_row history row.terms.incoming) refl has now.waits in
    piece_where (row.terms.incoming == i) (received history i) (received (history ++ e ∷ []) i) row.delivered new.delivered sum (delivers history row.terms (pieces_sent (history ++ e ∷ []) p) good)
    (λ h. subst (λ n. received history n < TOP) (numbers_same row.terms.incoming i h) few) (old i)

-- ---- every entry

stays : (history : List Entry) (e : Entry) → payment_added history e.at e.act ≡ [] → ((p : ℕ) → is_step p e.act ≡ false) → IsBelow history → IsBelow (history ++ e ∷ [])
unfolding IsBelow
stays history e none each old i = subst (λ n. n < 2 * TOP) (sym (received_stays history (history ++ e ∷ []) i (outgoings_stay history e none each))) (old i)

makes : (history : List Entry) (e : Entry) (made : PaymentMade) → AreKnown history → payment_added history e.at e.act ≡ made ∷ [] → ((p : ℕ) → is_step p e.act ≡ false) → IsBelow history → IsBelow (history ++ e ∷ [])
unfolding IsBelow
makes history e made known adds none old i = subst (λ n. n < 2 * TOP) (sym (received_made history (history ++ e ∷ []) i made (made_rows history e made known adds none))) (old i)

quoted : (history : List Entry) (t grant quote : ℕ) (metadata : Option (List ℕ)) (found : Option QuoteRow) → AreKnown history → quote_row history quote ≡ found → IsBelow history → IsBelow (history ++ record { at = t; act = acts.OutgoingMade grant quote metadata } ∷ [])
quoted history t grant quote metadata None known is old =
    stays history (record { at = t; act = acts.OutgoingMade grant quote metadata }) (ap (λ (o : Option QuoteRow). option_to_list (option_map (made_from_quote t grant quote metadata) o)) is) (λ p. refl) old
quoted history t grant quote metadata (Some row) known is old =
    makes history (record { at = t; act = acts.OutgoingMade grant quote metadata }) (made_from_quote t grant quote metadata row) known (ap (λ (o : Option QuoteRow). option_to_list (option_map (made_from_quote t grant quote metadata) o)) is) (λ p. refl) old

act_below : (history : List Entry) (t : ℕ) (act : Act) → AreKnown history → HasValues history → IsNext history (record { at = t; act = act }) → IsBelow history → IsBelow (history ++ record { at = t; act = act } ∷ [])
act_below history t (acts.OutgoingMade grant quote metadata) known has next old = quoted history t grant quote metadata (quote_row history quote) known refl old
act_below history t (acts.OutgoingDirect grant address incoming debit source fee receive num den metadata) known has next old =
    makes history (record { at = t; act = acts.OutgoingDirect grant address incoming debit source fee receive num den metadata }) _ known refl (λ p. refl) old
act_below history t (acts.OutgoingFunded p k) known has next old =
    let is = funded_acts history t p k next in
    still history (record { at = t; act = acts.OutgoingFunded p k }) p is.row (record { there = is.there; steps = funded_steps history t p k }) refl old
act_below history t (acts.OutgoingSent p k) known has next old =
    let is = sent_acts history t p k next in
    piece history (record { at = t; act = acts.OutgoingSent p k }) t p is.row (terms_good history p is.row known is.there) has (record { there = is.there; steps = sent_steps history t p k }) (sending_now history t p k (acts.OutgoingSent p k) is (same_self p)) old
act_below history t (acts.OutgoingCompleted p k) known has next old =
    let is = completed_acts history t p k next in
    piece history (record { at = t; act = acts.OutgoingCompleted p k }) t p is.row (terms_good history p is.row known is.there) has (record { there = is.there; steps = completed_steps history t p k }) (sending_now history t p k (acts.OutgoingCompleted p k) is (same_self p)) old
act_below history t (acts.OutgoingFailed p k reason) known has next old =
    let is = failed_acts history t p k reason next in
    still history (record { at = t; act = acts.OutgoingFailed p k reason }) p is.row (record { there = is.there; steps = failed_steps history t p k reason }) refl old
act_below history t act known has next old = stays history (record { at = t; act = act }) refl (λ p. refl) old

start : IsBelow []
unfolding IsBelow
start i = omega arith

all_below : (history : List Entry) → IsLegal history → IsBelow history
all_below = legal_induction IsBelow start (λ history e legal next old. act_below history e.at e.act (all_known history legal) (has_values history legal) next old)

pub received_is_bounded : ReceivedIsBounded
unfolding IsBelow
received_is_bounded history i legal = all_below history legal i
