-- An entry that makes a payment puts a fresh one behind those of a history.
use Rattle.std.proofs.Common.{◌≡◌, refl, sym, ap, ◌∙◌, ℕ, ◌+◌, ◌*◌, Bool, true, false, cond, List, [], ◌∷◌, ◌++◌, length, arith, min}
use Rattle.std.specs.Prelude.{◌==◌, ◌&&◌, ◌||◌, is_some, count_by, Some, None}
use Rattle.std.specs.List.{filter_map, list_any, list_all}
use Rattle.std.specs.Option.{option_to_list, option_map}
use Rattle.std.specs.declared.option.Option.{Option}
use Rattle.std.proofs.lemmas.Bool.Decides.{nat_tests}
use Rattle.std.proofs.lemmas.List.Folds.{sum_by-zero}
use Rattle.op_amount.specs.Rates.{share, floor_mul}
use Rattle.op_amount.specs.declared.Priced.{Priced}
use Rattle.op_model.specs.PaymentAnswers.{direct_act}
use Rattle.op_model.specs.Payments.{PaymentMade, payments_made, payment_so_far, outgoings, quote_row, pieces_sent, step_number, state_of, fail_reason, reason_number, is_piece, is_last_piece, is_funding, is_step, failure, sent_after, fee_after, delivered_after, made_from_quote, made_directly, terms_at}
use Rattle.op_model.specs.declared.act.Act.{Act}
use Rattle.op_model.specs.declared.act.Act.TheVariants as acts
use Rattle.op_model.specs.declared.act.Entry.{Entry}
use Rattle.op_model.specs.declared.act.FailReason.{FailReason}
use Rattle.op_model.specs.declared.row.OutgoingRow.{OutgoingRow}
use Rattle.op_model.specs.declared.row.PaymentState.{PaymentState}
use Rattle.op_model.specs.declared.row.PaymentState.TheVariants as states
use Rattle.op_model.specs.declared.row.QuoteRow.{QuoteRow}
use Rattle.op_model.specs.declared.row.Terms.{Terms}
use Rattle.op_model.proofs.Payments.{outgoings_made}
use Rattle.op_outgoing.specs.Models.{IsNextUnstepped}
use Rattle.op_outgoing.specs.Value.{fresh_row}
use Rattle.op_outgoing.proofs.Holding.{zero_share}
use Rattle.op_outgoing.proofs.Quotes.{zero_floor}

-- ---- no act names the payment

abbrev is_zero : (Act → Bool) → Entry → Bool
is_zero test e = cond (test e.act) 1 0 == 0

abbrev is_none_in : (Act → Bool) → List Entry → Bool
is_none_in test history = list_all (is_zero test) history

record AreBoth (b rest : Bool) : Type 0 where
  first : b ≡ false
  others : rest ≡ true

split : (b rest : Bool) → ((cond b 1 0 == 0) && rest) ≡ true → AreBoth b rest
split true rest h = absurd (let no : false ≡ true = h in cc)
split false rest h = record { first = refl; others = h }

zero_is : (n : ℕ) → (n == 0) ≡ true → n ≡ 0
zero_is n h = grind (arith, nat_tests)

none_in : (history : List Entry) (p : ℕ) → step_number history p ≡ 0 → is_none_in (is_step p) history ≡ true
none_in history p none = sym (sum_by-zero (λ e. cond (is_step p e.act) 1 0) history) ∙ ap (λ n. n == 0) none

-- an act that is no step of it is none of these

left_none : (a b : Bool) → (a || b) ≡ false → a ≡ false
left_none true b h = h
left_none false b h = refl

right_none : (a b : Bool) → (a || b) ≡ false → b ≡ false
right_none true b h = absurd (let no : true ≡ false = h in cc)
right_none false b h = h

no_piece : (p : ℕ) (act : Act) → is_step p act ≡ false → is_piece p act ≡ false
no_piece p act h = left_none (is_piece p act) _ h

no_last_piece : (p : ℕ) (act : Act) → is_step p act ≡ false → is_last_piece p act ≡ false
no_last_piece p (acts.OutgoingCompleted payment step) h = no_piece p (acts.OutgoingCompleted payment step) h
no_last_piece p _ h = refl

no_funding : (p : ℕ) (act : Act) → is_step p act ≡ false → is_funding p act ≡ false
no_funding p act h = left_none (is_funding p act) _ (right_none (is_piece p act) _ h)

none_of : {X : Type 0} (o : Option X) → is_some o ≡ false → o ≡ None
none_of None h = refl
none_of (Some x) h = absurd (let no : true ≡ false = h in cc)

no_failure : (p : ℕ) (act : Act) → is_step p act ≡ false → failure p act ≡ None
no_failure p act h = none_of (failure p act) (right_none (is_funding p act) _ (right_none (is_piece p act) _ h))

any_none : (p : ℕ) (test : Act → Bool) → ((act : Act) → is_step p act ≡ false → test act ≡ false) → (history : List Entry) → is_none_in (is_step p) history ≡ true → list_any (λ e. test e.act) history ≡ false
any_none p test each [] h = refl
any_none p test each (e ∷ es) h =
    let both = split (is_step p e.act) (is_none_in (is_step p) es) h in
    rw (each e.act both.first) (any_none p test each es both.others)

all_zero : (p : ℕ) (test : Act → Bool) → ((act : Act) → is_step p act ≡ false → test act ≡ false) → (history : List Entry) → is_none_in (is_step p) history ≡ true → is_none_in test history ≡ true
all_zero p test each [] h = refl
all_zero p test each (e ∷ es) h =
    let both = split (is_step p e.act) (is_none_in (is_step p) es) h in
    rw (each e.act both.first) (all_zero p test each es both.others)

no_reasons : (p : ℕ) (history : List Entry) → is_none_in (is_step p) history ≡ true → filter_map (λ e. failure p e.act) history ≡ []
no_reasons p [] h = refl
no_reasons p (e ∷ es) h =
    let both = split (is_step p e.act) (is_none_in (is_step p) es) h in
    rw (no_failure p e.act both.first) (no_reasons p es both.others)

-- ---- the payment

abbrev row_with : PaymentMade → PaymentState → (step sent fee delivered reason : ℕ) → OutgoingRow
row_with made state step sent fee delivered reason =
    record {
      grant = made.grant;
      quote = made.quote;
      made = made.made;
      expiry = made.expiry;
      terms = made.terms;
      metadata = made.metadata;
      state = state;
      step = step;
      sent = sent;
      fee = fee;
      delivered = delivered;
      reason = reason;
    }

same_row : (made : PaymentMade) (state : PaymentState) (step sent fee delivered reason : ℕ) → state ≡ states.Funding → step ≡ 0 → sent ≡ 0 → fee ≡ 0 → delivered ≡ 0 → reason ≡ 0 → row_with made state step sent fee delivered reason ≡ fresh_row made
same_row made state step sent fee delivered reason a b c d e f = rw (a, b, c, d, e, f) refl

nothing_sent : (terms : Terms) (n : ℕ) → n ≡ 0 → sent_after terms n ≡ 0
nothing_sent terms n none = rw none (omega arith)

state_is : (failed finished funded : Bool) → failed ≡ false → finished ≡ false → funded ≡ false → cond failed states.Failed (cond finished states.Completed (cond funded states.Sending states.Funding)) ≡ states.Funding
state_is failed finished funded a b c = rw (a, b, c) refl

fresh_so_far : (history : List Entry) (p : ℕ) (made : PaymentMade) → step_number history p ≡ 0 → payment_so_far history (p, made) ≡ fresh_row made
fresh_so_far history p made none =
    let unnamed = none_in history p none in
    let pieces : pieces_sent history p ≡ 0
    = zero_is (pieces_sent history p) (sum_by-zero (λ e. cond (is_piece p e.act) 1 0) history ∙ all_zero p (is_piece p) (no_piece p) history unnamed) in
    let reasons : fail_reason history p ≡ None = rw (no_reasons p history unnamed) refl in
    let state = state_is (is_some (fail_reason history p)) _ _ (ap is_some reasons)
    (any_none p (is_last_piece p) (no_last_piece p) history unnamed) (any_none p (is_funding p) (no_funding p) history unnamed) in
    let sent = nothing_sent made.terms (pieces_sent history p) pieces in
    same_row made _ _ _ _ _ _ state none sent (ap (λ s. share made.terms.fee s made.terms.source) sent ∙ zero_share made.terms.fee made.terms.source)
    (ap (λ s. floor_mul s made.terms.num made.terms.den) sent ∙ zero_floor made.terms.num made.terms.den) (ap reason_number reasons)

-- ---- the entries

behind_made : (history : List Entry) (e : Entry) (made : PaymentMade) → outgoings (history ++ e ∷ []) ≡ outgoings history ++ payment_so_far history (1 + length (payments_made history), made) ∷ [] → IsNextUnstepped history → outgoings (history ++ e ∷ []) ≡ outgoings history ++ fresh_row made ∷ []
behind_made history e made more none = more ∙ ap (λ row. outgoings history ++ row ∷ []) (fresh_so_far history (1 + length (payments_made history)) made none)

pub made_rows : (history : List Entry) (t q grant : ℕ) (metadata : Option (List ℕ)) (quote : QuoteRow) → quote_row history q ≡ Some quote → IsNextUnstepped history → outgoings (history ++ record { at = t; act = acts.OutgoingMade grant q metadata } ∷ []) ≡ outgoings history ++ fresh_row (made_from_quote t grant q metadata quote) ∷ []
made_rows history t q grant metadata quote found none =
    let e : Entry = record { at = t; act = acts.OutgoingMade grant q metadata } in
    let adds = ap (λ o. option_to_list (option_map (made_from_quote t grant q metadata) o)) found in
    behind_made history e (made_from_quote t grant q metadata quote) (outgoings_made history e (made_from_quote t grant q metadata quote) adds (λ p. refl)) none

pub direct_rows : (history : List Entry) (t grant address incoming : ℕ) (metadata : Option (List ℕ)) (price : Priced) → IsNextUnstepped history → outgoings (history ++ record { at = t; act = direct_act grant address incoming price metadata } ∷ []) ≡ outgoings history ++ fresh_row (made_directly t grant metadata (terms_at history address incoming price)) ∷ []
direct_rows history t grant address incoming metadata price none =
    let e : Entry = record { at = t; act = direct_act grant address incoming price metadata } in
    let made = made_directly t grant metadata (terms_at history address incoming price) in
    behind_made history e made (outgoings_made history e made refl (λ p. refl)) none
