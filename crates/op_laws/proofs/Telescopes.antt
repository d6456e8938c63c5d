-- The pieces of a payment sum up to what was sent, charged and delivered.
use Rattle.std.proofs.Common.{◌≡◌, ℕ, zero, suc, ◌+◌, ◌-◌, ◌*◌, ◌/◌, ◌<◌, ◌≤◌, Bool, true, false, cond, List, [], ◌∷◌, ◌++◌, refl, ◌∙◌, sym, ap, subst, arith, Some, None, Option, sum_by, append-nil}
use Rattle.std.specs.Prelude.{◌||◌, MatchOption, is_some}
use Rattle.std.specs.Option.{option_map, option_map_or}
use Rattle.std.proofs.lemmas.List.Sums.{sum_by-append}
use Rattle.std.proofs.Math.Nat.{mul-div_cancel, div-le_of_le-mul}
use Rattle.op_amount.specs.Rates.{share, floor_mul}
use Rattle.op_model.specs.Balances.{Movement, payer_leg, payee_leg, growth_legs, is_within_one_asset}
use Rattle.op_model.specs.History.{along, nth, address_asset}
use Rattle.op_model.specs.Laws.{payer_legs, payee_legs, AreOn, IsDebited, IsDelivered}
use Rattle.op_model.specs.Legal.{IsLegal, IsNext}
use Rattle.op_model.specs.Payments.{PaymentMade, payments_made, payment_added, payment_so_far, is_piece, is_step, is_funding, failure, pieces_sent, sent_after, fee_after, delivered_after}
use Rattle.op_model.specs.declared.act.Account.TheVariants.{Wallet}
use Rattle.op_model.specs.declared.act.Act.{Act}
use Rattle.op_model.specs.declared.act.Entry.{Entry}
use Rattle.op_model.specs.declared.row.OutgoingRow.{OutgoingRow}
use Rattle.op_model.specs.declared.row.Terms.{Terms}
use Rattle.op_model.proofs.Next.{along-next, payments_made-next, pieces_sent-next}
use Rattle.op_model.proofs.Payments.{sent_after-next}
use Rattle.op_model.proofs.LegalNext.{legal-next}
use Rattle.op_laws.proofs.Floors.{floor-le}
use Rattle.op_laws.proofs.Floors.{share-le, zero_share}
use Rattle.op_legal.proofs.Chains.{none_is_not, some_is}
use Rattle.op_laws.specs.Keep.{PaymentsDebitAndDeliver}
use Rattle.op_legal.proofs.Induction.{legal_induction}
use Rattle.op_laws.proofs.Known.{AreKnown, all_known, outgoing_is, step_none}
use Rattle.op_laws.proofs.Lists.{each_append, each_at, nth_front, nth_kept, numbers_same, or_left}
use Rattle.op_laws.proofs.MakingActs.{AreGood}
use Rattle.op_laws.proofs.Pieces.{growth_is, piece_adds_none}

-- ---- how far n pieces come

pub sent_grows : (terms : Terms) (n : ℕ) → (sent_after terms n ≤ sent_after terms (n + 1)) × (sent_after terms (n + 1) ≤ terms.source)
sent_grows terms n = let next = sent_after-next terms n in (omega (arith, next), omega arith)

plain_floor : (s num den : ℕ) → num ≡ 1 → den ≡ 1 → floor_mul s num den ≡ s
plain_floor s num den one same =
    ap (λ n. s * n / den) one ∙ ap (λ d. s * 1 / d) same ∙ mul-div_cancel s (omega arith)

paid_sum : (sum sent fee more_sent more_fee : ℕ) → sum ≡ sent + fee → sent ≤ more_sent → fee ≤ more_fee → sum + ((more_sent - sent) + (more_fee - fee)) ≡ more_sent + more_fee
paid_sum sum sent fee more_sent more_fee is a b = omega (arith, is, a, b)

got_sum : (sum came got more : ℕ) → sum ≡ got → came ≡ more - got → got ≤ more → sum + came ≡ more
got_sum sum came got more is more_is le = omega (arith, is, more_is, le)

-- ---- what holds of a payment that is made, and of one that is not

record IsPaidFor (history : List Entry) (p : ℕ) (m : PaymentMade) : Type 0 where
  payer : AreOn (Wallet m.terms.payer) (along (payer_legs p) history)
  debited : sum_by (λ m. m.went) (along (payer_legs p) history) ≡ sent_after m.terms (pieces_sent history p) + fee_after m.terms (pieces_sent history p)
  payee : AreOn (Wallet m.terms.payee) (along (payee_legs p) history)
  delivered : sum_by (λ m. m.came) (along (payee_legs p) history) ≡ delivered_after m.terms (pieces_sent history p)

record IsUnpaid (history : List Entry) (p : ℕ) : Type 0 where
  no_payer : along (payer_legs p) history ≡ []
  no_payee : along (payee_legs p) history ≡ []
  pieces : pieces_sent history p ≡ 0

record ArePaid (history : List Entry) : Type 0 where
  made : (p : ℕ) (m : PaymentMade) → nth (payments_made history) p ≡ Some m → IsPaidFor history p m
  unmade : (p : ℕ) → nth (payments_made history) p ≡ None → IsUnpaid history p

zero_floor : (num den : ℕ) → 0 < den → floor_mul 0 num den ≡ 0
zero_floor num den some = let none : 0 * num / den ≤ 0 = div-le_of_le-mul den (omega arith) in omega arith

fresh : (history : List Entry) (p : ℕ) (m : PaymentMade) → 0 < m.terms.den → IsUnpaid history p → IsPaidFor history p m
fresh history p m some is =
    let terms = m.terms in
    let sent : sent_after terms 0 ≡ 0 = omega arith in
    let fee : fee_after terms 0 ≡ 0 = ap (λ s. share terms.fee s terms.source) sent ∙ zero_share terms.fee terms.source in
    let nothing : delivered_after terms 0 ≡ 0 = ap (λ s. floor_mul s terms.num terms.den) sent ∙ zero_floor terms.num terms.den some in
    let both : sent_after terms 0 + fee_after terms 0 ≡ 0 = omega (arith, sent, fee) in
    record {
      payer = subst (AreOn (Wallet terms.payer)) (sym is.no_payer) tt;
      debited = ap (λ (l : List Movement). sum_by (λ m. m.went) l) is.no_payer ∙ sym both ∙ ap (λ n. sent_after terms n + fee_after terms n) (sym is.pieces);
      payee = subst (AreOn (Wallet terms.payee)) (sym is.no_payee) tt;
      delivered = ap (λ (l : List Movement). sum_by (λ m. m.came) l) is.no_payee ∙ sym nothing ∙ ap (λ n. delivered_after terms n) (sym is.pieces);
    }

-- ---- an entry that is no piece of p

no_legs : (history : List Entry) (e : Entry) (p : ℕ) → is_piece p e.act ≡ false → (payer_legs p history e ≡ []) × (payee_legs p history e ≡ [])
no_legs history e p h = (
  ap (λ b. cond b (growth_legs (λ old new. payer_leg old new ∷ []) history e p) []) h,
  ap (λ b. cond b (growth_legs (λ old new. payee_leg history old new ∷ []) history e p) []) h,
)

along_stays : (add : List Entry → Entry → List Movement) (history : List Entry) (e : Entry) → add history e ≡ [] → along add (history ++ e ∷ []) ≡ along add history
along_stays add history e none = along-next add history e ∙ ap (λ (l : List Movement). along add history ++ l) none ∙ append-nil (along add history)

pieces_stay : (history : List Entry) (e : Entry) (p : ℕ) → is_piece p e.act ≡ false → pieces_sent (history ++ e ∷ []) p ≡ pieces_sent history p
pieces_stay history e p h = let next = pieces_sent-next history e p ∙ ap (λ b. pieces_sent history p + cond b 1 0) h in omega (arith, next)

unpaid_stays : (history : List Entry) (e : Entry) (p : ℕ) → is_piece p e.act ≡ false → IsUnpaid history p → IsUnpaid (history ++ e ∷ []) p
unpaid_stays history e p h is =
    let none = no_legs history e p h in
    record {
      no_payer = along_stays (payer_legs p) history e none.0 ∙ is.no_payer;
      no_payee = along_stays (payee_legs p) history e none.1 ∙ is.no_payee;
      pieces = pieces_stay history e p h ∙ is.pieces;
    }

paid_stays : (history : List Entry) (e : Entry) (p : ℕ) (m : PaymentMade) → is_piece p e.act ≡ false → IsPaidFor history p m → IsPaidFor (history ++ e ∷ []) p m
paid_stays history e p m h is =
    let none = no_legs history e p h in
    let terms = m.terms in
    let from = along_stays (payer_legs p) history e none.0 in
    let into = along_stays (payee_legs p) history e none.1 in
    let n = pieces_stay history e p h in
    record {
      payer = subst (AreOn (Wallet terms.payer)) (sym from) is.payer;
      debited = ap (λ (l : List Movement). sum_by (λ m. m.went) l) from ∙ is.debited ∙ ap (λ k. sent_after terms k + fee_after terms k) (sym n);
      payee = subst (AreOn (Wallet terms.payee)) (sym into) is.payee;
      delivered = ap (λ (l : List Movement). sum_by (λ m. m.came) l) into ∙ is.delivered ∙ ap (λ k. delivered_after terms k) (sym n);
    }

-- ---- a piece of p

one_more : (f : Movement → ℕ) (xs : List Movement) (m : Movement) → sum_by f (xs ++ m ∷ []) ≡ sum_by f xs + f m
one_more f xs m = let e : sum_by f (m ∷ []) ≡ f m = omega arith in sum_by-append f xs (m ∷ []) ∙ ap (λ n. sum_by f xs + n) e

came_where : (one : Bool) (sent delivered : ℕ) → (one ≡ true → sent ≡ delivered) → cond one sent delivered ≡ delivered
came_where true sent delivered h = h refl
came_where false sent delivered h = refl

piece_more : (history : List Entry) (e : Entry) (p : ℕ) (m : PaymentMade) → AreGood history m.terms → nth (payments_made history) p ≡ Some m → is_piece p e.act ≡ true → IsPaidFor history p m → IsPaidFor (history ++ e ∷ []) p m
piece_more history e p m good there h is =
    let terms = m.terms in
    let next : List Entry = history ++ e ∷ [] in
    let old : OutgoingRow = payment_so_far history (p, m) in
    let new : OutgoingRow = payment_so_far next (p, m) in
    let none = piece_adds_none history e.at p e.act h in
    let n = pieces_sent history p in
    let more : pieces_sent next p ≡ n + 1 = pieces_sent-next history e p ∙ ap (λ b. n + cond b 1 0) h in
    let from : along (payer_legs p) next ≡ along (payer_legs p) history ++ payer_leg old new ∷ [] =
    along-next (payer_legs p) history e
    ∙ ap (λ b. along (payer_legs p) history ++ cond b (growth_legs (λ old new. payer_leg old new ∷ []) history e p) []) h
    ∙ ap (λ (l : List Movement). along (payer_legs p) history ++ l) (growth_is (λ old new. payer_leg old new ∷ []) history e p none)
    ∙ ap (λ (o : Option PaymentMade). along (payer_legs p) history ++ option_map_or (λ m. payer_leg (payment_so_far history (p, m)) (payment_so_far next (p, m)) ∷ []) o []) there in
    let into : along (payee_legs p) next ≡ along (payee_legs p) history ++ payee_leg history old new ∷ [] =
    along-next (payee_legs p) history e
    ∙ ap (λ b. along (payee_legs p) history ++ cond b (growth_legs (λ old new. payee_leg history old new ∷ []) history e p) []) h
    ∙ ap (λ (l : List Movement). along (payee_legs p) history ++ l) (growth_is (λ old new. payee_leg history old new ∷ []) history e p none)
    ∙ ap (λ (o : Option PaymentMade). along (payee_legs p) history ++ option_map_or (λ m. payee_leg history (payment_so_far history (p, m)) (payment_so_far next (p, m)) ∷ []) o []) there in
    let sent : new.sent ≡ sent_after terms (n + 1) = ap (sent_after terms) more in
    let fee : new.fee ≡ fee_after terms (n + 1) = ap (fee_after terms) more in
    let delivered : new.delivered ≡ delivered_after terms (n + 1) = ap (delivered_after terms) more in
    let sent_le : old.sent ≤ sent_after terms (n + 1) = (sent_grows terms n).0 in
    let fee_le : old.fee ≤ fee_after terms (n + 1) = share-le terms.fee (sent_after terms n) (sent_after terms (n + 1)) terms.source sent_le good.some in
    let delivered_le : old.delivered ≤ delivered_after terms (n + 1) = floor-le (sent_after terms n) (sent_after terms (n + 1)) terms.num terms.den sent_le good.den in
    let plain : is_within_one_asset history new ≡ true → new.sent - old.sent ≡ new.delivered - old.delivered =
    λ one.
    let rate = good.plain (numbers_same (address_asset history terms.payer) (address_asset history terms.payee) one) in
    let after : new.delivered ≡ new.sent = plain_floor new.sent terms.num terms.den rate.0 rate.1 in
    let before : old.delivered ≡ old.sent = plain_floor old.sent terms.num terms.den rate.0 rate.1 in
    omega (arith, after, before) in
    let came : (payee_leg history old new).came ≡ new.delivered - old.delivered = came_where (is_within_one_asset history new) (new.sent - old.sent) (new.delivered - old.delivered) plain in
    let debits = ap (λ (l : List Movement). sum_by (λ m. m.went) l) from ∙ one_more (λ m. m.went) (along (payer_legs p) history) (payer_leg old new) in
    let delivers = ap (λ (l : List Movement). sum_by (λ m. m.came) l) into ∙ one_more (λ m. m.came) (along (payee_legs p) history) (payee_leg history old new) in
    let was_sent : old.sent ≡ sent_after terms n = refl in
    let was_fee : old.fee ≡ fee_after terms n = refl in
    let was_delivered : old.delivered ≡ delivered_after terms n = refl in
    let went : (payer_leg old new).went ≡ (new.sent - old.sent) + (new.fee - old.fee) = refl in
    record {
      payer = subst (AreOn (Wallet terms.payer)) (sym from) (each_append (λ (x : Movement). x.account ≡ Wallet terms.payer) (along (payer_legs p) history) (payer_leg old new ∷ []) is.payer (refl, tt));
      debited = debits ∙ paid_sum (sum_by (λ m. m.went) (along (payer_legs p) history)) old.sent old.fee new.sent new.fee is.debited (subst (λ x. old.sent ≤ x) (sym sent) sent_le) (subst (λ x. old.fee ≤ x) (sym fee) fee_le);
      payee = subst (AreOn (Wallet terms.payee)) (sym into) (each_append (λ (x : Movement). x.account ≡ Wallet terms.payee) (along (payee_legs p) history) (payee_leg history old new ∷ []) is.payee (refl, tt));
      delivered = delivers ∙ got_sum (sum_by (λ m. m.came) (along (payee_legs p) history)) (payee_leg history old new).came old.delivered new.delivered is.delivered came (subst (λ x. old.delivered ≤ x) (sym delivered) delivered_le);
    }

-- ---- every entry

step_of_piece : (p : ℕ) (act : Act) → is_step p act ≡ false → is_piece p act ≡ false
step_of_piece p act h = or_left (is_piece p act) (is_funding p act || is_some (failure p act)) h

paid_where : (history : List Entry) (e : Entry) (p : ℕ) (m : PaymentMade) (piece : Bool) → is_piece p e.act ≡ piece → AreGood history m.terms → nth (payments_made history) p ≡ Some m → IsPaidFor history p m → IsPaidFor (history ++ e ∷ []) p m
paid_where history e p m true h good there is = piece_more history e p m good there h is
paid_where history e p m false h good there is = paid_stays history e p m h is

made_where : (history : List Entry) (e : Entry) (p : ℕ) (m : PaymentMade) (found : Option PaymentMade) → AreKnown history → AreKnown (history ++ e ∷ []) → IsNext history e → ArePaid history → nth (payments_made history) p ≡ found → nth (payments_made (history ++ e ∷ [])) p ≡ Some m → IsPaidFor (history ++ e ∷ []) p m
made_where history e p m None known later next paid was is =
    let piece = step_of_piece p e.act (step_none history e p (is_step p e.act) refl next was) in
    let good = each_at (λ (m : PaymentMade). AreGood (history ++ e ∷ []) m.terms) (payments_made (history ++ e ∷ [])) p m later.payments_are is in
    fresh (history ++ e ∷ []) p m good.den (unpaid_stays history e p piece (paid.unmade p was))
made_where history e p m (Some x) known later next paid was is =
    let kept : nth (payments_made (history ++ e ∷ [])) p ≡ Some x = ap (λ (l : List PaymentMade). nth l p) (payments_made-next history e) ∙ nth_kept (payments_made history) (payment_added history e.at e.act) p x was in
    let same : x ≡ m = some_is x m (sym kept ∙ is) in
    let good = each_at (λ (m : PaymentMade). AreGood history m.terms) (payments_made history) p x known.payments_are was in
    subst (IsPaidFor (history ++ e ∷ []) p) same (paid_where history e p x (is_piece p e.act) refl good was (paid.made p x was))

paid_next : (history : List Entry) (e : Entry) → AreKnown history → AreKnown (history ++ e ∷ []) → IsNext history e → ArePaid history → ArePaid (history ++ e ∷ [])
paid_next history e known later next paid = record {
  made = λ p m is. made_where history e p m (nth (payments_made history) p) known later next paid refl is;
  unmade =
      λ p none.
      let before : nth (payments_made history) p ≡ None = nth_front (payments_made history) (payment_added history e.at e.act) p (ap (λ (rows : List PaymentMade). nth rows p) (sym (payments_made-next history e)) ∙ none) in
      unpaid_stays history e p (step_of_piece p e.act (step_none history e p (is_step p e.act) refl next before)) (paid.unmade p before);
}

none_got : {X : Type 0} (n : ℕ) (x : X) → nth [] n ≡ Some x → None ≡ Some x
none_got zero x h = h
none_got (suc n) x h = h

all_made : (history : List Entry) → IsLegal history → ArePaid history
all_made = legal_induction ArePaid
    (record { made = λ p m is. none_is_not m (none_got p m is); unmade = λ p none. record { no_payer = refl; no_payee = refl; pieces = refl } })
    (λ history e legal next paid. paid_next history e (all_known history legal) (all_known (history ++ e ∷ []) ((legal-next history e).1 (legal, next))) next paid)

debited_where : (history : List Entry) (p : ℕ) (found : Option PaymentMade) → ((m : PaymentMade) → found ≡ Some m → IsPaidFor history p m) → MatchOption (option_map (λ m. payment_so_far history (p, m)) found) (Unit {0}) (IsDebited history p)
debited_where history p None each = tt
debited_where history p (Some m) each = let is = each m refl in record { payer = is.payer; value = is.debited }

delivered_where : (history : List Entry) (p : ℕ) (found : Option PaymentMade) → ((m : PaymentMade) → found ≡ Some m → IsPaidFor history p m) → MatchOption (option_map (λ m. payment_so_far history (p, m)) found) (Unit {0}) (IsDelivered history p)
delivered_where history p None each = tt
delivered_where history p (Some m) each = let is = each m refl in record { payee = is.payee; value = is.delivered }

pub all_paid : PaymentsDebitAndDeliver
all_paid history legal = (
  λ p. subst (λ (o : Option OutgoingRow). MatchOption o (Unit {0}) (IsDebited history p)) (sym (outgoing_is history p)) (debited_where history p (nth (payments_made history) p) (λ m is. (all_made history legal).made p m is)),
  λ p. subst (λ (o : Option OutgoingRow). MatchOption o (Unit {0}) (IsDelivered history p)) (sym (outgoing_is history p)) (delivered_where history p (nth (payments_made history) p) (λ m is. (all_made history legal).made p m is)),
)
