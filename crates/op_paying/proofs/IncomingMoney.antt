-- Incoming payments that are made, completed or expire, on money that is its history's.
use Rattle.std.proofs.Common.{◌≡◌, ℕ, Bool, true, false, ◌&&◌, List, [], ◌∷◌, ◌++◌, refl, ◌∙◌, sym, ap, subst, Some, None, Option}
use Rattle.std.specs.Prelude.{◌==◌, is_some}
use Rattle.std.specs.Option.{option_map, option_map_or}
use Rattle.op_incoming.specs.Rows.{made, closed_as, row_is, has_row, is_open_at, is_due_at, is_unclosed}
use Rattle.op_incoming.specs.declared.incoming.Closing.TheVariants as closings
use Rattle.op_incoming.specs.declared.incoming.Incoming.{Incoming}
use Rattle.op_incoming.proofs.ModelLemmas.{payments_are_defined}
use Rattle.op_laws.proofs.Placed.{all_placed}
use Rattle.op_legal.proofs.Names.{both_left}
use Rattle.op_model.specs.History.{nth, with_item}
use Rattle.op_model.specs.Incoming.{is_open, is_due}
use Rattle.op_model.specs.Legal.{IsNext}
use Rattle.op_model.specs.Payments.{incomings, incoming_made, incoming_row}
use Rattle.op_model.specs.Steps.{is_incoming_due}
use Rattle.op_model.specs.declared.act.Act.TheVariants as acts
use Rattle.op_model.specs.declared.act.Entry.{Entry}
use Rattle.op_model.specs.declared.row.IncomingRow.{IncomingRow}
use Rattle.op_model.proofs.Next.{incomings-next}
use Rattle.op_outgoing.specs.Value.{OutgoingsValue}
use Rattle.op_paying.specs.Ledgers.{StandsAs}
use Rattle.op_paying.specs.Money.{AreIncomings, IsMoneyOf}
use Rattle.op_paying.specs.declared.money.Money.{Money}
use Rattle.op_paying.proofs.Closing.{closed_incomings, made_incomings}
use Rattle.op_paying.proofs.Facts.{IsOpenThere}
use Rattle.op_paying.proofs.StepReplies.{row_at, some_map}
use Rattle.op_paying.proofs.Stays.{nothing_more}
use Rattle.op_paying.proofs.Untouched.{AddsNoNames, AddsNoPayment, AddsNoQuote, MovesNothing, money_next, payments_stay, quotes_stay, ledger_stays}

-- ---- an incoming payment of the history, as it is kept

pub kept_there : (history : List Entry) (rows : List Incoming) (i : ℕ) (row : IncomingRow) → AreIncomings history rows → incoming_row history i ≡ Some row → has_row rows i ≡ true
kept_there history rows i row are there = sym (some_map (λ (x : Incoming). x.row) (nth rows i)) ∙ ap is_some (sym (row_at history rows i are) ∙ there)

pub kept_some : (history : List Entry) (rows : List Incoming) (i : ℕ) → AreIncomings history rows → is_some (incoming_row history i) ≡ true → has_row rows i ≡ true
kept_some history rows i are some = sym (some_map (λ (x : Incoming). x.row) (nth rows i)) ∙ ap is_some (sym (row_at history rows i are)) ∙ some

open_where : (history : List Entry) (rows : List Incoming) (i t : ℕ) (found : Option Incoming) → AreIncomings history rows → nth rows i ≡ found → option_map_or (is_open_at t) found false ≡ option_map_or (λ r. is_open history i r t) (option_map (λ (x : Incoming). x.row) found) false
open_where history rows i t None are at = refl
open_where history rows i t (Some x) are at = ((payments_are_defined history rows are.rows_are are.each).each i t x at).open_then

pub open_kept : (history : List Entry) (rows : List Incoming) (i t : ℕ) → AreIncomings history rows → row_is (is_open_at t) rows i ≡ option_map_or (λ r. is_open history i r t) (incoming_row history i) false
open_kept history rows i t are = open_where history rows i t (nth rows i) are refl ∙ ap (λ (o : Option IncomingRow). option_map_or (λ r. is_open history i r t) o false) (sym (row_at history rows i are))

due_where : (history : List Entry) (rows : List Incoming) (i t : ℕ) (found : Option Incoming) → AreIncomings history rows → nth rows i ≡ found → option_map_or (is_due_at t) found false ≡ option_map_or (λ r. is_due history i r t) (option_map (λ (x : Incoming). x.row) found) false
due_where history rows i t None are at = refl
due_where history rows i t (Some x) are at = ((payments_are_defined history rows are.rows_are are.each).each i t x at).due_then

pub due_kept : (history : List Entry) (rows : List Incoming) (i t : ℕ) → AreIncomings history rows → row_is (is_due_at t) rows i ≡ is_incoming_due history i t
due_kept history rows i t are = due_where history rows i t (nth rows i) are refl ∙ ap (λ (o : Option IncomingRow). option_map_or (λ r. is_due history i r t) o false) (sym (row_at history rows i are))

pub open_there : (history : List Entry) (rows : List Incoming) (i t : ℕ) → AreIncomings history rows → IsOpenThere history t i → row_is (is_open_at t) rows i ≡ true
open_there history rows i t are is =
    open_kept history rows i t are ∙ ap (λ (o : Option IncomingRow). option_map_or (λ r. is_open history i r t) o false) is.there ∙ is.opened

unclosed_of : (test : Incoming → Bool) (rows : List Incoming) (i : ℕ) (x : Incoming) → ((y : Incoming) → test y ≡ true → is_unclosed y.closing ≡ true) → row_is test rows i ≡ true → nth rows i ≡ Some x → is_unclosed x.closing ≡ true
unclosed_of test rows i x means h at = means x (ap (λ (o : Option Incoming). option_map_or test o false) (sym at) ∙ h)

pub open_unclosed : (rows : List Incoming) (i t : ℕ) (x : Incoming) → row_is (is_open_at t) rows i ≡ true → nth rows i ≡ Some x → is_unclosed x.closing ≡ true
open_unclosed rows i t x h at = unclosed_of (is_open_at t) rows i x (λ y opened. both_left (is_unclosed y.closing) _ (both_left _ _ opened)) h at

pub due_unclosed : (rows : List Incoming) (i t : ℕ) (x : Incoming) → row_is (is_due_at t) rows i ≡ true → nth rows i ≡ Some x → is_unclosed x.closing ≡ true
due_unclosed rows i t x h at = unclosed_of (is_due_at t) rows i x (λ y opened. both_left (is_unclosed y.closing) _ (both_left _ _ opened)) h at

-- ---- behind the entry

-- only the incoming payments differ
pub record OnlyIncomings (old new : Money) (rows : List Incoming) : Type 0 where
  pub incomings_are : new.incomings ≡ rows
  pub ledger_is : new.ledger ≡ old.ledger
  pub outgoings_are : new.outgoings ≡ old.outgoings
  pub pieces_are : new.pieces.items ≡ old.pieces.items
  pub counted : new.addresses ≡ old.addresses

receiving_money : (history : List Entry) (e : Entry) (old new : Money) (rows : List Incoming) → IsMoneyOf history old → IsNext history e → AddsNoNames e.act → AddsNoPayment e.act → AddsNoQuote e.act → MovesNothing e.act → OnlyIncomings old new rows → AreIncomings (history ++ e ∷ []) rows → IsMoneyOf (history ++ e ∷ []) new
receiving_money history e old new rows is next names payments no_quote still only are =
    let same = payments_stay history e payments in
    money_next history e old new is next names only.pieces_are only.counted
    (record {
      stands = subst (λ v. StandsAs (history ++ e ∷ []) v) (sym only.ledger_is) (ledger_stays history e old.ledger names still same is.stands);
      received = subst (λ l. AreIncomings (history ++ e ∷ []) l) (sym only.incomings_are) are;
      payments_are = ap (λ (o : OutgoingsValue). o.rows) only.outgoings_are ∙ is.payments_are ∙ sym same;
      quotes_are = ap (λ (o : OutgoingsValue). o.quotes) only.outgoings_are ∙ is.quotes_are ∙ sym (quotes_stay history e no_quote);
    })

closed_and : (n i : ℕ) → (n == i) ≡ ((n == i) && true)
closed_and n i = with_true (n == i)
  where
    with_true : (b : Bool) → b ≡ (b && true)
    with_true true = refl
    with_true false = refl

not_and : (b : Bool) → false ≡ (b && false)
not_and true = refl
not_and false = refl

pub completed_money : (history : List Entry) (t grant i : ℕ) (old new : Money) → IsMoneyOf history old → IsNext history (record { at = t; act = acts.IncomingCompleted grant i }) → row_is (is_open_at t) old.incomings i ≡ true → OnlyIncomings old new (with_item (closed_as closings.Completed) old.incomings i)
    → IsMoneyOf (history ++ record { at = t; act = acts.IncomingCompleted grant i } ∷ []) new
completed_money history t grant i old new is next opened only =
    let e : Entry = record { at = t; act = acts.IncomingCompleted grant i } in
    let none = nothing_more (incomings history) (incomings (history ++ e ∷ [])) (incoming_made t e.act) (incomings-next history e) refl in
    let payments : AddsNoPayment e.act = record { payment = λ s u. refl; step = λ p. refl } in
    receiving_money history e old new _ is next (record { asset = refl; address = refl }) payments (λ s u. refl) (λ s f. refl) only
    (closed_incomings history e old.incomings i closings.Completed is.received (record { closes = λ k. refl; completes = λ k. closed_and i k; closed = refl }) none (payments_stay history e payments)
    (λ x at. open_unclosed old.incomings i t x opened at))

pub expired_money : (history : List Entry) (t i : ℕ) (old new : Money) → IsMoneyOf history old → IsNext history (record { at = t; act = acts.IncomingExpired i }) → row_is (is_due_at t) old.incomings i ≡ true → OnlyIncomings old new (with_item (closed_as closings.Expired) old.incomings i)
    → IsMoneyOf (history ++ record { at = t; act = acts.IncomingExpired i } ∷ []) new
expired_money history t i old new is next due only =
    let e : Entry = record { at = t; act = acts.IncomingExpired i } in
    let none = nothing_more (incomings history) (incomings (history ++ e ∷ [])) (incoming_made t e.act) (incomings-next history e) refl in
    let payments : AddsNoPayment e.act = record { payment = λ s u. refl; step = λ p. refl } in
    receiving_money history e old new _ is next (record { asset = refl; address = refl }) payments (λ s u. refl) (λ s f. refl) only
    (closed_incomings history e old.incomings i closings.Expired is.received (record { closes = λ k. refl; completes = λ k. not_and (i == k); closed = refl }) none (payments_stay history e payments)
    (λ x at. due_unclosed old.incomings i t x due at))

pub made_money : (history : List Entry) (t grant address : ℕ) (amount : Option ℕ) (expiry : ℕ) (metadata : Option (List ℕ)) (old new : Money) (row : IncomingRow) → IsMoneyOf history old → IsNext history (record { at = t; act = acts.IncomingMade grant address amount expiry metadata })
    → incoming_made t (acts.IncomingMade grant address amount expiry metadata) ≡ Some row → OnlyIncomings old new (made old.incomings row) → IsMoneyOf (history ++ record { at = t; act = acts.IncomingMade grant address amount expiry metadata } ∷ []) new
made_money history t grant address amount expiry metadata old new row is next added only =
    let e : Entry = record { at = t; act = acts.IncomingMade grant address amount expiry metadata } in
    let payments : AddsNoPayment e.act = record { payment = λ s u. refl; step = λ p. refl } in
    receiving_money history e old new _ is next (record { asset = refl; address = refl }) payments (λ s u. refl) (λ s f. refl) only
    (made_incomings history e old.incomings row is.received (all_placed history is.legal) is.legal added (λ i. refl) (payments_stay history e payments))
