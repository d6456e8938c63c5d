-- Assets, addresses, deposits and withdrawals, on money that is its history's.
use Rattle.std.proofs.Common.{◌≡◌, ℕ, ◌+◌, List, [], ◌∷◌, ◌++◌, map, length, refl, ◌∙◌, sym, ap, subst, arith, Option, IsTrue}
use Rattle.std.specs.Prelude.{not}
use Rattle.std.proofs.lemmas.List.{map-append, length_push}
use Rattle.op_incoming.specs.declared.incoming.Incoming.{Incoming}
use Rattle.op_ledger.specs.Balances.{LedgerValue, is_there, opened}
use Rattle.op_ledger.specs.Runs.{Deposited, Withdrawn, after_call}
use Rattle.op_laws.proofs.Placed.{all_placed}
use Rattle.op_model.specs.History.{AssetRow, AddressRow, assets, addresses}
use Rattle.op_model.specs.Legal.{IsNext}
use Rattle.op_model.specs.declared.act.Account.{Account}
use Rattle.op_model.specs.declared.act.Account.TheVariants.{Wallet}
use Rattle.op_model.specs.declared.act.Act.TheVariants as acts
use Rattle.op_model.specs.declared.act.Entry.{Entry}
use Rattle.op_model.proofs.LegalNext.{legal-next}
use Rattle.op_model.proofs.Next.{assets-next, addresses-next}
use Rattle.op_model.proofs.SumsNext.{held_stays}
use Rattle.op_outgoing.specs.Value.{OutgoingsValue}
use Rattle.op_paying.specs.Ledgers.{StandsAs, AreOpen}
use Rattle.op_paying.specs.Money.{AreIncomings, IsMoneyOf}
use Rattle.op_paying.specs.declared.money.Money.{Money}
use Rattle.op_paying.proofs.Moving.{deposit_stands, withdrawal_stands}
use Rattle.op_paying.proofs.Opening.{asset_stands, address_stands, none_next}
use Rattle.op_paying.proofs.Stays.{assets_stay, addresses_stay, names_stay}
use Rattle.op_paying.proofs.Untouched.{AddsNoPayment, money_next, payments_stay, incomings_stay, quotes_stay}

-- the payments are as they were
pub record SamePayments (old new : Money) : Type 0 where
  pub incomings_are : new.incomings ≡ old.incomings
  pub outgoings_are : new.outgoings ≡ old.outgoings

-- ---- an asset

pub asset_money : (history : List Entry) (t : ℕ) (code : List ℕ) (scale pieces : ℕ) (old new : Money) (between : LedgerValue) → IsMoneyOf history old → IsNext history (record { at = t; act = acts.AssetAdded code scale pieces })
    → StandsAs history between → AreOpen between (1 + length (assets history)) → new.ledger ≡ between → SamePayments old new → new.pieces.items ≡ old.pieces.items ++ pieces ∷ [] → new.addresses ≡ old.addresses
    → IsMoneyOf (history ++ record { at = t; act = acts.AssetAdded code scale pieces } ∷ []) new
asset_money history t code scale pieces old new between is next stands open_now ledger_is same pieces_are counted =
    let e : Entry = record { at = t; act = acts.AssetAdded code scale pieces } in
    let row : AssetRow = record { asset = record { code = code; scale = scale }; pieces = pieces } in
    let payments : AddsNoPayment e.act = record { payment = λ s u. refl; step = λ p. refl } in
    let stay = payments_stay history e payments in
    let added : assets (history ++ e ∷ []) ≡ assets history ++ row ∷ [] = assets-next history e in
    record {
      legal = (legal-next history e).1 (is.legal, next);
      stands =
          subst (λ (v : LedgerValue). StandsAs (history ++ e ∷ []) v) (sym ledger_is)
          (asset_stands history e between row stands refl (λ a. held_stays history (history ++ e ∷ []) a stay) added (addresses_stay history e refl) open_now.outside open_now.pool open_now.fees);
      received =
          subst (λ (l : List Incoming). AreIncomings (history ++ e ∷ []) l) (sym same.incomings_are)
          (incomings_stay history e old.incomings (record { incoming = λ u. refl; closes = λ i. refl; completes = λ i. refl }) stay is.received);
      payments_are = ap (λ (o : OutgoingsValue). o.rows) same.outgoings_are ∙ is.payments_are ∙ sym stay;
      quotes_are = ap (λ (o : OutgoingsValue). o.quotes) same.outgoings_are ∙ is.quotes_are ∙ sym (quotes_stay history e (λ s u. refl));
      pieces_are =
          pieces_are ∙ ap (λ l. l ++ pieces ∷ []) is.pieces_are
          ∙ sym (map-append (λ (r : AssetRow). r.pieces) (assets history) (row ∷ [])) ∙ ap (λ (l : List AssetRow). map (λ r. r.pieces) l) (sym added);
      counted = counted ∙ is.counted ∙ ap (λ (l : List AddressRow). length l) (sym (addresses_stay history e refl));
    }

-- ---- an address

pub wallet_fresh : (history : List Entry) (money : Money) (n : ℕ) → IsMoneyOf history money → n ≡ money.addresses + 1 → IsTrue (not (is_there money.ledger (Wallet n)))
wallet_fresh history money n is number =
    let last : n ≡ 1 + length (addresses history) = omega (arith, number, is.counted) in
    ap not (is.stands.wallets n ∙ none_next (addresses history) n last)

pub address_money : (history : List Entry) (t : ℕ) (path : List ℕ) (asset : ℕ) (name : Option (List ℕ)) (n : ℕ) (old new : Money) → IsMoneyOf history old → IsNext history (record { at = t; act = acts.AddressAdded path asset name })
    → n ≡ old.addresses + 1 → new.ledger ≡ opened old.ledger (Wallet n) asset → SamePayments old new → new.pieces.items ≡ old.pieces.items → new.addresses ≡ n
    → IsMoneyOf (history ++ record { at = t; act = acts.AddressAdded path asset name } ∷ []) new
address_money history t path asset name n old new is next number ledger_is same pieces_are counted =
    let e : Entry = record { at = t; act = acts.AddressAdded path asset name } in
    let row : AddressRow = record { path = path; asset = asset; name = name } in
    let payments : AddsNoPayment e.act = record { payment = λ s u. refl; step = λ p. refl } in
    let stay = payments_stay history e payments in
    let added : addresses (history ++ e ∷ []) ≡ addresses history ++ row ∷ [] = addresses-next history e in
    let last : n ≡ 1 + length (addresses history) = omega (arith, number, is.counted) in
    record {
      legal = (legal-next history e).1 (is.legal, next);
      stands =
          subst (λ (v : LedgerValue). StandsAs (history ++ e ∷ []) v) (sym ledger_is)
          (address_stands history e old.ledger row n is.stands refl (λ a. held_stays history (history ++ e ∷ []) a stay) (wallet_fresh history old n is number, tt) last added (assets_stay history e refl));
      received =
          subst (λ (l : List Incoming). AreIncomings (history ++ e ∷ []) l) (sym same.incomings_are)
          (incomings_stay history e old.incomings (record { incoming = λ u. refl; closes = λ i. refl; completes = λ i. refl }) stay is.received);
      payments_are = ap (λ (o : OutgoingsValue). o.rows) same.outgoings_are ∙ is.payments_are ∙ sym stay;
      quotes_are = ap (λ (o : OutgoingsValue). o.quotes) same.outgoings_are ∙ is.quotes_are ∙ sym (quotes_stay history e (λ s u. refl));
      pieces_are = pieces_are ∙ is.pieces_are ∙ ap (λ (l : List AssetRow). map (λ row. row.pieces) l) (sym (assets_stay history e refl));
      counted = counted ∙ omega (arith, last, ap (λ (l : List AddressRow). length l) added, length_push (addresses history) row);
    }

-- ---- deposits and withdrawals

pub deposit_money : (history : List Entry) (t : ℕ) (id : List ℕ) (account : Account) (value : ℕ) (old new : Money) → IsMoneyOf history old → IsNext history (record { at = t; act = acts.Deposited id account value })
    → new.ledger ≡ after_call old.ledger (Deposited account value) → SamePayments old new → new.pieces.items ≡ old.pieces.items → new.addresses ≡ old.addresses → IsMoneyOf (history ++ record { at = t; act = acts.Deposited id account value } ∷ []) new
deposit_money history t id account value old new is next ledger_is same pieces_are counted =
    let e : Entry = record { at = t; act = acts.Deposited id account value } in
    let payments : AddsNoPayment e.act = record { payment = λ s u. refl; step = λ p. refl } in
    let stay = payments_stay history e payments in
    money_next history e old new is next (record { asset = refl; address = refl }) pieces_are counted
    (record {
      stands =
          subst (λ (v : LedgerValue). StandsAs (history ++ e ∷ []) v) (sym ledger_is)
          (deposit_stands history old.ledger t id account value is.stands (all_placed history is.legal) next (names_stay history e refl refl) stay);
      received =
          subst (λ (l : List Incoming). AreIncomings (history ++ e ∷ []) l) (sym same.incomings_are)
          (incomings_stay history e old.incomings (record { incoming = λ u. refl; closes = λ i. refl; completes = λ i. refl }) stay is.received);
      payments_are = ap (λ (o : OutgoingsValue). o.rows) same.outgoings_are ∙ is.payments_are ∙ sym stay;
      quotes_are = ap (λ (o : OutgoingsValue). o.quotes) same.outgoings_are ∙ is.quotes_are ∙ sym (quotes_stay history e (λ s u. refl));
    })

pub withdrawal_money : (history : List Entry) (t : ℕ) (id : List ℕ) (account : Account) (value : ℕ) (old new : Money) → IsMoneyOf history old → IsNext history (record { at = t; act = acts.Withdrawn id account value })
    → new.ledger ≡ after_call old.ledger (Withdrawn account value) → SamePayments old new → new.pieces.items ≡ old.pieces.items → new.addresses ≡ old.addresses → IsMoneyOf (history ++ record { at = t; act = acts.Withdrawn id account value } ∷ []) new
withdrawal_money history t id account value old new is next ledger_is same pieces_are counted =
    let e : Entry = record { at = t; act = acts.Withdrawn id account value } in
    let payments : AddsNoPayment e.act = record { payment = λ s u. refl; step = λ p. refl } in
    let stay = payments_stay history e payments in
    money_next history e old new is next (record { asset = refl; address = refl }) pieces_are counted
    (record {
      stands =
          subst (λ (v : LedgerValue). StandsAs (history ++ e ∷ []) v) (sym ledger_is)
          (withdrawal_stands history old.ledger t id account value is.stands (all_placed history is.legal) next (names_stay history e refl refl) stay);
      received =
          subst (λ (l : List Incoming). AreIncomings (history ++ e ∷ []) l) (sym same.incomings_are)
          (incomings_stay history e old.incomings (record { incoming = λ u. refl; closes = λ i. refl; completes = λ i. refl }) stay is.received);
      payments_are = ap (λ (o : OutgoingsValue). o.rows) same.outgoings_are ∙ is.payments_are ∙ sym stay;
      quotes_are = ap (λ (o : OutgoingsValue). o.quotes) same.outgoings_are ∙ is.quotes_are ∙ sym (quotes_stay history e (λ s u. refl));
    })
