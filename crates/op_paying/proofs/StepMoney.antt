-- A step that may follow, taken on money that is its history's.
use Rattle.std.proofs.Common.{◌≡◌, ℕ, Bool, true, false, List, [], ◌∷◌, ◌++◌, refl, ◌∙◌, sym, ap, subst, arith, Some, None, Option, IsTrue, IfSome}
use denote.Ref.{Bor}
use Rattle.std.specs.Prelude.{is_some, ◌||◌, ◌&&◌, not, ◌==◌}
use Rattle.std.specs.Option.{option_map_or, option_copied}
use Rattle.std.proofs.lemmas.Bool.Decides.{nat_tests}
use Rattle.op_incoming.specs.declared.incoming.Incoming.{Incoming}
use Rattle.op_ledger.specs.Balances.{LedgerValue, held_in, asset_in}
use Rattle.op_laws.specs.Placed.{IsPlacedIn}
use Rattle.op_laws.proofs.Placed.{all_placed}
use Rattle.op_legal.proofs.Chains.{none_is_not, some_is}
use Rattle.op_model.specs.Answer.{answer, step_outcome, replied}
use Rattle.op_model.specs.History.{nth, with_item}
use Rattle.op_model.specs.Legal.{IsNext, asked_by, word_of, fee_of}
use Rattle.op_model.specs.Payments.{outgoings, outgoing_row}
use Rattle.op_model.specs.Steps.{step_act, step_answer}
use Rattle.op_model.specs.declared.act.Account.TheVariants.{Wallet}
use Rattle.op_model.specs.declared.act.Act.{Act}
use Rattle.op_model.specs.declared.act.Entry.{Entry}
use Rattle.op_model.specs.declared.reply.ReplyBody.TheVariants as bodies
use Rattle.op_model.specs.declared.reply.StepAnswer.{StepAnswer}
use Rattle.op_model.specs.declared.row.OutgoingRow.{OutgoingRow}
use Rattle.op_model.specs.declared.request.Task.{Task}
use Rattle.op_model.specs.declared.request.Task.TheVariants.{Step}
use Rattle.op_outgoing.specs.Answers.{row_answer, is_within_one_asset}
use Rattle.op_outgoing.specs.Held.{are_accounts_there, is_incoming_there, is_rate_plain, IsCovered, left_of}
use Rattle.op_outgoing.specs.Sound.{IsSoundRow}
use Rattle.op_outgoing.specs.Steps.{stepped_row, stepped_ledger, stepped_incomings}
use Rattle.op_outgoing.specs.Value.{OutgoingsValue, payment_is, has_payment, with_payment}
use Rattle.op_outgoing.proofs.ModelLemmas.{answers_are_defined}
use Rattle.op_paying.specs.Ledgers.{StandsAs}
use Rattle.op_paying.specs.Money.{AreIncomings, IsMoneyOf}
use Rattle.op_paying.specs.declared.money.Money.{Money}
use Rattle.op_paying.proofs.StepFollows.{step_follows, step_act_is, accounts_there}
use Rattle.op_paying.proofs.StepReplies.{incoming_there, stand_as}
use Rattle.op_paying.proofs.Untouched.{money_next, quotes_stay}

-- the payment is there, and its answer has the act
pub record IsTaken (history : List Entry) (t p k : ℕ) (act : Act) : Type 0 where
  pub row : OutgoingRow
  pub there : outgoing_row history p ≡ Some row
  pub does : step_act p k (step_answer history p row k t) ≡ Some act

taken_where : (history : List Entry) (t p k : ℕ) (act : Act) (found : Option OutgoingRow) → outgoing_row history p ≡ found → (option_map_or (step_outcome history t p k) found (replied history bodies.NotDue None)).act ≡ Some act → IsTaken history t p k act
taken_where history t p k act None there h = none_is_not act h
taken_where history t p k act (Some row) there h = record { row = row; there = there; does = h }

pub step_taken : (history : List Entry) (e : Entry) (p k : ℕ) → asked_by history e.act ≡ Step p k → IsNext history e → IsTaken history e.at p k e.act
step_taken history e p k is next =
    taken_where history e.at p k e.act (outgoing_row history p) refl
    (ap (λ (task : Task). (answer history e.at (word_of e.act) (fee_of e.act) task).act) (sym is) ∙ next.act)

-- ---- what a step asks for

pub row_kept : (history : List Entry) (money : Money) (p : ℕ) (row : OutgoingRow) → IsMoneyOf history money → outgoing_row history p ≡ Some row → nth money.outgoings.rows p ≡ Some row
row_kept history money p row is there = ap (λ (l : List OutgoingRow). nth l p) is.payments_are ∙ there

pub test_kept : (history : List Entry) (money : Money) (p : ℕ) (row : OutgoingRow) (test : OutgoingRow → Bool) → IsMoneyOf history money → outgoing_row history p ≡ Some row → test row ≡ true → IsTrue (payment_is test money.outgoings p)
test_kept history money p row test is there h = ap (λ (o : Option OutgoingRow). option_map_or test o false) (row_kept history money p row is there) ∙ h

pub payment_there : (history : List Entry) (money : Money) (p : ℕ) (row : OutgoingRow) → IsMoneyOf history money → outgoing_row history p ≡ Some row → IsTrue (has_payment money.outgoings p)
payment_there history money p row is there = ap is_some (row_kept history money p row is there)

plain_where : (b : Bool) (source target num den : ℕ) → (source == target) ≡ b → (source ≡ target → (num ≡ 1) × (den ≡ 1)) → (not b || ((num == 1) && (den == 1))) ≡ true
plain_where true source target num den is plain =
    let same : source ≡ target = grind (arith, nat_tests) in
    let one = plain same in
    let n : (num == 1) ≡ true = ap (λ k. k == 1) one.0 in
    let d : (den == 1) ≡ true = ap (λ k. k == 1) one.1 in
    rw (n, d) refl
plain_where false source target num den is plain = refl

rate_plain : (history : List Entry) (v : LedgerValue) (p : ℕ) (row : OutgoingRow) → StandsAs history v → IsPlacedIn history → outgoing_row history p ≡ Some row → is_rate_plain v row ≡ true
rate_plain history v p row stands placed there =
    let plain = (placed.payments p row there).plain in
    plain_where (is_within_one_asset v row) (asset_in v (Wallet row.terms.payer)) (asset_in v (Wallet row.terms.payee)) row.terms.num row.terms.den refl
    (λ same. plain (sym (stands.asset row.terms.payer) ∙ same ∙ stands.asset row.terms.payee))

pub accounts_kept : (history : List Entry) (money : Money) (p : ℕ) (row : OutgoingRow) → IsMoneyOf history money → outgoing_row history p ≡ Some row → IsTrue (payment_is (are_accounts_there money.ledger) money.outgoings p)
accounts_kept history money p row is there =
    test_kept history money p row (are_accounts_there money.ledger) is there (accounts_there history money.ledger p row is.stands (all_placed history is.legal) there)

pub incoming_kept : (history : List Entry) (money : Money) (p : ℕ) (row : OutgoingRow) → IsMoneyOf history money → outgoing_row history p ≡ Some row → IsTrue (payment_is (is_incoming_there money.incomings) money.outgoings p)
incoming_kept history money p row is there =
    test_kept history money p row (is_incoming_there money.incomings) is there (incoming_there history money.incomings p row is.received (all_placed history is.legal) there)

pub rate_kept : (history : List Entry) (money : Money) (p : ℕ) (row : OutgoingRow) → IsMoneyOf history money → outgoing_row history p ≡ Some row → IsTrue (payment_is (is_rate_plain money.ledger) money.outgoings p)
rate_kept history money p row is there =
    test_kept history money p row (is_rate_plain money.ledger) is there (rate_plain history money.ledger p row is.stands (all_placed history is.legal) there)

pub covered_kept : (history : List Entry) (money : Money) → IsMoneyOf history money → IsCovered money.outgoings money.ledger
covered_kept history money is n =
    let held : held_in money.ledger (Wallet n) ≡ left_of (outgoings history) (Wallet n) = is.stands.held_is (Wallet n) in
    let rows : left_of money.outgoings.rows (Wallet n) ≡ left_of (outgoings history) (Wallet n) = ap (λ (l : List OutgoingRow). left_of l (Wallet n)) is.payments_are in
    omega (arith, held, rows)

-- ---- behind the step

pub sound_of : (result : Option (Bor OutgoingRow)) (row : OutgoingRow) → option_copied result ≡ Some row → IfSome result (λ r. IsSoundRow r.now) → IsSoundRow row
sound_of None row is sound = absurd (let e : None ≡ Some row = is in cc)
sound_of (Some r) row is sound = let e : r.now ≡ row = let f : Some r.now ≡ Some row = is in cc in subst IsSoundRow e sound

-- what a step makes of money
pub record IsStepped (old new : Money) (p k t : ℕ) (row : OutgoingRow) (reply : StepAnswer) : Type 0 where
  pub answer : reply ≡ row_answer old.ledger old.incomings k t row
  pub ledger_is : new.ledger ≡ stepped_ledger old.ledger reply row
  pub incomings_are : new.incomings ≡ stepped_incomings old.incomings reply row
  pub outgoings_are : new.outgoings ≡ with_payment (stepped_row reply) old.outgoings p
  pub pieces_are : new.pieces.items ≡ old.pieces.items
  pub counted : new.addresses ≡ old.addresses

stepped_at : (history : List Entry) (e : Entry) (old new : Money) (p k : ℕ) (row : OutgoingRow) (reply : StepAnswer) (act : Act) → act ≡ e.act → IsMoneyOf history old → IsNext history e → outgoing_row history p ≡ Some row → IsSoundRow row → IsStepped old new p k e.at row reply → step_act p k reply ≡ Some act
    → IsMoneyOf (history ++ e ∷ []) new
stepped_at history e old new p k row reply act act_is is next there sound stepped made =
    let facts = step_act_is p k reply e.act (made ∙ ap (λ (a : Act). Some a) act_is) in
    let follows = step_follows history old.ledger old.incomings p k e.at row reply e.act is.stands is.received (all_placed history is.legal) there sound stepped.answer (made ∙ ap (λ (a : Act). Some a) act_is) in
    money_next history e old new is next facts.names stepped.pieces_are stepped.counted
    (record {
      stands = subst (λ (v : LedgerValue). StandsAs (history ++ e ∷ []) v) (sym stepped.ledger_is) follows.stands;
      received = subst (λ (l : List Incoming). AreIncomings (history ++ e ∷ []) l) (sym stepped.incomings_are) follows.received;
      payments_are =
          ap (λ (o : OutgoingsValue). o.rows) stepped.outgoings_are
          ∙ ap (λ (l : List OutgoingRow). with_item (stepped_row reply) l p) is.payments_are ∙ follows.payments_are;
      quotes_are = ap (λ (o : OutgoingsValue). o.quotes) stepped.outgoings_are ∙ is.quotes_are ∙ sym (quotes_stay history e facts.no_quote);
    })

pub step_money : (history : List Entry) (e : Entry) (old new : Money) (p k : ℕ) (row : OutgoingRow) (reply : StepAnswer) → IsMoneyOf history old → IsNext history e → asked_by history e.act ≡ Step p k → nth old.outgoings.rows p ≡ Some row → IsSoundRow row → IsStepped old new p k e.at row reply
    → IsMoneyOf (history ++ e ∷ []) new
step_money history e old new p k row reply is next task kept sound stepped =
    let taken = step_taken history e p k task next in
    let there : outgoing_row history p ≡ Some row = ap (λ (l : List OutgoingRow). nth l p) (sym is.payments_are) ∙ kept in
    let same : taken.row ≡ row = some_is taken.row row (sym taken.there ∙ there) in
    let answered : reply ≡ step_answer history p row k e.at =
    stepped.answer ∙ answers_are_defined history old.ledger old.incomings p k e.at row there (stand_as history old.ledger old.incomings e.at row is.stands is.received) in
    let made : step_act p k reply ≡ Some e.act =
    ap (step_act p k) answered ∙ ap (λ (r : OutgoingRow). step_act p k (step_answer history p r k e.at)) (sym same) ∙ taken.does in
    stepped_at history e old new p k row reply e.act refl is next there sound stepped made
