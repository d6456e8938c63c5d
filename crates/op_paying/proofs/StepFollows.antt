-- Behind a step that acts, all parts are what the history with its entry says.
use Rattle.std.proofs.Common.{◌≡◌, ℕ, ◌+◌, ◌-◌, ◌≤◌, true, false, List, [], ◌∷◌, ◌++◌, refl, ◌∙◌, sym, ap, subst, arith, Some, None, Option}
use Rattle.std.specs.Prelude.{◌==◌, ◌&&◌, is_some}
use Rattle.std.specs.Option.{unwrap_or}
use Rattle.op_incoming.specs.declared.incoming.Incoming.{Incoming}
use Rattle.op_ledger.specs.Balances.{LedgerValue, is_there, held_in}
use Rattle.op_model.specs.History.{AddressRow, nth, with_item, assets, addresses, address_asset, no_address}
use Rattle.op_model.specs.Incoming.{is_closing, is_completing}
use Rattle.op_model.specs.Payments.{incomings, incoming_made, outgoings, outgoing_row, received}
use Rattle.op_model.specs.Steps.{step_act}
use Rattle.op_model.specs.declared.act.Account.TheVariants.{Outside, Pool, Fees, Wallet}
use Rattle.op_model.specs.declared.act.Act.{Act}
use Rattle.op_model.specs.declared.act.Act.TheVariants as acts
use Rattle.op_model.specs.declared.act.Entry.{Entry}
use Rattle.op_model.specs.declared.reply.StepAnswer.{StepAnswer}
use Rattle.op_model.specs.declared.reply.StepAnswer.TheVariants as answers
use Rattle.op_model.specs.declared.row.OutgoingRow.{OutgoingRow}
use Rattle.op_model.proofs.Next.{incomings-next}
use Rattle.op_outgoing.specs.Answers.{row_answer}
use Rattle.op_outgoing.specs.Held.{are_accounts_there, is_wallet_there, is_asset_there, left_of}
use Rattle.op_outgoing.specs.Pieces.{next_delivered}
use Rattle.op_outgoing.specs.Sound.{IsSoundRow}
use Rattle.op_outgoing.specs.Steps.{stepped_row, stepped_ledger, stepped_incomings, to_hold}
use Rattle.op_outgoing.proofs.Floors.{delivered_grows}
use Rattle.op_outgoing.proofs.NextRows.{rows_are_defined}
use Rattle.op_outgoing.proofs.Rows.{hold-le}
use Rattle.op_legal.proofs.Chains.{none_is_not, some_is}
use Rattle.op_laws.specs.Placed.{IsPlacedIn}
use Rattle.op_paying.specs.Ledgers.{StandsAs}
use Rattle.op_paying.specs.Money.{AreIncomings}
use Rattle.op_paying.proofs.Stays.{nothing_more}
use Rattle.op_paying.proofs.Untouched.{AddsNoNames, AddsNoQuote}
use Rattle.op_paying.proofs.Steps.{IsStep}
use Rattle.op_paying.proofs.Received.{ClosesNone, share_of, share_step, received_next, same_incomings, paid_incomings}
use Rattle.op_paying.proofs.Stepping.{steps_follow}

-- ---- the accounts of a payment

asset_there : (history : List Entry) (n : ℕ) (found : Option AddressRow) → IsPlacedIn history → nth (addresses history) n ≡ found → is_some found ≡ true → is_some (nth (assets history) (unwrap_or found no_address).asset) ≡ true
asset_there history n None placed at some = absurd (let e : false ≡ true = some in cc)
asset_there history n (Some row) placed at some = placed.based n row at

pub wallet_there : (history : List Entry) (v : LedgerValue) (n : ℕ) → StandsAs history v → IsPlacedIn history → is_some (nth (addresses history) n) ≡ true → is_wallet_there v n ≡ true
wallet_there history v n stands placed some =
    let asset = address_asset history n in
    let based : is_some (nth (assets history) asset) ≡ true = asset_there history n (nth (addresses history) n) placed refl some in
    let wallet : is_there v (Wallet n) ≡ true = stands.wallets n ∙ some in
    let outside : is_there v (Outside asset) ≡ true = stands.outsides asset based in
    let pool : is_there v (Pool asset) ≡ true = stands.pools asset based in
    let fees : is_there v (Fees asset) ≡ true = stands.fees asset based in
    ap (λ a. is_there v (Wallet n) && is_asset_there v a) (stands.asset n) ∙ rw (wallet, outside, pool, fees) refl

pub accounts_there : (history : List Entry) (v : LedgerValue) (p : ℕ) (row : OutgoingRow) → StandsAs history v → IsPlacedIn history → outgoing_row history p ≡ Some row → are_accounts_there v row ≡ true
accounts_there history v p row stands placed at =
    let payer = wallet_there history v row.terms.payer stands placed (placed.payments p row at).payer in
    let payee = wallet_there history v row.terms.payee stands placed (placed.payments p row at).payee in
    rw (payer, payee) refl

pub is_covered : (history : List Entry) (v : LedgerValue) (p : ℕ) (row : OutgoingRow) → StandsAs history v → outgoing_row history p ≡ Some row → to_hold row ≤ held_in v (Wallet row.terms.payer)
is_covered history v p row stands there =
    let held : held_in v (Wallet row.terms.payer) ≡ left_of (outgoings history) (Wallet row.terms.payer) = stands.held_is (Wallet row.terms.payer) in
    omega (arith, hold-le (outgoings history) p row there, held)

-- ---- the act of a step

pub record IsStepAct (act : Act) : Type 0 where
  pub names : AddsNoNames act
  pub no_quote : AddsNoQuote act
  no_incoming : (t : ℕ) → incoming_made t act ≡ None
  closes : (i : ℕ) → is_closing i act ≡ false
  completes : (i : ℕ) → is_completing i act ≡ false

pub step_act_is : (p k : ℕ) (reply : StepAnswer) (act : Act) → step_act p k reply ≡ Some act → IsStepAct act
step_act_is p k answers.Funded act is = subst IsStepAct (some_is (acts.OutgoingFunded p k) act is) (record { names = record { asset = refl; address = refl }; no_quote = λ s t. refl; no_incoming = λ t. refl; closes = λ i. refl; completes = λ i. refl })
step_act_is p k answers.Sent act is = subst IsStepAct (some_is (acts.OutgoingSent p k) act is) (record { names = record { asset = refl; address = refl }; no_quote = λ s t. refl; no_incoming = λ t. refl; closes = λ i. refl; completes = λ i. refl })
step_act_is p k answers.Completed act is = subst IsStepAct (some_is (acts.OutgoingCompleted p k) act is) (record { names = record { asset = refl; address = refl }; no_quote = λ s t. refl; no_incoming = λ t. refl; closes = λ i. refl; completes = λ i. refl })
step_act_is p k (answers.Failed reason) act is = subst IsStepAct (some_is (acts.OutgoingFailed p k reason) act is) (record { names = record { asset = refl; address = refl }; no_quote = λ s t. refl; no_incoming = λ t. refl; closes = λ i. refl; completes = λ i. refl })
step_act_is p k (answers.Stale now) act is = none_is_not act is
step_act_is p k answers.Ended act is = none_is_not act is
step_act_is p k (answers.Waiting shortage) act is = none_is_not act is

-- ---- incoming payments behind a step

incomings_follow : (history : List Entry) (e : Entry) (rows : List Incoming) (p : ℕ) (row : OutgoingRow) (reply : StepAnswer) → AreIncomings history rows → ClosesNone history e → IsSoundRow row → ((i : ℕ) → received (history ++ e ∷ []) i + share_of i row ≡ received history i + share_of i (stepped_row reply row))
    → AreIncomings (history ++ e ∷ []) (stepped_incomings rows reply row)
incomings_follow history e rows p row answers.Sent are none sound more =
    paid_incomings history e rows row.terms.incoming (next_delivered row - row.delivered) are none
    (λ i. share_step (row.terms.incoming == i) (received history i) (received (history ++ e ∷ []) i) row.delivered (next_delivered row) (more i) (delivered_grows row sound).0)
incomings_follow history e rows p row answers.Completed are none sound more =
    paid_incomings history e rows row.terms.incoming (next_delivered row - row.delivered) are none
    (λ i. share_step (row.terms.incoming == i) (received history i) (received (history ++ e ∷ []) i) row.delivered (next_delivered row) (more i) (delivered_grows row sound).0)
incomings_follow history e rows p row answers.Funded are none sound more = same_incomings history e rows are none (λ i. let m = more i in omega (arith, m))
incomings_follow history e rows p row (answers.Failed reason) are none sound more = same_incomings history e rows are none (λ i. let m = more i in omega (arith, m))
incomings_follow history e rows p row (answers.Stale now) are none sound more = same_incomings history e rows are none (λ i. let m = more i in omega (arith, m))
incomings_follow history e rows p row answers.Ended are none sound more = same_incomings history e rows are none (λ i. let m = more i in omega (arith, m))
incomings_follow history e rows p row (answers.Waiting shortage) are none sound more = same_incomings history e rows are none (λ i. let m = more i in omega (arith, m))

-- ---- all together

pub record StepFollows (history : List Entry) (v : LedgerValue) (rows : List Incoming) (payments : List OutgoingRow) : Type 0 where
  pub stands : StandsAs history v
  pub received : AreIncomings history rows
  pub payments_are : payments ≡ outgoings history

pub step_follows : (history : List Entry) (v : LedgerValue) (rows : List Incoming) (p k t : ℕ) (row : OutgoingRow) (reply : StepAnswer) (act : Act) → StandsAs history v → AreIncomings history rows → IsPlacedIn history → outgoing_row history p ≡ Some row → IsSoundRow row → reply ≡ row_answer v rows k t row → step_act p k reply ≡ Some act
    → StepFollows (history ++ record { at = t; act = act } ∷ []) (stepped_ledger v reply row) (stepped_incomings rows reply row) (with_item (stepped_row reply) (outgoings history) p)
step_follows history v rows p k t row reply act stands received placed there sound is made =
    let e : Entry = record { at = t; act = act } in
    let facts = step_act_is p k reply act made in
    let incomings_are = nothing_more (incomings history) (incomings (history ++ e ∷ [])) (incoming_made t act) (incomings-next history e) (facts.no_incoming t) in
    let none : ClosesNone history e = record { closes = facts.closes; completes = facts.completes; makes = incomings_are } in
    let step : IsStep history v rows p k t row reply act = record {
      stands = stands;
      there = there;
      sound = sound;
      accounts = accounts_there history v p row stands placed there;
      covered = is_covered history v p row stands there;
      answer = is;
      made = made;
    } in
    let outs = rows_are_defined.stepped history p k t row reply act there (v, rows, t, is) made in
    record {
      stands = steps_follow history v rows p k t row reply act step;
      received = incomings_follow history e rows p row reply received none sound (λ i. received_next history e (stepped_row reply) p i row outs there);
      payments_are = sym outs;
    }
