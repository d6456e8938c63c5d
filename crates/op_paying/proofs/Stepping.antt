-- A step that acts: what its entry moves is what the call posted.
use Rattle.std.proofs.Common.{◌≡◌, ℕ, ◌+◌, ◌-◌, ◌≤◌, Bool, true, false, cond, List, [], ◌∷◌, ◌++◌, refl, ◌∙◌, sym, ap, subst, arith, Some, IsTrue}
use Rattle.std.specs.Prelude.{◌&&◌, ◌||◌, ◌==◌}
use Rattle.std.specs.Option.{option_map}
use Rattle.std.proofs.lemmas.Bool.Decides.{nat_tests}
use Rattle.op_incoming.specs.declared.incoming.Incoming.{Incoming}
use Rattle.op_incoming.proofs.Places.{nth-with_item}
use Rattle.op_ledger.specs.Balances.{LedgerValue, is_there, held_in, asset_in, holding}
use Rattle.op_ledger.specs.Pieces.{taken, within_legs, between_legs, is_within_one_asset, lacks_liquidity}
use Rattle.op_ledger.specs.Runs.{Call, Held, Posted, Voided, CanPost, after_call, call_legs}
use Rattle.op_ledger.proofs.Transfers.{there-moved, asset-moved, there-holding, asset-holding}
use Rattle.op_model.specs.Balances.{Movement, comes, goes, legs, held, piece_legs, grown, is_same_account}
use Rattle.op_model.specs.History.{nth, address_asset, with_item}
use Rattle.op_model.specs.Payments.{outgoings, outgoing_row, left_to_post, is_sending}
use Rattle.op_model.specs.Steps.{step_act}
use Rattle.op_model.specs.declared.act.Account.{Account}
use Rattle.op_model.specs.declared.act.Account.TheVariants.{Outside, Pool, Fees, Wallet}
use Rattle.op_model.specs.declared.act.Act.{Act}
use Rattle.op_model.specs.declared.act.Act.TheVariants as acts
use Rattle.op_model.specs.declared.act.Entry.{Entry}
use Rattle.op_model.specs.declared.act.FailReason.{FailReason}
use Rattle.op_model.specs.declared.reply.StepAnswer.{StepAnswer}
use Rattle.op_model.specs.declared.reply.StepAnswer.TheVariants as answers
use Rattle.op_model.specs.declared.row.OutgoingRow.{OutgoingRow}
use Rattle.op_model.specs.declared.row.PaymentState.{PaymentState}
use Rattle.op_model.specs.declared.row.PaymentState.TheVariants as states
use Rattle.op_outgoing.specs.Held.{are_accounts_there, is_wallet_there, HoldsAlike, left_by, left_of}
use Rattle.op_outgoing.specs.Pieces.{next_sent, next_fee, next_piece}
use Rattle.op_outgoing.specs.Sound.{IsSoundRow}
use Rattle.op_outgoing.specs.Steps.{stepped_row, stepped_ledger, with_next_piece, ended_as, to_hold, voided}
use Rattle.op_outgoing.proofs.Holding.{alike_funded, alike_sent, alike_failed, alike_unchanged, sending_holds, share-le, share_whole}
use Rattle.op_outgoing.proofs.NextRows.{rows_are_defined}
use Rattle.op_outgoing.proofs.Rows.{left_changed}
use Rattle.op_outgoing.proofs.Sending.{payer_there, fees_there}
use Rattle.op_legal.proofs.Chains.{none_is_not, some_is}
use Rattle.op_paying.specs.Ledgers.{StandsAs}
use Rattle.op_paying.proofs.Ledgers.{KeepsNames, none_held, still_sums, stands_next, same_accounts}
use Rattle.op_paying.proofs.Stays.{names_stay}
use Rattle.op_paying.proofs.Steps.{IsStep}
use Rattle.op_paying.proofs.Answered.{is_sent, is_funded, sent_means, funded_means}
use Rattle.op_paying.proofs.Called.{IsOnWallets, called_stands}

-- ---- accounts

both : (b : Bool) → b ≡ true → (b && true) ≡ true
both b h = ap (λ t. t && true) h

second : (a b : Bool) → IsTrue (a && b) → IsTrue b
second true b h = h
second false b h = absurd (let e : false ≡ true = h in cc)

first : (a b : Bool) → IsTrue (a && b) → IsTrue a
first true b h = refl
first false b h = h

payee_there : (v : LedgerValue) (row : OutgoingRow) → IsTrue (are_accounts_there v row) → IsTrue (is_wallet_there v row.terms.payee)
payee_there v row h = second (is_wallet_there v row.terms.payer) (is_wallet_there v row.terms.payee) h

pool_there : (v : LedgerValue) (address : ℕ) → IsTrue (is_wallet_there v address) → is_there v (Pool (asset_in v (Wallet address))) ≡ true
pool_there v address h =
    let asset = asset_in v (Wallet address) in
    let assets = second (is_there v (Wallet address)) (is_there v (Outside asset) && (is_there v (Pool asset) && is_there v (Fees asset))) h in
    first (is_there v (Pool asset)) (is_there v (Fees asset)) (second (is_there v (Outside asset)) (is_there v (Pool asset) && is_there v (Fees asset)) assets)

pools_or : (w p q : Bool) → p ≡ true → q ≡ true → (w || (p && q)) ≡ true
pools_or true p q h k = refl
pools_or false p q h k = ap (λ t. t && q) h ∙ k

-- ---- what is taken

taken_within : (row : OutgoingRow) → IsSoundRow row → taken (next_piece row) ≤ left_to_post row
taken_within row sound =
    let some = sound.priced.some in
    let more : row.sent ≤ next_sent row = omega (arith, sound.sent) in
    let within : next_sent row ≤ row.terms.source = omega arith in
    let fee : row.fee ≤ next_fee row = omega (arith, sound.fee, share-le row.terms.fee row.sent (next_sent row) row.terms.source more some) in
    let fee_within : next_fee row ≤ row.terms.fee = omega (arith, share-le row.terms.fee (next_sent row) row.terms.source row.terms.source within some, share_whole row.terms.fee row.terms.source some) in
    let taken_is : taken (next_piece row) ≡ (next_sent row - row.sent) + (next_fee row - row.fee) = refl in
    omega (arith, more, within, fee, fee_within, taken_is, sound.priced.debit)

-- ---- the movements of a piece are those of its entry

model_legs : OutgoingRow → ℕ → ℕ → List Movement
model_legs row source target =
    let new = with_next_piece row in
    let sent = new.sent - row.sent in
    let delivered = new.delivered - row.delivered in
    goes (sent + (new.fee - row.fee)) (Wallet row.terms.payer) ∷ comes (new.fee - row.fee) (Fees source)
    ∷ (cond (source == target) [] (comes sent (Pool source) ∷ goes delivered (Pool target) ∷ []) ++ comes (cond (source == target) sent delivered) (Wallet row.terms.payee) ∷ [])

posted_legs : OutgoingRow → ℕ → ℕ → List Movement
posted_legs row source target = cond (source == target) (within_legs source (next_piece row)) (between_legs source target (next_piece row))

legs_where : (b : Bool) (row : OutgoingRow) (source target : ℕ) → (source == target) ≡ b → model_legs row source target ≡ posted_legs row source target
unfolding model_legs posted_legs
legs_where true row source target same = rw same refl
legs_where false row source target same = rw same refl

model_is : (history : List Entry) (row : OutgoingRow) → piece_legs history row (with_next_piece row) ≡ model_legs row (address_asset history row.terms.payer) (address_asset history row.terms.payee)
unfolding model_legs
model_is history row = refl

posted_is : (v : LedgerValue) (row : OutgoingRow) → call_legs (asset_in v) (Posted (next_piece row)) ≡ posted_legs row (asset_in v (Wallet row.terms.payer)) (asset_in v (Wallet row.terms.payee))
unfolding posted_legs
posted_is v row = refl

piece_moves : (history : List Entry) (v : LedgerValue) (row : OutgoingRow) → StandsAs history v → piece_legs history row (with_next_piece row) ≡ call_legs (asset_in v) (Posted (next_piece row))
piece_moves history v row stands =
    let source = address_asset history row.terms.payer in
    let target = address_asset history row.terms.payee in
    model_is history row ∙ legs_where (source == target) row source target refl
    ∙ ap (λ s. posted_legs row s target) (sym (stands.asset row.terms.payer))
    ∙ ap (λ d. posted_legs row (asset_in v (Wallet row.terms.payer)) d) (sym (stands.asset row.terms.payee))
    ∙ sym (posted_is v row)

-- ---- rows

pub record IsNextRow (history : List Entry) (e : Entry) (p : ℕ) (row new : OutgoingRow) : Type 0 where
  pub all : (account : Account) → left_of (outgoings (history ++ e ∷ [])) account + left_by account row ≡ left_of (outgoings history) account + left_by account new
  pub one : outgoing_row (history ++ e ∷ []) p ≡ Some new

same_number : (n : ℕ) → (n == n) ≡ true
same_number n = grind (arith, nat_tests)

pub next_row_of : (history : List Entry) (e : Entry) (p : ℕ) (row : OutgoingRow) (change : OutgoingRow → OutgoingRow) → outgoings (history ++ e ∷ []) ≡ with_item change (outgoings history) p → outgoing_row history p ≡ Some row → IsNextRow history e p row (change row)
next_row_of history e p row change rows there = record {
  all = λ account. ap (λ (l : List OutgoingRow). left_of l account + left_by account row) rows ∙ left_changed (outgoings history) change p row account there;
  one =
      ap (λ (l : List OutgoingRow). nth l p) rows ∙ nth-with_item change (outgoings history) p p
      ∙ ap (λ b. cond b (option_map change (outgoing_row history p)) (outgoing_row history p)) (same_number p)
      ∙ ap (option_map change) there;
}

next_row : (history : List Entry) (v : LedgerValue) (incomings : List Incoming) (p k t : ℕ) (row : OutgoingRow) (reply : StepAnswer) (act : Act) → IsStep history v incomings p k t row reply act → IsNextRow history (record { at = t; act = act }) p row (stepped_row reply row)
next_row history v incomings p k t row reply act is =
    next_row_of history (record { at = t; act = act }) p row (stepped_row reply) (rows_are_defined.stepped history p k t row reply act is.there (v, incomings, t, is.answer) is.made) is.there

-- what is held on wallets behind the call is what the history holds
held_behind : (history : List Entry) (e : Entry) (v w : LedgerValue) (p : ℕ) (row new : OutgoingRow) → StandsAs history v → IsNextRow history e p row new → HoldsAlike row new v w → (n : ℕ) → held_in w (Wallet n) ≡ held (history ++ e ∷ []) (Wallet n)
held_behind history e v w p row new stands next alike n =
    let before : held_in v (Wallet n) ≡ left_of (outgoings history) (Wallet n) = stands.held_is (Wallet n) in
    omega (arith, next.all (Wallet n), alike n, before)

wallets_held : (history : List Entry) (v w : LedgerValue) (incomings : List Incoming) (p k t : ℕ) (row : OutgoingRow) (reply : StepAnswer) (act : Act) → IsStep history v incomings p k t row reply act → HoldsAlike row (stepped_row reply row) v w
    → (n : ℕ) → held_in w (Wallet n) ≡ held (history ++ record { at = t; act = act } ∷ []) (Wallet n)
wallets_held history v w incomings p k t row reply act is alike =
    held_behind history (record { at = t; act = act }) v w p row (stepped_row reply row) is.stands (next_row history v incomings p k t row reply act is) alike

-- ---- the calls

on_wallets_post : (row : OutgoingRow) → IsOnWallets (Posted (next_piece row))
on_wallets_post row = record { frees = λ a apart. ap (λ b. cond b (taken (next_piece row)) 0) (apart row.terms.payer); holds = λ a apart. refl }

on_wallets_hold : (n x : ℕ) → IsOnWallets (Held (Wallet n) x)
on_wallets_hold n x = record { frees = λ a apart. refl; holds = λ a apart. ap (λ b. cond b x 0) (apart n) }

on_wallets_void : (n x : ℕ) → IsOnWallets (Voided (Wallet n) x)
on_wallets_void n x = record { frees = λ a apart. ap (λ b. cond b x 0) (apart n); holds = λ a apart. refl }

can_post : (history : List Entry) (v : LedgerValue) (incomings : List Incoming) (p k t : ℕ) (row : OutgoingRow) (reply : StepAnswer) (act : Act) → IsStep history v incomings p k t row reply act → row.state ≡ states.Sending → lacks_liquidity v (next_piece row) ≡ false → CanPost v (next_piece row)
can_post history v incomings p k t row reply act is sending liquid =
    let payee = payee_there v row is.accounts in
    let holds = sending_holds row sending in
    let within = taken_within row is.sound in
    record {
      payer = both (is_there v (Wallet row.terms.payer)) (payer_there v row is.accounts);
      payee = both (is_there v (Wallet row.terms.payee)) (first (is_there v (Wallet row.terms.payee)) _ payee);
      fees = fees_there v row is.accounts;
      pools =
          pools_or (is_within_one_asset v (next_piece row)) (is_there v (Pool (asset_in v (Wallet row.terms.payer)))) (is_there v (Pool (asset_in v (Wallet row.terms.payee))))
          (pool_there v row.terms.payer (first (is_wallet_there v row.terms.payer) (is_wallet_there v row.terms.payee) is.accounts)) (pool_there v row.terms.payee payee);
      covered = omega (arith, holds, within, is.covered);
      liquid = liquid;
    }

-- ---- a piece

sent_stands : (history : List Entry) (v : LedgerValue) (incomings : List Incoming) (p k t : ℕ) (row : OutgoingRow) (reply : StepAnswer) (act : Act) → IsStep history v incomings p k t row reply act → is_sent reply ≡ true → stepped_row reply row ≡ with_next_piece row
    → legs history (record { at = t; act = act }) ≡ grown (piece_legs history) (outgoing_row history p) (outgoing_row (history ++ record { at = t; act = act } ∷ []) p) → KeepsNames history (record { at = t; act = act })
    → StandsAs (history ++ record { at = t; act = act } ∷ []) (after_call v (Posted (next_piece row)))
sent_stands history v incomings p k t row reply act is sent new moves keeps =
    let e : Entry = record { at = t; act = act } in
    let piece = next_piece row in
    let means = sent_means v incomings k t row (ap is_sent (sym is.answer) ∙ sent) in
    let next = next_row history v incomings p k t row reply act is in
    let alike = alike_sent v row is.sound means.sending (payer_there v row is.accounts) is.covered in
    let legs_are : legs history e ≡ call_legs (asset_in v) (Posted piece) =
    moves
    ∙ ap (λ o. grown (piece_legs history) o (outgoing_row (history ++ e ∷ []) p)) is.there
    ∙ ap (λ o. grown (piece_legs history) (Some row) o) (next.one ∙ ap (λ (r : OutgoingRow). Some r) new)
    ∙ piece_moves history v row is.stands in
    called_stands history e v (Posted piece) is.stands (can_post history v incomings p k t row reply act is means.sending means.liquid) legs_are keeps
    (record {
      there = λ a. there-moved _ (call_legs (asset_in v) (Posted piece)) a ∙ there-holding v piece.payer (λ h. h - taken piece) a;
      asset = λ a. asset-moved _ (call_legs (asset_in v) (Posted piece)) a ∙ asset-holding v piece.payer (λ h. h - taken piece) a;
    })
    (on_wallets_post row)
    (wallets_held history v (after_call v (Posted piece)) incomings p k t row reply act is (subst (λ (r : OutgoingRow). HoldsAlike row r v (after_call v (Posted piece))) (sym new) alike))

-- ---- funding

funded_stands : (history : List Entry) (v : LedgerValue) (incomings : List Incoming) (p k t : ℕ) (row : OutgoingRow) → IsStep history v incomings p k t row answers.Funded (acts.OutgoingFunded p k)
    → StandsAs (history ++ record { at = t; act = acts.OutgoingFunded p k } ∷ []) (after_call v (Held (Wallet row.terms.payer) row.terms.debit))
funded_stands history v incomings p k t row is =
    let e : Entry = record { at = t; act = acts.OutgoingFunded p k } in
    let call : Call = Held (Wallet row.terms.payer) row.terms.debit in
    let means = funded_means v incomings k t row (ap is_funded (sym is.answer)) in
    let there = payer_there v row is.accounts in
    called_stands history e v call is.stands (both (is_there v (Wallet row.terms.payer)) there, means.enough) refl
    (names_stay history e refl refl)
    (record { there = λ a. there-holding v (Wallet row.terms.payer) (λ h. h + row.terms.debit) a; asset = λ a. asset-holding v (Wallet row.terms.payer) (λ h. h + row.terms.debit) a })
    (on_wallets_hold row.terms.payer row.terms.debit)
    (wallets_held history v (after_call v call) incomings p k t row answers.Funded (acts.OutgoingFunded p k) is (alike_funded v row is.sound means.funding there))

-- ---- failing

still_held : (history : List Entry) (e : Entry) (v : LedgerValue) (a : Account) → StandsAs history v → ((n : ℕ) → is_same_account (Wallet n) a ≡ false) → held_in v a ≡ held (history ++ e ∷ []) a
still_held history e v a stands apart =
    stands.held_is a ∙ none_held history a (λ row. apart row.terms.payer) ∙ sym (none_held (history ++ e ∷ []) a (λ row. apart row.terms.payer))

each_still : (history : List Entry) (e : Entry) (v : LedgerValue) → StandsAs history v → ((n : ℕ) → held_in v (Wallet n) ≡ held (history ++ e ∷ []) (Wallet n)) → (a : Account) → held_in v a ≡ held (history ++ e ∷ []) a
each_still history e v stands held_is (Wallet n) = held_is n
each_still history e v stands held_is (Outside n) = still_held history e v (Outside n) stands (λ m. refl)
each_still history e v stands held_is (Pool n) = still_held history e v (Pool n) stands (λ m. refl)
each_still history e v stands held_is (Fees n) = still_held history e v (Fees n) stands (λ m. refl)

still_holding : (history : List Entry) (e : Entry) (v : LedgerValue) → StandsAs history v → legs history e ≡ [] → KeepsNames history e → ((n : ℕ) → held_in v (Wallet n) ≡ held (history ++ e ∷ []) (Wallet n)) → StandsAs (history ++ e ∷ []) v
still_holding history e v stands no_legs keeps held_is =
    stands_next history e v v stands keeps (same_accounts v) (still_sums history e v stands no_legs (each_still history e v stands held_is))

-- a payment that ends as failed
pub record IsFailing (history : List Entry) (e : Entry) (v : LedgerValue) (p : ℕ) (row : OutgoingRow) (reason : FailReason) : Type 0 where
  pub stands : StandsAs history v
  pub accounts : IsTrue (are_accounts_there v row)
  pub covered : to_hold row ≤ held_in v (Wallet row.terms.payer)
  pub next : IsNextRow history e p row (ended_as reason row)
  pub no_legs : legs history e ≡ []
  pub keeps : KeepsNames history e

waiting_stands : (history : List Entry) (e : Entry) (v : LedgerValue) (p : ℕ) (row : OutgoingRow) (reason : FailReason) → IsFailing history e v p row reason → is_sending row.state ≡ false → StandsAs (history ++ e ∷ []) (voided v row)
waiting_stands history e v p row reason is idle =
    let new = ended_as reason row in
    let nothing : to_hold row ≡ 0 = ap (λ b. cond b (left_to_post row) 0) idle in
    let alike : HoldsAlike row new v v = alike_unchanged v row new (λ address. refl) nothing in
    subst (StandsAs (history ++ e ∷ [])) (sym (ap (λ b. cond b (holding v (Wallet row.terms.payer) (λ h. h - left_to_post row)) v) idle))
    (still_holding history e v is.stands is.no_legs is.keeps (held_behind history e v v p row new is.stands is.next alike))

failed_where : (history : List Entry) (e : Entry) (v : LedgerValue) (p : ℕ) (row : OutgoingRow) (reason : FailReason) (state : PaymentState) → row.state ≡ state → IsFailing history e v p row reason → StandsAs (history ++ e ∷ []) (voided v row)
failed_where history e v p row reason states.Sending state is =
    let call : Call = Voided (Wallet row.terms.payer) (left_to_post row) in
    let there = payer_there v row is.accounts in
    let holds = sending_holds row state in
    let enough : left_to_post row ≤ held_in v (Wallet row.terms.payer) = omega (arith, holds, is.covered) in
    let busy : is_sending row.state ≡ true = ap is_sending state in
    subst (StandsAs (history ++ e ∷ [])) (sym (ap (λ b. cond b (holding v (Wallet row.terms.payer) (λ h. h - left_to_post row)) v) busy))
    (called_stands history e v call is.stands (there, enough) is.no_legs is.keeps
    (record { there = λ a. there-holding v (Wallet row.terms.payer) (λ h. h - left_to_post row) a; asset = λ a. asset-holding v (Wallet row.terms.payer) (λ h. h - left_to_post row) a })
    (on_wallets_void row.terms.payer (left_to_post row))
    (held_behind history e v (after_call v call) p row (ended_as reason row) is.stands is.next (alike_failed v row reason state there is.covered)))
failed_where history e v p row reason states.Funding state is = waiting_stands history e v p row reason is (ap is_sending state)
failed_where history e v p row reason states.Completed state is = waiting_stands history e v p row reason is (ap is_sending state)
failed_where history e v p row reason states.Failed state is = waiting_stands history e v p row reason is (ap is_sending state)

pub failing_stands : (history : List Entry) (e : Entry) (v : LedgerValue) (p : ℕ) (row : OutgoingRow) (reason : FailReason) → IsFailing history e v p row reason → StandsAs (history ++ e ∷ []) (voided v row)
failing_stands history e v p row reason is = failed_where history e v p row reason row.state refl is

step_fails : (history : List Entry) (v : LedgerValue) (incomings : List Incoming) (p k t : ℕ) (row : OutgoingRow) (reason : FailReason) → IsStep history v incomings p k t row (answers.Failed reason) (acts.OutgoingFailed p k reason)
    → StandsAs (history ++ record { at = t; act = acts.OutgoingFailed p k reason } ∷ []) (voided v row)
step_fails history v incomings p k t row reason is =
    let e : Entry = record { at = t; act = acts.OutgoingFailed p k reason } in
    failing_stands history e v p row reason
    (record {
      stands = is.stands;
      accounts = is.accounts;
      covered = is.covered;
      next = next_row history v incomings p k t row (answers.Failed reason) (acts.OutgoingFailed p k reason) is;
      no_legs = refl;
      keeps = names_stay history e refl refl;
    })

-- ---- every step that acts

with_made : (history : List Entry) (v : LedgerValue) (incomings : List Incoming) (p k t : ℕ) (row : OutgoingRow) (reply : StepAnswer) (act made : Act) → made ≡ act → step_act p k reply ≡ Some made → IsStep history v incomings p k t row reply act → IsStep history v incomings p k t row reply made
with_made history v incomings p k t row reply act made same is_made is =
    record { stands = is.stands; there = is.there; sound = is.sound; accounts = is.accounts; covered = is.covered; answer = is.answer; made = is_made }

stands_at : (history : List Entry) (t : ℕ) (w : LedgerValue) (made act : Act) → made ≡ act → StandsAs (history ++ record { at = t; act = made } ∷ []) w → StandsAs (history ++ record { at = t; act = act } ∷ []) w
stands_at history t w made act same stands = subst (λ (a : Act). StandsAs (history ++ record { at = t; act = a } ∷ []) w) same stands

pub steps_follow : (history : List Entry) (v : LedgerValue) (incomings : List Incoming) (p k t : ℕ) (row : OutgoingRow) (reply : StepAnswer) (act : Act) → IsStep history v incomings p k t row reply act
    → StandsAs (history ++ record { at = t; act = act } ∷ []) (stepped_ledger v reply row)
steps_follow history v incomings p k t row answers.Funded act is =
    let same = some_is (acts.OutgoingFunded p k) act is.made in
    stands_at history t _ (acts.OutgoingFunded p k) act same (funded_stands history v incomings p k t row (with_made history v incomings p k t row answers.Funded act (acts.OutgoingFunded p k) same refl is))
steps_follow history v incomings p k t row answers.Sent act is =
    let same = some_is (acts.OutgoingSent p k) act is.made in
    let e : Entry = record { at = t; act = acts.OutgoingSent p k } in
    stands_at history t _ (acts.OutgoingSent p k) act same
    (sent_stands history v incomings p k t row answers.Sent (acts.OutgoingSent p k) (with_made history v incomings p k t row answers.Sent act (acts.OutgoingSent p k) same refl is) refl refl refl
    (names_stay history e refl refl))
steps_follow history v incomings p k t row answers.Completed act is =
    let same = some_is (acts.OutgoingCompleted p k) act is.made in
    let e : Entry = record { at = t; act = acts.OutgoingCompleted p k } in
    stands_at history t _ (acts.OutgoingCompleted p k) act same
    (sent_stands history v incomings p k t row answers.Completed (acts.OutgoingCompleted p k) (with_made history v incomings p k t row answers.Completed act (acts.OutgoingCompleted p k) same refl is) refl refl refl
    (names_stay history e refl refl))
steps_follow history v incomings p k t row (answers.Failed reason) act is =
    let same = some_is (acts.OutgoingFailed p k reason) act is.made in
    stands_at history t _ (acts.OutgoingFailed p k reason) act same
    (step_fails history v incomings p k t row reason (with_made history v incomings p k t row (answers.Failed reason) act (acts.OutgoingFailed p k reason) same refl is))
steps_follow history v incomings p k t row (answers.Stale now) act is = none_is_not act is.made
steps_follow history v incomings p k t row answers.Ended act is = none_is_not act is.made
steps_follow history v incomings p k t row (answers.Waiting shortage) act is = none_is_not act is.made
