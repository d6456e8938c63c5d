-- The provider's requests: the entry spells the request again.
use Rattle.std.proofs.Common.{◌≡◌, ℕ, ◌≤◌, Bool, true, false, cond, ◌||◌, List, refl, ◌∙◌, sym, ap, Some, None, length}
use Rattle.std.specs.Prelude.{◌==◌, not, IsTrue, MatchOption, Ok, is_some}
use Rattle.std.specs.declared.option.Option.{Option}
use Rattle.std.specs.declared.result.Result.{Result}
use Rattle.op_amount.specs.declared.Asset.{Asset}
use Rattle.op_amount.specs.declared.Amount.{Amount}
use Rattle.op_model.specs.Answer.{act_for, fee_asked_by}
use Rattle.op_model.specs.AdminAnswers as admin
use Rattle.op_model.specs.AdminAnswers.{account_meant, has_asset, is_used, transfer_named, transfer_act, money_refusals, new_transfer}
use Rattle.op_model.specs.History.{origins, addresses, asset_number, path_number}
use Rattle.op_model.specs.Legal.{asked_by, keeps_forms, no_verdict, word_of, fee_of, asset_of_account, amount_of}
use Rattle.op_model.specs.declared.act.Account.{Account}
use Rattle.op_model.specs.declared.act.Act.{Act}
use Rattle.op_model.specs.declared.act.Act.TheVariants as acts
use Rattle.op_model.specs.declared.act.Entry.{Entry}
use Rattle.op_model.specs.declared.reply.Refusal.{Refusal}
use Rattle.op_model.specs.declared.reply.Refusal.TheVariants.{NotFound, OriginFixed, AlreadyExists, TransferIdUsed, ZeroAmount, AssetMismatch}
use Rattle.op_model.specs.declared.request.AccountName.{AccountName}
use Rattle.op_model.specs.declared.request.Request.{Request}
use Rattle.op_model.specs.declared.request.Request.TheVariants as requests
use Rattle.op_model.specs.declared.request.Task.TheVariants.{Ask}
use Rattle.op_model.specs.declared.request.Verdict.{Verdict}
use Rattle.op_legal.proofs.Chains.{act_in, outcome_act, none_is_not, some_is, past_refusal, past_want, past_step, within_refusal}
use Rattle.op_legal.proofs.Names.{not_false, asset_found, meant_found, amount_found}
use Rattle.op_legal.proofs.Tasks.{SpellsItself, spells}

-- a route that looks neither at the verdict nor at the word or the fee
pub provider_spells : (history : List Entry) (t : ℕ) (request : Request) (result : Result (Option Act) Refusal) (act : Act)
    → ((word : List ℕ) (fee : ℕ) (verdict : Verdict) → act_for history t word fee request verdict ≡ result)
    → MatchOption (fee_asked_by history t request no_verdict) (Unit {0}) (λ asked. fee_of act ≤ asked.amount)
    → asked_by history act ≡ Ask request no_verdict → IsTrue (keeps_forms request) → act_in result ≡ Some act → SpellsItself history t act
provider_spells history t request result act same fee is forms made =
    spells history t (Ask request no_verdict) act is forms fee
    (outcome_act history t request no_verdict (act_for history t (word_of act) (fee_of act) request no_verdict)
    ∙ ap act_in (same (word_of act) (fee_of act) no_verdict) ∙ made)

pub set_origin_spells : (history : List Entry) (t : ℕ) (origin : List ℕ) (act : Act) → IsTrue (keeps_forms (requests.SetOrigin origin)) → act_in (admin.set_origin history origin) ≡ Some act → SpellsItself history t act
set_origin_spells history t origin act forms made =
    let past = past_refusal (not (length (origins history) == 0) || not (length (addresses history) == 0)) OriginFixed (λ _. Ok (Some (acts.OriginSet origin))) act made in
    provider_spells history t (requests.SetOrigin origin) (admin.set_origin history origin) act (λ word fee verdict. refl) tt
    (sym (ap (asked_by history) (some_is (acts.OriginSet origin) act past.1))) forms made

pub add_asset_spells : (history : List Entry) (t : ℕ) (asset : Asset) (pieces : ℕ) (act : Act) → IsTrue (keeps_forms (requests.AddAsset asset pieces)) → act_in (admin.add_asset history asset pieces) ≡ Some act → SpellsItself history t act
add_asset_spells history t asset pieces act forms made =
    let past = past_refusal (is_some (asset_number history asset)) AlreadyExists (λ _. Ok (Some (acts.AssetAdded asset.code asset.scale pieces))) act made in
    provider_spells history t (requests.AddAsset asset pieces) (admin.add_asset history asset pieces) act (λ word fee verdict. refl) tt
    (sym (ap (asked_by history) (some_is (acts.AssetAdded asset.code asset.scale pieces) act past.1))) forms made

pub add_address_spells : (history : List Entry) (t : ℕ) (path : List ℕ) (asset : Asset) (name : Option (List ℕ)) (act : Act) → IsTrue (keeps_forms (requests.AddAddress path asset name)) → act_in (admin.add_address history path asset name) ≡ Some act → SpellsItself history t act
add_address_spells history t path asset name act forms made =
    let want = past_want (asset_number history asset) NotFound _ act made in
    let past = past_refusal (is_some (path_number history path)) AlreadyExists (λ _. Ok (Some (acts.AddressAdded path want.0 name))) act want.2 in
    provider_spells history t (requests.AddAddress path asset name) (admin.add_address history path asset name) act (λ word fee verdict. refl) tt
    (sym (ap (asked_by history) (some_is (acts.AddressAdded path want.0 name) act past.1))
    ∙ ap (λ (a : Asset). Ask (requests.AddAddress path a name) no_verdict) (asset_found history asset want.0 want.1))
    forms made

-- ---- transfers

-- a new transfer: its account, its asset and its act
pub record IsNewTransfer (history : List Entry) (deposit : Bool) (id : List ℕ) (name : AccountName) (amount : Amount) (act : Act) : Type 0 where
  pub account : Account
  pub meant : account_meant history deposit name amount.asset ≡ Some account
  pub asset : has_asset history account amount.asset ≡ true
  pub new : is_some (transfer_named history id) ≡ false
  pub passes : money_refusals history deposit account amount ≡ Ok tt
  pub is : act ≡ transfer_act deposit id account amount.value

-- what a new transfer passes
record PassesMoney (history : List Entry) (deposit : Bool) (id : List ℕ) (account : Account) (amount : Amount) (act : Act) (there : Bool) : Type 0 where
  asset : has_asset history account amount.asset ≡ true
  new : there ≡ false
  passes : money_refusals history deposit account amount ≡ Ok tt
  is : act ≡ transfer_act deposit id account amount.value

unit_is : (u : Unit {0}) → u ≡ tt
unit_is u = refl

new_where : (history : List Entry) (deposit : Bool) (id : List ℕ) (account : Account) (amount : Amount) (act : Act) (there : Bool) → act_in (cond there (Ok None) (new_transfer history deposit id account amount)) ≡ Some act
    → PassesMoney history deposit id account amount act there
new_where history deposit id account amount act true h = none_is_not act h
new_where history deposit id account amount act false h =
    let past = past_step (money_refusals history deposit account amount) (λ _. Ok (Some (transfer_act deposit id account amount.value))) act h in
    let zero = within_refusal (amount.value == 0) ZeroAmount _ past.0 past.1 in
    let mismatch = within_refusal (not (has_asset history account amount.asset)) AssetMismatch _ past.0 zero.1 in
    record {
      asset = not_false (has_asset history account amount.asset) mismatch.0;
      new = refl;
      passes = past.1;
      is = sym (some_is (transfer_act deposit id account amount.value) act past.2);
    }

pub new_transfer_of : (history : List Entry) (deposit : Bool) (id : List ℕ) (name : AccountName) (amount : Amount) (act : Act) → act_in (admin.move_money history deposit id name amount) ≡ Some act → IsNewTransfer history deposit id name amount act
new_transfer_of history deposit id name amount act h =
    let account = past_want (account_meant history deposit name amount.asset) NotFound _ act h in
    let asset = past_want (asset_number history amount.asset) NotFound _ act account.2 in
    let unused = past_refusal (is_used history deposit id account.0 amount) TransferIdUsed _ act asset.2 in
    let new = new_where history deposit id account.0 amount act (is_some (transfer_named history id)) unused.1 in
    record { account = account.0; meant = account.1; asset = new.asset; new = new.new; passes = new.passes; is = new.is }

pub deposit_spells : (history : List Entry) (t : ℕ) (id : List ℕ) (name : AccountName) (amount : Amount) (act : Act) → IsTrue (keeps_forms (requests.Deposit id name amount)) → act_in (admin.move_money history true id name amount) ≡ Some act → SpellsItself history t act
deposit_spells history t id name amount act forms made =
    let new = new_transfer_of history true id name amount act made in
    provider_spells history t (requests.Deposit id name amount) (admin.move_money history true id name amount) act (λ word fee verdict. refl) tt
    (ap (asked_by history) new.is
    ∙ ap (λ (n : AccountName). Ask (requests.Deposit id n (amount_of (asset_of_account history new.account) amount.value)) no_verdict) (meant_found history true name amount.asset new.account new.meant)
    ∙ ap (λ (a : Amount). Ask (requests.Deposit id name a) no_verdict) (amount_found history new.account amount new.asset))
    forms made

pub withdraw_spells : (history : List Entry) (t : ℕ) (id : List ℕ) (name : AccountName) (amount : Amount) (act : Act) → IsTrue (keeps_forms (requests.Withdraw id name amount)) → act_in (admin.move_money history false id name amount) ≡ Some act → SpellsItself history t act
withdraw_spells history t id name amount act forms made =
    let new = new_transfer_of history false id name amount act made in
    provider_spells history t (requests.Withdraw id name amount) (admin.move_money history false id name amount) act (λ word fee verdict. refl) tt
    (ap (asked_by history) new.is
    ∙ ap (λ (n : AccountName). Ask (requests.Withdraw id n (amount_of (asset_of_account history new.account) amount.value)) no_verdict) (meant_found history false name amount.asset new.account new.meant)
    ∙ ap (λ (a : Amount). Ask (requests.Withdraw id name a) no_verdict) (amount_found history new.account amount new.asset))
    forms made
