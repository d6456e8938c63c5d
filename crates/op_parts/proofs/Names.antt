-- The name that an entry adds is new, its code is one, and its number fits.
use Rattle.std.proofs.Common.{◌≡◌, ℕ, ◌<◌, ◌^◌, Bool, true, false, List, length, refl, ◌∙◌, sym, arith, Some, None, Option}
use Rattle.std.specs.Prelude.{◌&&◌, nat_le, is_some, Ok}
use Rattle.std.proofs.lemmas.List.{length-map}
use Rattle.op_amount.specs.Code.{is_asset_code}
use Rattle.op_amount.specs.declared.Asset.{Asset}
use Rattle.op_legal.proofs.Admin.{new_transfer_of}
use Rattle.op_legal.proofs.Chains.{act_in, outcome_act, past_refusal, past_want}
use Rattle.op_legal.proofs.Names.{both_left}
use Rattle.op_model.specs.AdminAnswers.{add_asset, add_address, move_money, transfers, transfer_of, transfer_act, transfer_named}
use Rattle.op_model.specs.History.{assets, addresses, asset_added, address_added, asset_number, path_number}
use Rattle.op_model.specs.Legal.{IsNext, no_verdict, is_asset, asset_named, name_of_account, amount_of, asset_of_account}
use Rattle.op_model.specs.declared.act.Account.{Account}
use Rattle.op_model.specs.declared.act.Act.{Act}
use Rattle.op_model.specs.declared.act.Act.TheVariants as acts
use Rattle.op_model.specs.declared.act.Entry.{Entry}
use Rattle.op_model.specs.declared.reply.Refusal.TheVariants.{AlreadyExists, NotFound}
use Rattle.op_model.specs.declared.request.Request.TheVariants as requests
use Rattle.op_naming.specs.Added.{IsCoded, IsAddedBy, IsFresh, IsKeyed, AreFew}
use Rattle.op_naming.specs.Kept.{asset_key, address_key, transfer_key}
use Rattle.op_naming.specs.Names.{AreNames}
use Rattle.op_naming.specs.declared.added.Added.{Added}
use Rattle.op_naming.specs.declared.added.Added.TheVariants.{Nothing, OfOrigin, OfAsset, OfAddress, OfTransfer, OfRate}
use Rattle.op_naming.specs.declared.names.Names.{Names}
use Rattle.op_naming.proofs.Lists.{length_filter_map}
use Rattle.op_paying.proofs.Acts.{with_act}

none_of : {X : Type 0} (o : Option X) → is_some o ≡ false → o ≡ None
none_of None h = refl
none_of (Some x) h = absurd (let e : true ≡ false = h in cc)

-- ---- an asset

abbrev asset_entry : ℕ → List ℕ → ℕ → ℕ → Entry
asset_entry t code scale pieces = record { at = t; act = acts.AssetAdded code scale pieces }

abbrev asset_with : List ℕ → ℕ → Asset
asset_with code scale = record { code = code; scale = scale }

new_asset_of : (history : List Entry) (t : ℕ) (code : List ℕ) (scale pieces : ℕ) → IsNext history (asset_entry t code scale pieces) → asset_number history (asset_with code scale) ≡ None
new_asset_of history t code scale pieces next =
    let asset = asset_with code scale in
    let act : Act = acts.AssetAdded code scale pieces in
    let made : act_in (add_asset history asset pieces) ≡ Some act = sym (outcome_act history t (requests.AddAsset asset pieces) no_verdict (add_asset history asset pieces)) ∙ next.act in
    let past = past_refusal (is_some (asset_number history asset)) AlreadyExists (λ _. Ok (Some act)) act made in
    none_of (asset_number history asset) past.0

code_of_next : (history : List Entry) (t : ℕ) (code : List ℕ) (scale pieces : ℕ) → IsNext history (asset_entry t code scale pieces) → is_asset_code code ≡ true
code_of_next history t code scale pieces next =
    both_left (is_asset_code code) (nat_le scale 18) (both_left (is_asset (asset_with code scale)) (nat_le 1 pieces && nat_le pieces 64) next.proper)

-- ---- an address

new_path_of : (history : List Entry) (t : ℕ) (path : List ℕ) (asset : ℕ) (name : Option (List ℕ)) → IsNext history (record { at = t; act = acts.AddressAdded path asset name }) → path_number history path ≡ None
new_path_of history t path asset name next =
    let act : Act = acts.AddressAdded path asset name in
    let a = asset_named history asset in
    let made : act_in (add_address history path a name) ≡ Some act = sym (outcome_act history t (requests.AddAddress path a name) no_verdict (add_address history path a name)) ∙ next.act in
    let want = past_want (asset_number history a) NotFound _ act made in
    let past = past_refusal (is_some (path_number history path)) AlreadyExists (λ _. Ok (Some (acts.AddressAdded path want.0 name))) act want.2 in
    none_of (path_number history path) past.0

-- ---- a transfer

moved_of : (history : List Entry) (t : ℕ) (deposit : Bool) (id : List ℕ) (account : Account) (value : ℕ) → IsNext history (record { at = t; act = transfer_act deposit id account value })
    → act_in (move_money history deposit id (name_of_account history account) (amount_of (asset_of_account history account) value)) ≡ Some (transfer_act deposit id account value)
moved_of history t true id account value next =
    let name = name_of_account history account in
    let amount = amount_of (asset_of_account history account) value in
    sym (outcome_act history t (requests.Deposit id name amount) no_verdict (move_money history true id name amount)) ∙ next.act
moved_of history t false id account value next =
    let name = name_of_account history account in
    let amount = amount_of (asset_of_account history account) value in
    sym (outcome_act history t (requests.Withdraw id name amount) no_verdict (move_money history false id name amount)) ∙ next.act

new_id_of : (history : List Entry) (t : ℕ) (deposit : Bool) (id : List ℕ) (account : Account) (value : ℕ) → IsNext history (record { at = t; act = transfer_act deposit id account value }) → transfer_named history id ≡ None
new_id_of history t deposit id account value next =
    let name = name_of_account history account in
    let amount = amount_of (asset_of_account history account) value in
    none_of (transfer_named history id) (new_transfer_of history deposit id name amount (transfer_act deposit id account value) (moved_of history t deposit id account value next)).new

-- ---- what is added

coded_act : (history : List Entry) (t : ℕ) (act : Act) → IsNext history (record { at = t; act = act }) → IsCoded act
coded_act history t (acts.AssetAdded code scale pieces) next = code_of_next history t code scale pieces next
coded_act history t _ next = tt

pub coded_by : (history : List Entry) (e : Entry) → IsNext history e → IsCoded e.act
coded_by history e next = coded_act history e.at e.act next

pub fresh_by : (history : List Entry) (e : Entry) (added : Added) → IsNext history e → IsAddedBy e.act added → IsFresh history added
fresh_by history e Nothing next is = tt
fresh_by history e (OfOrigin origin) next is = tt
fresh_by history e (OfAsset key asset pieces) next is =
    new_asset_of history e.at asset.code asset.scale pieces (with_act (IsNext history) e (acts.AssetAdded asset.code asset.scale pieces) is.0 next)
fresh_by history e (OfAddress key row) next is =
    new_path_of history e.at row.path row.asset row.name (with_act (IsNext history) e (acts.AddressAdded row.path row.asset row.name) is.0 next)
fresh_by history e (OfTransfer id made) next is =
    new_id_of history e.at made.deposit id.items made.account made.value (with_act (IsNext history) e (transfer_act made.deposit id.items made.account made.value) is next)
fresh_by history e (OfRate source target rate) next is = tt

pub keyed_by : (act : Act) (added : Added) → IsAddedBy act added → IsKeyed added
keyed_by act Nothing is = tt
keyed_by act (OfOrigin origin) is = tt
keyed_by act (OfAsset key asset pieces) is = is.1
keyed_by act (OfAddress key row) is = is.1
keyed_by act (OfTransfer id made) is = tt
keyed_by act (OfRate source target rate) is = tt

pub few_names : (history : List Entry) (names : Names) → AreNames history names → length history < 2 ^ 31 → AreFew names
few_names history names are small = record {
  of_assets =
      let count = are.codes_are.count ∙ length-map (assets history) asset_key in
      let few = length_filter_map (λ (e : Entry). asset_added e.act) history in omega (arith, count, few, small);
  of_addresses =
      let count = are.paths_are.count ∙ length-map (addresses history) address_key in
      let few = length_filter_map (λ (e : Entry). address_added e.act) history in omega (arith, count, few, small);
  of_transfers =
      let count = are.ids_are.count ∙ length-map (transfers history) transfer_key in
      let few = length_filter_map (λ (e : Entry). transfer_of e.act) history in omega (arith, count, few, small);
}
