-- What is told of rows.
use Rattle.std.proofs.Common.{◌≡◌, ℕ, Bool, true, false, List, refl, ◌∙◌, sym, ap, Some, None, Option}
use Rattle.std.specs.Prelude.{is_some, unwrap_or}
use Rattle.std.specs.Option.{option_map, option_map_or}
use Rattle.op_amount.specs.declared.Amount.{Amount}
use Rattle.op_amount.specs.declared.Asset.{Asset}
use Rattle.op_laws.proofs.Known.{all_known, terms_good}
use Rattle.op_laws.proofs.Lists.{each_at, counted_some}
use Rattle.op_laws.proofs.MakingActs.{IsAddress, AreGood}
use Rattle.op_legal.proofs.Chains.{none_is_not, some_is}
use Rattle.op_model.specs.Answer.{told}
use Rattle.op_model.specs.History.{AssetRow, AddressRow, nth, assets, addresses, address_asset, asset_row, asset_of_address, no_asset, no_address}
use Rattle.op_model.specs.Incoming.{is_completed}
use Rattle.op_model.specs.Legal.{IsLegal}
use Rattle.op_model.specs.Payments.{incomings, incoming_row, quotes, quote_row, outgoing_row, received}
use Rattle.op_model.specs.Grants.{is_failed}
use Rattle.op_model.specs.Shown.{path_of_address, incoming_shown, quote_shown, outgoing_shown}
use Rattle.op_model.specs.declared.act.Entry.{Entry}
use Rattle.op_model.specs.declared.reply.IncomingShown.{IncomingShown}
use Rattle.op_model.specs.declared.reply.QuoteShown.{QuoteShown}
use Rattle.op_model.specs.declared.reply.OutgoingShown.{OutgoingShown}
use Rattle.op_model.specs.declared.reply.ReplyBody.{ReplyBody}
use Rattle.op_model.specs.declared.row.IncomingRow.{IncomingRow}
use Rattle.op_model.specs.declared.row.QuoteRow.{QuoteRow}
use Rattle.op_model.specs.declared.row.OutgoingRow.{OutgoingRow}
use Rattle.op_naming.specs.Kept.{asset_kept, address_kept}
use Rattle.op_naming.specs.declared.kept.AssetKept.{AssetKept}
use Rattle.op_naming.specs.declared.kept.AddressKept.{AddressKept}
use Rattle.op_token_plans.specs.Shown.{row_beside}

-- ---- the asset and the path of an address

asset_of_row : (o : Option AssetRow) (kept : AssetKept) → Some kept ≡ option_map asset_kept o → kept.asset ≡ (unwrap_or o no_asset).asset
asset_of_row None kept is = none_is_not kept (sym is)
asset_of_row (Some row) kept is = ap (λ (k : AssetKept). k.asset) (some_is kept (asset_kept row) is)

asset_where : (history : List Entry) (n : ℕ) (o : Option AddressRow) (kept : AddressKept) (asset : AssetKept) → nth (addresses history) n ≡ o → Some kept ≡ option_map address_kept o → Some asset ≡ option_map asset_kept (nth (assets history) kept.asset)
    → Some asset.asset ≡ option_map (λ row. asset_of_address history n) o
asset_where history n None kept asset at is of = none_is_not kept (sym is)
asset_where history n (Some row) kept asset at is of =
    let same : kept.asset ≡ row.asset = ap (λ (k : AddressKept). k.asset) (some_is kept (address_kept row) is) in
    let there : address_asset history n ≡ row.asset = ap (λ (o : Option AddressRow). (unwrap_or o no_address).asset) at in
    ap Some (asset_of_row (nth (assets history) kept.asset) asset of ∙ ap (λ (k : ℕ). (asset_row history k).asset) (same ∙ sym there))

pub asset_told : (history : List Entry) (n : ℕ) (kept : AddressKept) (asset : AssetKept) → Some kept ≡ option_map address_kept (nth (addresses history) n) → Some asset ≡ option_map asset_kept (nth (assets history) kept.asset)
    → Some asset.asset ≡ option_map (λ row. asset_of_address history n) (nth (addresses history) n)
asset_told history n kept asset is of = asset_where history n (nth (addresses history) n) kept asset refl is of

path_where : (history : List Entry) (n : ℕ) (o : Option AddressRow) (kept : AddressKept) → nth (addresses history) n ≡ o → Some kept ≡ option_map address_kept o → Some kept.path ≡ option_map (λ row. path_of_address history n) o
path_where history n None kept at is = none_is_not kept (sym is)
path_where history n (Some row) kept at is =
    ap Some (ap (λ (k : AddressKept). k.path) (some_is kept (address_kept row) is) ∙ sym (ap (λ (o : Option AddressRow). (unwrap_or o no_address).path) at))

pub path_told : (history : List Entry) (n : ℕ) (kept : AddressKept) → Some kept ≡ option_map address_kept (nth (addresses history) n) → Some kept.path ≡ option_map (λ row. path_of_address history n) (nth (addresses history) n)
path_told history n kept is = path_where history n (nth (addresses history) n) kept refl is

none_mapped : {X Y Z : Type 0} (f : X → Y) (g : X → Z) (o : Option X) → None ≡ option_map f o → None ≡ option_map g o
none_mapped f g None is = refl
none_mapped f g (Some x) is = none_is_not (f x) is

pub address_missing : {Z : Type 0} (history : List Entry) (n : ℕ) (told : AddressRow → Z) → None ≡ option_map address_kept (nth (addresses history) n) → None ≡ option_map told (nth (addresses history) n)
address_missing history n told is = none_mapped address_kept told (nth (addresses history) n) is

-- ---- what is told of an address that is there

pub is_told : {X Y : Type 0} (x y : Y) (o : Option X) → Some x ≡ option_map (λ r. y) o → x ≡ y
is_told x y None is = none_is_not x (sym is)
is_told x y (Some r) is = some_is x y is

pub not_missing : {X Y : Type 0} (told : X → Y) (o : Option X) → is_some o ≡ true → None ≡ option_map told o → ⊥
not_missing told None there is = absurd (let e : false ≡ true = there in cc)
not_missing told (Some x) there is = none_is_not (told x) is

-- the addresses of rows are there
pub incoming_addressed : (history : List Entry) (n : ℕ) (row : IncomingRow) → IsLegal history → incoming_row history n ≡ Some row → IsAddress history row.address
incoming_addressed history n row legal at = each_at (λ (r : IncomingRow). IsAddress history r.address) (incomings history) n row (all_known history legal).incomings_are at

pub quote_good : (history : List Entry) (n : ℕ) (row : QuoteRow) → IsLegal history → quote_row history n ≡ Some row → AreGood history row.terms
quote_good history n row legal at = each_at (λ (r : QuoteRow). AreGood history r.terms) (quotes history) n row (all_known history legal).quotes_are at

pub payment_good : (history : List Entry) (n : ℕ) (row : OutgoingRow) → IsLegal history → outgoing_row history n ≡ Some row → AreGood history row.terms
payment_good history n row legal at = terms_good history n row (all_known history legal) at

-- so their assets and paths are told
pub no_asset_told : (history : List Entry) (n : ℕ) → IsAddress history n → None ≡ option_map (λ row. asset_of_address history n) (nth (addresses history) n) → ⊥
no_asset_told history n is none = not_missing (λ row. asset_of_address history n) (nth (addresses history) n) (counted_some (addresses history) n is) none

pub no_path_told : (history : List Entry) (n : ℕ) → IsAddress history n → None ≡ option_map (λ row. path_of_address history n) (nth (addresses history) n) → ⊥
no_path_told history n is none = not_missing (λ row. path_of_address history n) (nth (addresses history) n) (counted_some (addresses history) n is) none

-- ---- rows beside their numbers

pub beside_there : {X : Type 0} (row : ℕ → Option X) (n : ℕ) (x : X) → row n ≡ Some x → row_beside row (Some n) ≡ Some (n, x)
beside_there row n x at = ap (option_map (λ y. (n, y))) at

pub beside_missing : {X : Type 0} (row : ℕ → Option X) (n : ℕ) → row n ≡ None → row_beside row (Some n) ≡ None
beside_missing row n at = ap (option_map (λ y. (n, y))) at

-- ---- what is told of a row

pub incoming_told : (history : List Entry) (n : ℕ) (row : IncomingRow) (asset : Asset) (path : List ℕ) (amount : Option Amount) (got : ℕ) (done : Bool) (copy : Option (List ℕ)) → asset ≡ asset_of_address history row.address → path ≡ path_of_address history row.address
    → amount ≡ option_map (λ v. record { value = v; asset = asset }) row.amount → got ≡ received history n → done ≡ is_completed history n row → copy ≡ row.metadata
    → (let shown : IncomingShown = record {
      number = n;
      path = path;
      amount = amount;
      received = record { value = got; asset = asset };
      completed = done;
      made = row.made;
      expiry = row.expiry;
      metadata = copy;
    } in shown) ≡ incoming_shown history (n, row)
incoming_told history n row asset path amount got done copy asset_is path_is amount_is got_is done_is copy_is = rw (amount_is, asset_is, path_is, got_is, done_is, copy_is) refl

pub quote_told : (history : List Entry) (n : ℕ) (row : QuoteRow) (source target : Asset) (path : List ℕ) → source ≡ asset_of_address history row.terms.payer → target ≡ asset_of_address history row.terms.payee → path ≡ path_of_address history row.terms.payer
    → (let shown : QuoteShown = record {
      number = n;
      path = path;
      incoming = row.terms.incoming;
      debit = record { value = row.terms.debit; asset = source };
      receive = record { value = row.terms.receive; asset = target };
      made = row.made;
      expiry = row.expiry;
    } in shown) ≡ quote_shown history (n, row)
quote_told history n row source target path source_is target_is path_is = rw (source_is, target_is, path_is) refl

pub outgoing_told : (history : List Entry) (n : ℕ) (row : OutgoingRow) (source target : Asset) (path : List ℕ) (failed : Bool) (copy : Option (List ℕ)) → source ≡ asset_of_address history row.terms.payer → target ≡ asset_of_address history row.terms.payee
    → path ≡ path_of_address history row.terms.payer → failed ≡ is_failed row.state → copy ≡ row.metadata
    → (let shown : OutgoingShown = record {
      number = n;
      path = path;
      quote = row.quote;
      incoming = row.terms.incoming;
      debit = record { value = row.terms.debit; asset = source };
      receive = record { value = row.terms.receive; asset = target };
      sent = record { value = row.sent; asset = source };
      failed = failed;
      made = row.made;
      metadata = copy;
    } in shown) ≡ outgoing_shown history (n, row)
outgoing_told history n row source target path failed copy source_is target_is path_is failed_is copy_is = rw (source_is, target_is, path_is, failed_is, copy_is) refl

-- ---- the reply that tells it

pub told_shown : {X S : Type 0} (show : X → S) (body : S → ReplyBody) (s : S) (o : Option X) → Some s ≡ option_map show o → body s ≡ told (λ x. body (show x)) o
told_shown show body s None is = none_is_not s (sym is)
told_shown show body s (Some x) is = ap body (some_is s (show x) is)

-- ---- rows that are not there

pub unnamed : {X S : Type 0} (rows : ℕ → Option X) (show : ℕ × X → S) (n : Option ℕ) → n ≡ None → None ≡ option_map show (row_beside rows n)
unnamed rows show n is = ap (λ (o : Option ℕ). option_map show (row_beside rows o)) (sym is)

pub nowhere : {X S : Type 0} (rows : ℕ → Option X) (show : ℕ × X → S) (n : Option ℕ) (k : ℕ) → n ≡ Some k → None ≡ rows k → None ≡ option_map show (row_beside rows n)
nowhere rows show n k is at = sym (ap (λ (o : Option ℕ). option_map show (row_beside rows o)) is ∙ ap (option_map show) (beside_missing rows k (sym at)))

pub told_there : {X S : Type 0} (rows : ℕ → Option X) (show : ℕ × X → S) (n : Option ℕ) (k : ℕ) (x : X) (s : S) → n ≡ Some k → rows k ≡ Some x → s ≡ show (k, x) → Some s ≡ option_map show (row_beside rows n)
told_there rows show n k x s is at shown = ap Some shown ∙ sym (ap (λ (o : Option ℕ). option_map show (row_beside rows o)) is ∙ ap (option_map show) (beside_there rows k x at))

-- ---- the parts of what is told, of an address that is there

-- what is kept of an incoming payment that is there
pub kept_is : {X : Type 0} (history : List Entry) (n : ℕ) (row : IncomingRow) (kept other : X) (told : IncomingRow → X) → incoming_row history n ≡ Some row → kept ≡ option_map_or told (incoming_row history n) other → kept ≡ told row
kept_is history n row kept other told there is = is ∙ ap (λ (o : Option IncomingRow). option_map_or told o other) there
