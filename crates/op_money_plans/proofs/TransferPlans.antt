-- What comes of deposits and withdrawals.
use Rattle.std.proofs.Common.{◌≡◌, ℕ, Bool, true, false, cond, List, [], ◌∷◌, ◌++◌, refl, ◌∙◌, sym, ap, subst, Some, None, Option, Result, Ok, Err}
use Rattle.std.specs.Prelude.{not, is_some, codes, unwrap_or}
use Rattle.std.specs.Option.{option_map, option_map_or}
use Rattle.std.specs.Str.{bytes_eq}
use Rattle.op_amount.specs.Asset.{is_same_asset}
use Rattle.op_amount.specs.declared.Amount.{Amount}
use Rattle.op_amount.specs.declared.Asset.{Asset}
use Rattle.op_laws.specs.Placed.{IsPlacedIn}
use Rattle.op_legal.proofs.Chains.{none_is_not, some_is}
use Rattle.op_legal.proofs.Names.{address_found, number_found}
use Rattle.op_legal.specs.Numbers.{HasAsset, HasAddress, HasAccount}
use Rattle.op_model.specs.AdminAnswers.{Transfer, transfer_named, transfer_act, account_named, account_meant, has_asset, is_repeat, is_used, money_refusals, new_transfer, move_money}
use Rattle.op_model.specs.Answer.{told, transferred_body}
use Rattle.op_model.specs.Asking.{◌>>=◌, address_named}
use Rattle.op_model.specs.Balances.{account_asset}
use Rattle.op_model.specs.History.{AssetRow, AddressRow, number_of, nth, last, origins, origin_set, origin_of, assets, asset_added, asset_number, asset_row, no_asset, addresses, address_added, path_number, no_address}
use Rattle.op_model.specs.Shown.{account_shown}
use Rattle.op_model.specs.declared.act.Account.{Account}
use Rattle.op_model.specs.declared.act.Account.TheVariants as accounts
use Rattle.op_model.specs.declared.act.Act.{Act}
use Rattle.op_model.specs.declared.act.Entry.{Entry}
use Rattle.op_model.specs.declared.reply.AccountShown.{AccountShown}
use Rattle.op_model.specs.declared.reply.AccountShown.TheVariants as shown
use Rattle.op_model.specs.declared.reply.Refusal.{Refusal}
use Rattle.op_model.specs.declared.reply.ReplyBody.{ReplyBody}
use Rattle.op_model.specs.declared.reply.ReplyBody.TheVariants.{Transferred}
use Rattle.op_model.specs.declared.request.AccountName.{AccountName}
use Rattle.op_model.specs.declared.request.AccountName.TheVariants as names
use Rattle.op_model.proofs.Next.{origins-next, assets-next, addresses-next}
use Rattle.op_names.specs.declared.AddressName.{AddressName}
use Rattle.op_naming.specs.Kept.{asset_kept, transfer_kept}
use Rattle.op_naming.specs.declared.kept.AssetKept.{AssetKept}
use Rattle.op_naming.specs.declared.kept.TransferKept.{TransferKept}
use Rattle.op_paying.proofs.Stays.{nothing_more}
use Rattle.op_plans.specs.Plans.{IsPlanned}
use Rattle.op_plans.specs.declared.plan.Plan.TheVariants.{Refused, Told, Acts}
use Rattle.op_money_plans.specs.Transfers.{is_deposit, transfer_request, is_repeat_of, shown_by}
use Rattle.op_money_plans.specs.declared.transfers.Asked.{Asked}
use Rattle.op_money_plans.specs.declared.transfers.Direction.{Direction}
use Rattle.op_money_plans.specs.declared.transfers.Direction.TheVariants.{Deposit, Withdrawal}

-- ---- the account that a name means

-- what holds of each account that a number makes
meant_where : (Q : Account → Type 0) (make : ℕ → Account) (found : Option ℕ) (account : Account) → ((n : ℕ) → found ≡ Some n → Q (make n)) → option_map make found ≡ Some account → Q account
meant_where Q make None account each h = none_is_not account h
meant_where Q make (Some n) account each h = subst Q (some_is (make n) account h) (each n refl)

-- it is there
asset_there : (history : List Entry) (asset : Asset) (n : ℕ) → asset_number history asset ≡ Some n → HasAsset history n
asset_there history asset n h = ap is_some (number_found (λ (row : AssetRow). is_same_asset row.asset asset) (assets history) n h).there

under_where : (history : List Entry) (name : AddressName) (n : ℕ) (b : Bool) → cond b (path_number history name.path) None ≡ Some n → HasAddress history n
under_where history name n true h = ap is_some (number_found (λ (row : AddressRow). bytes_eq row.path name.path) (addresses history) n h).there
under_where history name n false h = none_is_not n h

address_there : (history : List Entry) (name : Option AddressName) (n : ℕ) → address_named history name ≡ Some n → HasAddress history n
address_there history None n h = none_is_not n h
address_there history (Some name) n h = under_where history name n (bytes_eq name.origin (origin_of history)) h

named_there : (history : List Entry) (name : AccountName) (asset : Asset) (account : Account) → account_named history name asset ≡ Some account → HasAccount history account
named_there history names.Pool asset account h = meant_where (HasAccount history) accounts.Pool (asset_number history asset) account (asset_there history asset) h
named_there history names.Fees asset account h = meant_where (HasAccount history) accounts.Fees (asset_number history asset) account (asset_there history asset) h
named_there history (names.Address name) asset account h = meant_where (HasAccount history) accounts.Wallet (address_named history name) account (address_there history name) h

pub meant_there : (history : List Entry) (b : Bool) (name : AccountName) (asset : Asset) (account : Account) → account_meant history b name asset ≡ Some account → HasAccount history account
meant_there history true names.Fees asset account h = none_is_not account h
meant_there history true names.Pool asset account h = named_there history names.Pool asset account h
meant_there history true (names.Address name) asset account h = named_there history (names.Address name) asset account h
meant_there history false name asset account h = named_there history name asset account h

-- it is told by its name
wallet_told : (history : List Entry) (name : Option AddressName) (n : ℕ) → address_named history name ≡ Some n → shown_by (names.Address name) ≡ account_shown history (accounts.Wallet n)
wallet_told history None n h = none_is_not n h
wallet_told history (Some name) n h = ap (λ (a : AddressName). shown.Address a.path) (sym (address_found history name n h))

named_told : (history : List Entry) (name : AccountName) (asset : Asset) (account : Account) → account_named history name asset ≡ Some account → shown_by name ≡ account_shown history account
named_told history names.Pool asset account h = meant_where (λ a. shown.Pool ≡ account_shown history a) accounts.Pool (asset_number history asset) account (λ n found. refl) h
named_told history names.Fees asset account h = meant_where (λ a. shown.Fees ≡ account_shown history a) accounts.Fees (asset_number history asset) account (λ n found. refl) h
named_told history (names.Address name) asset account h = meant_where (λ a. shown_by (names.Address name) ≡ account_shown history a) accounts.Wallet (address_named history name) account (wallet_told history name) h

meant_told : (history : List Entry) (b : Bool) (name : AccountName) (asset : Asset) (account : Account) → account_meant history b name asset ≡ Some account → shown_by name ≡ account_shown history account
meant_told history true names.Fees asset account h = none_is_not account h
meant_told history true names.Pool asset account h = named_told history names.Pool asset account h
meant_told history true (names.Address name) asset account h = named_told history (names.Address name) asset account h
meant_told history false name asset account h = named_told history name asset account h

-- ---- its asset

asset_where : (history : List Entry) (n : ℕ) (found : Option AddressRow) → IsPlacedIn history → nth (addresses history) n ≡ found → is_some found ≡ true → HasAsset history (unwrap_or found no_address).asset
asset_where history n None placed at h = absurd (let e : false ≡ true = h in cc)
asset_where history n (Some row) placed at h = placed.based n row at

pub account_asset_there : (history : List Entry) (account : Account) → IsPlacedIn history → HasAccount history account → HasAsset history (account_asset history account)
account_asset_there history (accounts.Outside n) placed has = absurd has
account_asset_there history (accounts.Pool n) placed has = has
account_asset_there history (accounts.Fees n) placed has = has
account_asset_there history (accounts.Wallet n) placed has = asset_where history n (nth (addresses history) n) placed refl has

kept_asset : (o : Option AssetRow) (kept : AssetKept) → Some kept ≡ option_map asset_kept o → kept.asset ≡ (unwrap_or o no_asset).asset
kept_asset None kept h = absurd (let e : Some kept ≡ None = h in cc)
kept_asset (Some row) kept h = ap (λ (k : AssetKept). k.asset) (some_is kept (asset_kept row) h)

pub stands_where : (history : List Entry) (account : Account) (asset : Asset) (n : ℕ) (kept : AssetKept) → n ≡ account_asset history account → Some kept ≡ option_map asset_kept (nth (assets history) n) → is_same_asset kept.asset asset ≡ has_asset history account asset
stands_where history account asset n kept is of =
    ap (λ (a : Asset). is_same_asset a asset) (kept_asset (nth (assets history) n) kept of)
    ∙ ap (λ (k : ℕ). is_same_asset (asset_row history k).asset asset) is

some_mapped : {X Y : Type 0} (f : X → Y) (o : Option X) → is_some (option_map f o) ≡ is_some o
some_mapped f None = refl
some_mapped f (Some x) = refl

pub stands_nowhere : (history : List Entry) (account : Account) (n : ℕ) (found : Option AssetKept) → IsPlacedIn history → HasAccount history account → n ≡ account_asset history account → found ≡ option_map asset_kept (nth (assets history) n) → found ≡ None → ⊥
stands_nowhere history account n found placed has is of none =
    let there : is_some (nth (assets history) (account_asset history account)) ≡ true = account_asset_there history account placed has in
    let missing : is_some (nth (assets history) n) ≡ false = sym (some_mapped asset_kept (nth (assets history) n)) ∙ ap is_some (sym of) ∙ ap is_some none in
    let e : false ≡ true = sym missing ∙ ap (λ (k : ℕ). is_some (nth (assets history) k)) is ∙ there in
    cc

-- ---- a transfer that was made

used_where : (history : List Entry) (asked : Asked) (fits : Bool) (found : Option Transfer) (made : TransferKept) → fits ≡ has_asset history asked.account asked.amount.asset → Some made ≡ option_map transfer_kept found
    → option_map_or (λ t. not (is_repeat history (is_deposit asked.direction) asked.account asked.amount t)) found false ≡ not (is_repeat_of made asked fits)
used_where history asked fits None made is of = absurd (let e : Some made ≡ None = of in cc)
used_where history asked fits (Some t) made is of =
    ap (λ (f : Bool). not (is_repeat_of (transfer_kept t) asked f)) (sym is)
    ∙ ap (λ (k : TransferKept). not (is_repeat_of k asked fits)) (sym (some_is made (transfer_kept t) of))

pub used_is : (history : List Entry) (id : List ℕ) (asked : Asked) (fits : Bool) (made : TransferKept) → fits ≡ has_asset history asked.account asked.amount.asset → Some made ≡ option_map transfer_kept (transfer_named history id)
    → is_used history (is_deposit asked.direction) id asked.account asked.amount ≡ not (is_repeat_of made asked fits)
used_is history id asked fits made is of = used_where history asked fits (transfer_named history id) made is of

pub made_there : {X Y : Type 0} (f : X → Y) (o : Option X) (y : Y) → Some y ≡ option_map f o → is_some o ≡ true
made_there f None y h = absurd (let e : Some y ≡ None = h in cc)
made_there f (Some x) y h = refl

pub made_nowhere : {X Y : Type 0} (f : X → Y) (o : Option X) (found : Option Y) → found ≡ option_map f o → found ≡ None → o ≡ None
made_nowhere f None found is none = refl
made_nowhere f (Some x) found is none = absurd (let e : Some (f x) ≡ None = sym is ∙ none in cc)

-- ---- what refuses a new one

-- ---- the answer to a transfer

pub move_repeated : (history : List Entry) (b : Bool) (id : List ℕ) (name : AccountName) (amount : Amount) (account : Account) (n : ℕ) → account_meant history b name amount.asset ≡ Some account → asset_number history amount.asset ≡ Some n → is_used history b id account amount ≡ false → is_some (transfer_named history id) ≡ true → move_money history b id name amount ≡ Ok None
move_repeated history b id name amount account n meant found unused there = rw (meant, found, unused, there) refl

move_new : (history : List Entry) (b : Bool) (id : List ℕ) (name : AccountName) (amount : Amount) (account : Account) (n : ℕ) → account_meant history b name amount.asset ≡ Some account → asset_number history amount.asset ≡ Some n → transfer_named history id ≡ None → move_money history b id name amount ≡ new_transfer history b id account amount
move_new history b id name amount account n meant found none = rw (meant, found, none) refl

pub move_answered : (history : List Entry) (b : Bool) (id : List ℕ) (name : AccountName) (amount : Amount) (account : Account) (n : ℕ) (answer : Result (Unit {0}) Refusal) → account_meant history b name amount.asset ≡ Some account → asset_number history amount.asset ≡ Some n → transfer_named history id ≡ None → answer ≡ money_refusals history b account amount
    → move_money history b id name amount ≡ (answer >>= (λ _. Ok (Some (transfer_act b id account amount.value))))
move_answered history b id name amount account n answer meant found none is =
    move_new history b id name amount account n meant found none
    ∙ ap (λ (r : Result (Unit {0}) Refusal). r >>= (λ _. Ok (Some (transfer_act b id account amount.value)))) (sym is)

-- ---- what a transfer leaves

record KeepsNames (history after : List Entry) : Type 0 where
  origin : origin_of after ≡ origin_of history
  of_assets : assets after ≡ assets history
  of_addresses : addresses after ≡ addresses history

keeps_where : (history : List Entry) (e : Entry) → origin_set e.act ≡ None → asset_added e.act ≡ None → address_added e.act ≡ None → KeepsNames history (history ++ e ∷ [])
keeps_where history e no_origin no_asset_row no_address_row = record {
  origin = ap (λ (set : List (List ℕ)). unwrap_or (last set) (codes "https://wallet.example")) (nothing_more (origins history) (origins (history ++ e ∷ [])) (origin_set e.act) (origins-next history e) no_origin);
  of_assets = nothing_more (assets history) (assets (history ++ e ∷ [])) (asset_added e.act) (assets-next history e) no_asset_row;
  of_addresses = nothing_more (addresses history) (addresses (history ++ e ∷ [])) (address_added e.act) (addresses-next history e) no_address_row;
}

keeps_names : (history : List Entry) (t : ℕ) (b : Bool) (id : List ℕ) (account : Account) (value : ℕ) → KeepsNames history (history ++ record { at = t; act = transfer_act b id account value } ∷ [])
keeps_names history t true id account value = keeps_where history (record { at = t; act = transfer_act true id account value }) refl refl refl
keeps_names history t false id account value = keeps_where history (record { at = t; act = transfer_act false id account value }) refl refl refl

named_still : (history after : List Entry) (name : AccountName) (asset : Asset) → KeepsNames history after → account_named after name asset ≡ account_named history name asset
named_still history after names.Pool asset keeps = ap (λ (rows : List AssetRow). option_map accounts.Pool (number_of (λ row. is_same_asset row.asset asset) rows)) keeps.of_assets
named_still history after names.Fees asset keeps = ap (λ (rows : List AssetRow). option_map accounts.Fees (number_of (λ row. is_same_asset row.asset asset) rows)) keeps.of_assets
named_still history after (names.Address None) asset keeps = refl
named_still history after (names.Address (Some name)) asset keeps =
    ap (λ (o : List ℕ). option_map accounts.Wallet (cond (bytes_eq name.origin o) (path_number after name.path) None)) keeps.origin
    ∙ ap (λ (rows : List AddressRow). option_map accounts.Wallet (cond (bytes_eq name.origin (origin_of history)) (number_of (λ row. bytes_eq row.path name.path) rows) None)) keeps.of_addresses

meant_still : (history after : List Entry) (b : Bool) (name : AccountName) (asset : Asset) → KeepsNames history after → account_meant after b name asset ≡ account_meant history b name asset
meant_still history after true names.Fees asset keeps = refl
meant_still history after true names.Pool asset keeps = named_still history after names.Pool asset keeps
meant_still history after true (names.Address name) asset keeps = named_still history after (names.Address name) asset keeps
meant_still history after false name asset keeps = named_still history after name asset keeps

-- ---- what is told of a transfer

pub told_here : (history : List Entry) (b : Bool) (id : List ℕ) (name : AccountName) (amount : Amount) (account : Account) (body : ReplyBody) → account_meant history b name amount.asset ≡ Some account → body ≡ Transferred id (shown_by name) amount → body ≡ transferred_body history b id name amount
told_here history b id name amount account body meant is =
    is ∙ ap (λ (s : AccountShown). Transferred id s amount) (meant_told history b name amount.asset account meant)
    ∙ ap (λ (o : Option Account). told (λ a. Transferred id (account_shown history a) amount) o) (sym meant)

pub told_after : (history : List Entry) (t : ℕ) (b : Bool) (id : List ℕ) (name : AccountName) (amount : Amount) (account : Account) (value : ℕ) (body : ReplyBody) → account_meant history b name amount.asset ≡ Some account → body ≡ Transferred id (shown_by name) amount
    → body ≡ transferred_body (history ++ record { at = t; act = transfer_act b id account value } ∷ []) b id name amount
told_after history t b id name amount account value body meant is =
    let after : List Entry = history ++ record { at = t; act = transfer_act b id account value } ∷ [] in
    told_here after b id name amount account body (meant_still history after b name amount.asset (keeps_names history t b id account value) ∙ meant) is

-- ---- plans

pub transfer_refused : (history : List Entry) (d : Direction) (id : List ℕ) (name : AccountName) (amount : Amount) (refusal : Refusal) → move_money history (is_deposit d) id name amount ≡ Err refusal → IsPlanned history (transfer_request d id name amount) (Refused refusal)
transfer_refused history Deposit id name amount refusal is t word fee verdict = is
transfer_refused history Withdrawal id name amount refusal is t word fee verdict = is

pub transfer_told : (history : List Entry) (d : Direction) (id : List ℕ) (name : AccountName) (amount : Amount) (body : ReplyBody) → move_money history (is_deposit d) id name amount ≡ Ok None → body ≡ transferred_body history (is_deposit d) id name amount → IsPlanned history (transfer_request d id name amount) (Told body)
transfer_told history Deposit id name amount body is body_is t word fee verdict = (is, body_is)
transfer_told history Withdrawal id name amount body is body_is t word fee verdict = (is, body_is)

pub transfer_acts : (history : List Entry) (d : Direction) (id : List ℕ) (name : AccountName) (amount : Amount) (act : Act) (body : ReplyBody) → move_money history (is_deposit d) id name amount ≡ Ok (Some act) → ((t : ℕ) → body ≡ transferred_body (history ++ record { at = t; act = act } ∷ []) (is_deposit d) id name amount) → IsPlanned history (transfer_request d id name amount) (Acts act body)
transfer_acts history Deposit id name amount act body is body_is t word fee verdict = (is, body_is t)
transfer_acts history Withdrawal id name amount act body is body_is t word fee verdict = (is, body_is t)
