-- What names mean, and what numbers are named, are one.
use Rattle.std.proofs.Common.{◌≡◌, ℕ, suc, ◌+◌, Bool, true, false, cond, ◌&&◌, List, [], ◌∷◌, refl, ◌∙◌, sym, ap, subst, arith, Some, None}
use Rattle.std.specs.Prelude.{◌==◌, not, slice_get}
use Rattle.std.specs.List.{position_from}
use Rattle.std.specs.Option.{option_map, unwrap_or}
use Rattle.std.specs.Str.{bytes_eq}
use Rattle.std.specs.declared.option.Option.{Option}
use Rattle.std.proofs.lemmas.Bool.{eqb-true}
use Rattle.std.proofs.lemmas.Slice.Eq.{bytes_eq-Decides}
use Rattle.op_amount.specs.Asset.{is_same_asset}
use Rattle.op_amount.specs.declared.Asset.{Asset}
use Rattle.op_amount.specs.declared.Amount.{Amount}
use Rattle.op_names.specs.declared.AddressName.{AddressName}
use Rattle.op_model.specs.History.{nth, number_of, AssetRow, AddressRow, assets, asset_number, no_asset, addresses, path_number, no_address, origin_of}
use Rattle.op_model.specs.Asking.{address_under_origin}
use Rattle.op_model.specs.AdminAnswers.{account_named, account_meant, has_asset}
use Rattle.op_model.specs.Balances.{account_asset}
use Rattle.op_model.specs.Shown.{path_of_address}
use Rattle.op_model.specs.Legal.{name_of_address, name_of_account, asset_named, asset_of_account, amount_of}
use Rattle.op_model.specs.declared.act.Account.{Account}
use Rattle.op_model.specs.declared.act.Account.TheVariants.{Outside, Pool, Fees, Wallet}
use Rattle.op_model.specs.declared.act.Entry.{Entry}
use Rattle.op_model.specs.declared.request.AccountName.{AccountName}
use Rattle.op_model.specs.declared.request.AccountName.TheVariants as names
use Rattle.op_legal.proofs.Chains.{none_is_not, some_is}

-- ---- tests

pub both_left : (a b : Bool) → (a && b) ≡ true → a ≡ true
both_left true b h = refl
both_left false b h = absurd (let e : false ≡ true = h in cc)

pub both_right : (a b : Bool) → (a && b) ≡ true → b ≡ true
both_right true b h = h
both_right false b h = absurd (let e : false ≡ true = h in cc)

pub not_false : (b : Bool) → not b ≡ false → b ≡ true
not_false true h = refl
not_false false h = absurd (let e : true ≡ false = h in cc)

pub bytes_are : (xs ys : List ℕ) → bytes_eq xs ys ≡ true → xs ≡ ys
bytes_are xs ys h = (bytes_eq-Decides xs ys).0 h

pub asset_is : (a b : Asset) → is_same_asset a b ≡ true → a ≡ b
asset_is a b h =
    let scale : a.scale ≡ b.scale = eqb-true a.scale b.scale (both_left (a.scale == b.scale) (bytes_eq a.code b.code) h) in
    let code : a.code ≡ b.code = bytes_are a.code b.code (both_right (a.scale == b.scale) (bytes_eq a.code b.code) h) in
    ap (λ (k : List ℕ). let x : Asset = record { code = k; scale = a.scale } in x) code
    ∙ ap (λ (s : ℕ). let x : Asset = record { code = b.code; scale = s } in x) scale

-- ---- numbers

-- the item whose number was found
pub record IsItem {X : Type 0} (test : X → Bool) (xs : List X) (n : ℕ) : Type 0 where
  pub item : X
  pub there : nth xs n ≡ Some item
  pub passes : test item ≡ true

record IsAt {X : Type 0} (test : X → Bool) (xs : List X) (n k : ℕ) : Type 0 where
  place : ℕ
  number : k ≡ n + place
  item : X
  there : slice_get xs place ≡ Some item
  passes : test item ≡ true

found_at : {X : Type 0} (test : X → Bool) (x : X) (xs : List X) (n k : ℕ) (b : Bool) → test x ≡ b → cond b (Some n) (position_from test (n + 1) xs) ≡ Some k → (position_from test (n + 1) xs ≡ Some k → IsAt test xs (n + 1) k) → IsAt test (x ∷ xs) n k
found_at test x xs n k true passes h more = let e : n ≡ k = some_is n k h in record { place = 0; number = omega (arith, e); item = x; there = refl; passes = passes }
found_at test x xs n k false passes h more =
    let rest = more h in
    record { place = suc rest.place; number = omega (arith, rest.number); item = rest.item; there = rest.there; passes = rest.passes }

found_from : {X : Type 0} (test : X → Bool) (xs : List X) (n k : ℕ) → position_from test n xs ≡ Some k → IsAt test xs n k
found_from test [] n k h = none_is_not k h
found_from test (x ∷ xs) n k h = found_at test x xs n k (test x) refl h (found_from test xs (n + 1) k)

pub number_found : {X : Type 0} (test : X → Bool) (xs : List X) (k : ℕ) → number_of test xs ≡ Some k → IsItem test xs k
number_found test xs k h =
    let at = found_from test xs 1 k h in
    let number : suc at.place ≡ k = omega (arith, at.number) in
    record { item = at.item; there = subst (λ (n : ℕ). nth xs n ≡ Some at.item) number at.there; passes = at.passes }

-- ---- assets and addresses

pub asset_found : (history : List Entry) (asset : Asset) (n : ℕ) → asset_number history asset ≡ Some n → asset_named history n ≡ asset
asset_found history asset n h =
    let found = number_found (λ (row : AssetRow). is_same_asset row.asset asset) (assets history) n h in
    ap (λ (o : Option AssetRow). (unwrap_or o no_asset).asset) found.there ∙ asset_is found.item.asset asset found.passes

pub path_found : (history : List Entry) (path : List ℕ) (n : ℕ) → path_number history path ≡ Some n → path_of_address history n ≡ path
path_found history path n h =
    let found = number_found (λ (row : AddressRow). bytes_eq row.path path) (addresses history) n h in
    ap (λ (o : Option AddressRow). (unwrap_or o no_address).path) found.there ∙ bytes_are found.item.path path found.passes

address_where : (history : List Entry) (name : AddressName) (n : ℕ) (b : Bool) → bytes_eq name.origin (origin_of history) ≡ b → cond b (path_number history name.path) None ≡ Some n → name_of_address history n ≡ name
address_where history name n true same h =
    let origin : origin_of history ≡ name.origin = sym (bytes_are name.origin (origin_of history) same) in
    let path : path_of_address history n ≡ name.path = path_found history name.path n h in
    ap (λ (o : List ℕ). let x : AddressName = record { origin = o; path = path_of_address history n } in x) origin
    ∙ ap (λ (p : List ℕ). let x : AddressName = record { origin = name.origin; path = p } in x) path
address_where history name n false same h = none_is_not n h

pub address_found : (history : List Entry) (name : AddressName) (n : ℕ) → address_under_origin history name ≡ Some n → name_of_address history n ≡ name
address_found history name n h = address_where history name n (bytes_eq name.origin (origin_of history)) refl h

-- ---- accounts

pool_where : (history : List Entry) (found : Option ℕ) (account : Account) → option_map Pool found ≡ Some account → name_of_account history account ≡ names.Pool
pool_where history None account h = none_is_not account h
pool_where history (Some n) account h = sym (ap (name_of_account history) (some_is (Pool n) account h))

fees_where : (history : List Entry) (found : Option ℕ) (account : Account) → option_map Fees found ≡ Some account → name_of_account history account ≡ names.Fees
fees_where history None account h = none_is_not account h
fees_where history (Some n) account h = sym (ap (name_of_account history) (some_is (Fees n) account h))

wallet_where : (history : List Entry) (name : AddressName) (found : Option ℕ) (account : Account) → address_under_origin history name ≡ found → option_map Wallet found ≡ Some account → name_of_account history account ≡ names.Address (Some name)
wallet_where history name None account is h = none_is_not account h
wallet_where history name (Some n) account is h =
    sym (ap (name_of_account history) (some_is (Wallet n) account h)) ∙ ap (λ (a : AddressName). names.Address (Some a)) (address_found history name n is)

account_found : (history : List Entry) (name : AccountName) (asset : Asset) (account : Account) → account_named history name asset ≡ Some account → name_of_account history account ≡ name
account_found history names.Pool asset account h = pool_where history (asset_number history asset) account h
account_found history names.Fees asset account h = fees_where history (asset_number history asset) account h
account_found history (names.Address None) asset account h = none_is_not account h
account_found history (names.Address (Some name)) asset account h = wallet_where history name (address_under_origin history name) account refl h

pub meant_found : (history : List Entry) (deposit : Bool) (name : AccountName) (asset : Asset) (account : Account) → account_meant history deposit name asset ≡ Some account → name_of_account history account ≡ name
meant_found history true names.Fees asset account h = none_is_not account h
meant_found history true names.Pool asset account h = account_found history names.Pool asset account h
meant_found history true (names.Address name) asset account h = account_found history (names.Address name) asset account h
meant_found history false name asset account h = account_found history name asset account h

asset_of : (history : List Entry) (account : Account) → asset_of_account history account ≡ asset_named history (account_asset history account)
asset_of history (Outside n) = refl
asset_of history (Pool n) = refl
asset_of history (Fees n) = refl
asset_of history (Wallet n) = refl

pub amount_found : (history : List Entry) (account : Account) (amount : Amount) → has_asset history account amount.asset ≡ true → amount_of (asset_of_account history account) amount.value ≡ amount
amount_found history account amount h =
    let asset : asset_of_account history account ≡ amount.asset = asset_of history account ∙ asset_is (asset_named history (account_asset history account)) amount.asset h in
    ap (λ (a : Asset). amount_of a amount.value) asset
