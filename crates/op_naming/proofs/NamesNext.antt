-- The names behind one entry more.
use Rattle.std.proofs.Common.{◌≡◌, ℕ, ◌+◌, Bool, true, false, List, [], ◌∷◌, ◌++◌, length, refl, ◌∙◌, sym, ap, subst, Some, None, Option, map, append-nil, arith}
use Rattle.std.specs.Prelude.{◌&&◌, ◌==◌, not, codes, unwrap_or, if◌then◌else◌}
use Rattle.std.specs.List.{filter_map}
use Rattle.std.specs.Option.{option_to_list}
use Rattle.std.proofs.lemmas.List.{map-append, length_push}
use Rattle.std.proofs.lemmas.Bool.Decides.{nat_tests}
use Rattle.op_amount.specs.declared.Asset.{Asset}
use Rattle.op_amount.specs.declared.Rate.{Rate}
use Rattle.op_model.specs.AdminAnswers.{Transfer, transfers, transfer_of, transfer_act}
use Rattle.op_model.specs.History.{AssetRow, AddressRow, last, origins, origin_set, origin_of, assets, asset_added, addresses, address_added, rate_set}
use Rattle.op_model.specs.declared.act.Act.{Act}
use Rattle.op_model.specs.declared.act.Act.TheVariants as acts
use Rattle.op_model.specs.declared.act.Entry.{Entry}
use Rattle.op_model.proofs.Next.{origins-next, assets-next, addresses-next, transfers-next, collected-next, last-next}
use Rattle.op_naming.specs.Indexes.{IsIndexOf, IsSameIndex}
use Rattle.op_naming.specs.Kept.{asset_kept, address_kept, transfer_kept, asset_key, address_key, transfer_key, asset_text}
use Rattle.op_naming.specs.Added.{AddsNone}
use Rattle.op_naming.specs.Names.{AreNames, AreAlike, has_origin}
use Rattle.op_naming.specs.Rates.{AreRatesOf, rate_in}
use Rattle.op_naming.specs.declared.index.Index.{Index}
use Rattle.op_naming.specs.declared.kept.AddressKept.{AddressKept}
use Rattle.op_model.specs.declared.act.Account.{Account}
use Rattle.op_naming.specs.declared.kept.TransferKept.{TransferKept}
use Rattle.op_naming.specs.declared.names.Names.{Names}
use Rattle.op_naming.specs.declared.rates.Rates.{Rates}

-- ---- other room

same_index : (old new : Index) (keys : List (List ℕ)) → IsSameIndex old new → IsIndexOf old keys → IsIndexOf new keys
same_index old new keys same is = record { count = same.count ∙ is.count; numbers = λ text. same.numbers text ∙ is.numbers text }

pub alike_names : (history : List Entry) (old new : Names) → AreAlike old new → AreNames history old → AreNames history new
alike_names history old new a is = record {
  origin_is = a.origin ∙ is.origin_is;
  fixed = a.fixed ∙ is.fixed;
  assets_are = a.of_assets ∙ is.assets_are;
  codes_are = same_index old.codes new.codes (map asset_key (assets history)) a.of_codes is.codes_are;
  addresses_are = a.of_addresses ∙ is.addresses_are;
  paths_are = same_index old.paths new.paths (map address_key (addresses history)) a.of_paths is.paths_are;
  transfers_are = a.of_transfers ∙ is.transfers_are;
  ids_are = same_index old.ids new.ids (map transfer_key (transfers history)) a.of_ids is.ids_are;
  rates_are = λ source target. a.of_rates source target ∙ is.rates_are source target;
}

-- ---- what an entry leaves

nothing_more : {X : Type 0} (xs ys : List X) (o : Option X) → ys ≡ xs ++ option_to_list o → o ≡ None → ys ≡ xs
nothing_more {X = X} xs ys o more none = more ∙ ap (λ (k : Option X). xs ++ option_to_list k) none ∙ append-nil xs

origins_stay : (history : List Entry) (e : Entry) → origin_set e.act ≡ None → origins (history ++ e ∷ []) ≡ origins history
origins_stay history e none = nothing_more (origins history) (origins (history ++ e ∷ [])) (origin_set e.act) (origins-next history e) none

pub assets_stay : (history : List Entry) (e : Entry) → asset_added e.act ≡ None → assets (history ++ e ∷ []) ≡ assets history
assets_stay history e none = nothing_more (assets history) (assets (history ++ e ∷ [])) (asset_added e.act) (assets-next history e) none

pub addresses_stay : (history : List Entry) (e : Entry) → address_added e.act ≡ None → addresses (history ++ e ∷ []) ≡ addresses history
addresses_stay history e none = nothing_more (addresses history) (addresses (history ++ e ∷ [])) (address_added e.act) (addresses-next history e) none

pub transfers_stay : (history : List Entry) (e : Entry) → transfer_of e.act ≡ None → transfers (history ++ e ∷ []) ≡ transfers history
transfers_stay history e none = nothing_more (transfers history) (transfers (history ++ e ∷ [])) (transfer_of e.act) (transfers-next history e) none

pub rates_stay : (history : List Entry) (e : Entry) (rates : Rates) → ((source target : ℕ) → rate_set source target e.act ≡ None) → AreRatesOf history rates → AreRatesOf (history ++ e ∷ []) rates
rates_stay history e rates none is source target =
    let choice : Entry → Option Rate = λ k. rate_set source target k.act in
    is source target ∙ ap last (sym (nothing_more (filter_map choice history) (filter_map choice (history ++ e ∷ [])) (choice e) (collected-next choice history e) (none source target)))

module _ (history : List Entry) (e : Entry) (names : Names) (is : AreNames history names) where
  pub origin_still : origin_set e.act ≡ None → names.origin ≡ origin_of (history ++ e ∷ [])
  origin_still none = is.origin_is ∙ ap (λ (set : List (List ℕ)). unwrap_or (last set) (codes "https://wallet.example")) (sym (origins_stay history e none))

  pub fixed_still : origin_set e.act ≡ None → names.is_set ≡ has_origin (history ++ e ∷ [])
  fixed_still none = is.fixed ∙ ap (λ (set : List (List ℕ)). not (length set == 0)) (sym (origins_stay history e none))

  pub assets_still : asset_added e.act ≡ None → names.assets.items ≡ map asset_kept (assets (history ++ e ∷ []))
  assets_still none = is.assets_are ∙ ap (λ (rows : List AssetRow). map asset_kept rows) (sym (assets_stay history e none))

  pub codes_still : asset_added e.act ≡ None → IsIndexOf names.codes (map asset_key (assets (history ++ e ∷ [])))
  codes_still none = subst (λ (rows : List AssetRow). IsIndexOf names.codes (map asset_key rows)) (sym (assets_stay history e none)) is.codes_are

  pub addresses_still : address_added e.act ≡ None → names.addresses.items ≡ map address_kept (addresses (history ++ e ∷ []))
  addresses_still none = is.addresses_are ∙ ap (λ (rows : List AddressRow). map address_kept rows) (sym (addresses_stay history e none))

  pub paths_still : address_added e.act ≡ None → IsIndexOf names.paths (map address_key (addresses (history ++ e ∷ [])))
  paths_still none = subst (λ (rows : List AddressRow). IsIndexOf names.paths (map address_key rows)) (sym (addresses_stay history e none)) is.paths_are

  pub transfers_still : transfer_of e.act ≡ None → names.transfers.items ≡ map transfer_kept (transfers (history ++ e ∷ []))
  transfers_still none = is.transfers_are ∙ ap (λ (rows : List Transfer). map transfer_kept rows) (sym (transfers_stay history e none))

  pub ids_still : transfer_of e.act ≡ None → IsIndexOf names.ids (map transfer_key (transfers (history ++ e ∷ [])))
  ids_still none = subst (λ (rows : List Transfer). IsIndexOf names.ids (map transfer_key rows)) (sym (transfers_stay history e none)) is.ids_are

  pub rates_still : ((source target : ℕ) → rate_set source target e.act ≡ None) → AreRatesOf (history ++ e ∷ []) names.rates
  rates_still none = rates_stay history e names.rates none is.rates_are

  pub names_still : AddsNone e.act → AreNames (history ++ e ∷ []) names
  names_still none = record {
    origin_is = origin_still none.origin;
    fixed = fixed_still none.origin;
    assets_are = assets_still none.asset;
    codes_are = codes_still none.asset;
    addresses_are = addresses_still none.address;
    paths_are = paths_still none.address;
    transfers_are = transfers_still none.transfer;
    ids_are = ids_still none.transfer;
    rates_are = rates_still none.rate;
  }

-- ---- what an entry adds

one_row : {X Y : Type 0} (f : X → Y) (xs ys : List X) (x : X) (kept : List Y) → ys ≡ xs ++ x ∷ [] → kept ≡ map f xs → kept ++ f x ∷ [] ≡ map f ys
one_row f xs ys x kept more is = ap (λ l. l ++ f x ∷ []) is ∙ sym (map-append f xs (x ∷ [])) ∙ ap (map f) (sym more)

one_key : {X : Type 0} (f : X → List ℕ) (xs ys : List X) (x : X) (index : Index) → ys ≡ xs ++ x ∷ [] → IsIndexOf index (map f xs ++ f x ∷ []) → IsIndexOf index (map f ys)
one_key f xs ys x index more is = subst (IsIndexOf index) (sym (map-append f xs (x ∷ [])) ∙ ap (map f) (sym more)) is

-- an asset more
pub record TakesAsset (history : List Entry) (asset : Asset) (pieces : ℕ) (old new : Names) : Type 0 where
  pub origin : new.origin ≡ old.origin
  pub fixed : new.is_set ≡ old.is_set
  pub rows : new.assets.items ≡ old.assets.items ++ record { asset = asset; pieces = pieces } ∷ []
  pub keys : IsIndexOf new.codes (map asset_key (assets history) ++ asset_text asset ∷ [])
  pub of_addresses : new.addresses.items ≡ old.addresses.items
  pub of_paths : new.paths ≡ old.paths
  pub of_transfers : new.transfers.items ≡ old.transfers.items
  pub of_ids : new.ids ≡ old.ids
  pub of_rates : new.rates ≡ old.rates

pub asset_next : (history : List Entry) (t : ℕ) (asset : Asset) (pieces : ℕ) (old new : Names) → AreNames history old → TakesAsset history asset pieces old new
    → AreNames (history ++ record { at = t; act = acts.AssetAdded asset.code asset.scale pieces } ∷ []) new
asset_next history t asset pieces old new is taken =
    let e : Entry = record { at = t; act = acts.AssetAdded asset.code asset.scale pieces } in
    let row : AssetRow = record { asset = asset; pieces = pieces } in
    record {
      origin_is = taken.origin ∙ origin_still history e old is refl;
      fixed = taken.fixed ∙ fixed_still history e old is refl;
      assets_are = taken.rows ∙ one_row asset_kept (assets history) (assets (history ++ e ∷ [])) row old.assets.items (assets-next history e) is.assets_are;
      codes_are = one_key asset_key (assets history) (assets (history ++ e ∷ [])) row new.codes (assets-next history e) taken.keys;
      addresses_are = taken.of_addresses ∙ addresses_still history e old is refl;
      paths_are = subst (λ k. IsIndexOf k (map address_key (addresses (history ++ e ∷ [])))) (sym taken.of_paths) (paths_still history e old is refl);
      transfers_are = taken.of_transfers ∙ transfers_still history e old is refl;
      ids_are = subst (λ k. IsIndexOf k (map transfer_key (transfers (history ++ e ∷ [])))) (sym taken.of_ids) (ids_still history e old is refl);
      rates_are = subst (AreRatesOf (history ++ e ∷ [])) (sym taken.of_rates) (rates_still history e old is (λ source target. refl));
    }

-- an address more
pub record TakesAddress (history : List Entry) (row : AddressKept) (old new : Names) : Type 0 where
  pub origin : new.origin ≡ old.origin
  pub fixed : new.is_set ≡ old.is_set
  pub of_assets : new.assets.items ≡ old.assets.items
  pub of_codes : new.codes ≡ old.codes
  pub rows : new.addresses.items ≡ old.addresses.items ++ row ∷ []
  pub keys : IsIndexOf new.paths (map address_key (addresses history) ++ row.path ∷ [])
  pub of_transfers : new.transfers.items ≡ old.transfers.items
  pub of_ids : new.ids ≡ old.ids
  pub of_rates : new.rates ≡ old.rates

pub address_next : (history : List Entry) (t : ℕ) (row : AddressKept) (old new : Names) → AreNames history old → TakesAddress history row old new
    → AreNames (history ++ record { at = t; act = acts.AddressAdded row.path row.asset row.name } ∷ []) new
address_next history t row old new is taken =
    let e : Entry = record { at = t; act = acts.AddressAdded row.path row.asset row.name } in
    let added : AddressRow = record { path = row.path; asset = row.asset; name = row.name } in
    record {
      origin_is = taken.origin ∙ origin_still history e old is refl;
      fixed = taken.fixed ∙ fixed_still history e old is refl;
      assets_are = taken.of_assets ∙ assets_still history e old is refl;
      codes_are = subst (λ k. IsIndexOf k (map asset_key (assets (history ++ e ∷ [])))) (sym taken.of_codes) (codes_still history e old is refl);
      addresses_are = taken.rows ∙ one_row address_kept (addresses history) (addresses (history ++ e ∷ [])) added old.addresses.items (addresses-next history e) is.addresses_are;
      paths_are = one_key address_key (addresses history) (addresses (history ++ e ∷ [])) added new.paths (addresses-next history e) taken.keys;
      transfers_are = taken.of_transfers ∙ transfers_still history e old is refl;
      ids_are = subst (λ k. IsIndexOf k (map transfer_key (transfers (history ++ e ∷ [])))) (sym taken.of_ids) (ids_still history e old is refl);
      rates_are = subst (AreRatesOf (history ++ e ∷ [])) (sym taken.of_rates) (rates_still history e old is (λ source target. refl));
    }

-- an origin that was set
positive : (n m : ℕ) → n ≡ m + 1 → true ≡ not (n == 0)
positive n m is = grind (arith, nat_tests)

some_more : (xs ys : List (List ℕ)) (x : List ℕ) → ys ≡ xs ++ x ∷ [] → true ≡ not (length ys == 0)
some_more xs ys x more = positive (length ys) (length xs) (ap length more ∙ length_push xs x)

pub origin_next : (history : List Entry) (t : ℕ) (origin : List ℕ) (old : Names) → AreNames history old
    → AreNames (history ++ record { at = t; act = acts.OriginSet origin } ∷ []) (record old { origin = origin; is_set = true })
origin_next history t origin old is =
    let e : Entry = record { at = t; act = acts.OriginSet origin } in
    record {
      origin_is = ap (λ (o : Option (List ℕ)). unwrap_or o (codes "https://wallet.example")) (sym (ap last (origins-next history e) ∙ last-next (origins history) origin));
      fixed = some_more (origins history) (origins (history ++ e ∷ [])) origin (origins-next history e);
      assets_are = assets_still history e old is refl;
      codes_are = codes_still history e old is refl;
      addresses_are = addresses_still history e old is refl;
      paths_are = paths_still history e old is refl;
      transfers_are = transfers_still history e old is refl;
      ids_are = ids_still history e old is refl;
      rates_are = rates_still history e old is (λ source target. refl);
    }

-- a rate that was set
last_more : (b : Bool) (xs : List Rate) (rate : Rate) → last (xs ++ option_to_list (if b then Some rate else None)) ≡ (if b then Some rate else last xs)
last_more true xs rate = last-next xs rate
last_more false xs rate = ap last (append-nil xs)

pub rate_next : (history : List Entry) (t source target : ℕ) (rate : Rate) (old : Names) (more : Rates) → AreNames history old
    → ((s u : ℕ) → rate_in more s u ≡ (if (source == s) && (target == u) then Some rate else rate_in old.rates s u))
    → AreNames (history ++ record { at = t; act = acts.RateSet source target rate.num rate.den } ∷ []) (record old { rates = more })
rate_next history t source target rate old more is set =
    let e : Entry = record { at = t; act = acts.RateSet source target rate.num rate.den } in
    record {
      origin_is = origin_still history e old is refl;
      fixed = fixed_still history e old is refl;
      assets_are = assets_still history e old is refl;
      codes_are = codes_still history e old is refl;
      addresses_are = addresses_still history e old is refl;
      paths_are = paths_still history e old is refl;
      transfers_are = transfers_still history e old is refl;
      ids_are = ids_still history e old is refl;
      rates_are =
          λ s u.
          let choice : Entry → Option Rate = λ k. rate_set s u k.act in
          set s u ∙ ap (λ (o : Option Rate). if (source == s) && (target == u) then Some rate else o) (is.rates_are s u)
          ∙ sym (ap last (collected-next choice history e) ∙ last_more ((source == s) && (target == u)) (filter_map choice history) rate);
    }

-- a transfer more
pub record TakesTransfer (history : List Entry) (id : List ℕ) (made : TransferKept) (old new : Names) : Type 0 where
  pub origin : new.origin ≡ old.origin
  pub fixed : new.is_set ≡ old.is_set
  pub of_assets : new.assets.items ≡ old.assets.items
  pub of_codes : new.codes ≡ old.codes
  pub of_addresses : new.addresses.items ≡ old.addresses.items
  pub of_paths : new.paths ≡ old.paths
  pub rows : new.transfers.items ≡ old.transfers.items ++ made ∷ []
  pub keys : IsIndexOf new.ids (map transfer_key (transfers history) ++ id ∷ [])
  pub of_rates : new.rates ≡ old.rates

abbrev transfer_row : List ℕ → TransferKept → Transfer
transfer_row id made = record { deposit = made.deposit; id = id; account = made.account; value = made.value }

record AddsTransfer (act : Act) (row : Transfer) : Type 0 where
  origin : origin_set act ≡ None
  asset : asset_added act ≡ None
  address : address_added act ≡ None
  transfer : transfer_of act ≡ Some row
  rate : (source target : ℕ) → rate_set source target act ≡ None

adds_transfer : (deposit : Bool) (id : List ℕ) (account : Account) (value : ℕ) → AddsTransfer (transfer_act deposit id account value) (record { deposit = deposit; id = id; account = account; value = value })
adds_transfer true id account value = record { origin = refl; asset = refl; address = refl; transfer = refl; rate = λ source target. refl }
adds_transfer false id account value = record { origin = refl; asset = refl; address = refl; transfer = refl; rate = λ source target. refl }

pub transfer_next : (history : List Entry) (t : ℕ) (id : List ℕ) (made : TransferKept) (old new : Names) → AreNames history old → TakesTransfer history id made old new
    → AreNames (history ++ record { at = t; act = transfer_act made.deposit id made.account made.value } ∷ []) new
transfer_next history t id made old new is taken =
    let act = transfer_act made.deposit id made.account made.value in
    let e : Entry = record { at = t; act = act } in
    let row = transfer_row id made in
    let adds = adds_transfer made.deposit id made.account made.value in
    let added : transfers (history ++ e ∷ []) ≡ transfers history ++ row ∷ [] = transfers-next history e ∙ ap (λ (o : Option Transfer). transfers history ++ option_to_list o) adds.transfer in
    record {
      origin_is = taken.origin ∙ origin_still history e old is adds.origin;
      fixed = taken.fixed ∙ fixed_still history e old is adds.origin;
      assets_are = taken.of_assets ∙ assets_still history e old is adds.asset;
      codes_are = subst (λ k. IsIndexOf k (map asset_key (assets (history ++ e ∷ [])))) (sym taken.of_codes) (codes_still history e old is adds.asset);
      addresses_are = taken.of_addresses ∙ addresses_still history e old is adds.address;
      paths_are = subst (λ k. IsIndexOf k (map address_key (addresses (history ++ e ∷ [])))) (sym taken.of_paths) (paths_still history e old is adds.address);
      transfers_are = taken.rows ∙ one_row transfer_kept (transfers history) (transfers (history ++ e ∷ [])) row old.transfers.items added is.transfers_are;
      ids_are = one_key transfer_key (transfers history) (transfers (history ++ e ∷ [])) row new.ids added taken.keys;
      rates_are = subst (AreRatesOf (history ++ e ∷ [])) (sym taken.of_rates) (rates_still history e old is adds.rate);
    }
