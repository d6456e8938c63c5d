-- What is found by an index is what the history numbers.
use Rattle.std.proofs.Common.{◌≡◌, ℕ, List, ◌∷◌, refl, ◌∙◌, sym, ap, map, Some, None, Option}
use Rattle.std.specs.Option.{option_and_then, option_map}
use Rattle.std.specs.Str.{bytes_eq}
use Rattle.op_amount.specs.declared.Asset.{Asset}
use Rattle.op_model.specs.AdminAnswers.{Transfer, transfers, transfer_named}
use Rattle.op_model.specs.History.{nth, number_of, assets, addresses, asset_number, path_number}
use Rattle.op_model.specs.declared.act.Entry.{Entry}
use Rattle.op_naming.specs.Indexes.{IsIndexOf, number_in}
use Rattle.op_naming.specs.Kept.{asset_key, address_key, transfer_key, transfer_kept}
use Rattle.op_naming.specs.declared.kept.TransferKept.{TransferKept}
use Rattle.op_naming.specs.declared.index.Index.{Index}
use Rattle.op_naming.proofs.Lists.{number_map, found_first, number_found, mapped_at}

pub asset_numbered : (history : List Entry) (codes : Index) (asset : Asset) → IsIndexOf codes (map asset_key (assets history)) → number_in codes (asset.scale ∷ asset.code) ≡ asset_number history asset
asset_numbered history codes asset is =
    let key = asset.scale ∷ asset.code in
    is.numbers key ∙ number_map (λ k. bytes_eq k key) asset_key (assets history)

pub path_numbered : (history : List Entry) (paths : Index) (path : List ℕ) → IsIndexOf paths (map address_key (addresses history)) → number_in paths path ≡ path_number history path
path_numbered history paths path is = is.numbers path ∙ number_map (λ k. bytes_eq k path) address_key (addresses history)

pub transfer_numbered : (history : List Entry) (ids : Index) (id : List ℕ) → IsIndexOf ids (map transfer_key (transfers history)) → number_in ids id ≡ number_of (λ (made : Transfer). bytes_eq made.id id) (transfers history)
transfer_numbered history ids id is = is.numbers id ∙ number_map (λ k. bytes_eq k id) transfer_key (transfers history)

-- the transfer of an id is the one at the number that is found
pub transfer_at : (history : List Entry) (ids : Index) (id : List ℕ) → IsIndexOf ids (map transfer_key (transfers history)) → transfer_named history id ≡ option_and_then (nth (transfers history)) (number_in ids id)
transfer_at history ids id is =
    found_first (λ (made : Transfer). bytes_eq made.id id) (transfers history) (number_in ids id) (sym (transfer_numbered history ids id is))

-- where no transfer has an id, it has no number
none_where : (history : List Entry) (o : Option ℕ) (id : List ℕ) → number_of (λ (made : Transfer). bytes_eq made.id id) (transfers history) ≡ o → transfer_named history id ≡ None → o ≡ None
none_where history None id is none = refl
none_where history (Some n) id is none =
    let item = number_found (λ (made : Transfer). bytes_eq made.id id) (transfers history) n is in
    let found : transfer_named history id ≡ nth (transfers history) n = found_first (λ (made : Transfer). bytes_eq made.id id) (transfers history) (Some n) is in
    absurd (let e : Some item.item ≡ None = sym item.there ∙ sym found ∙ none in cc)

pub no_transfer : (history : List Entry) (ids : Index) (id : List ℕ) → IsIndexOf ids (map transfer_key (transfers history)) → transfer_named history id ≡ None → number_in ids id ≡ None
no_transfer history ids id is none = none_where history (number_in ids id) id (sym (transfer_numbered history ids id is)) none

pub kept_transfer : (history : List Entry) (ids : Index) (rows : List TransferKept) (id : List ℕ) (o : Option ℕ) → IsIndexOf ids (map transfer_key (transfers history)) → rows ≡ map transfer_kept (transfers history) → o ≡ number_in ids id
    → option_and_then (nth rows) o ≡ option_map transfer_kept (transfer_named history id)
kept_transfer history ids rows id o is rows_are found =
    ap (λ (l : List TransferKept). option_and_then (nth l) o) rows_are
    ∙ mapped_at transfer_kept (transfers history) o
    ∙ ap (option_map transfer_kept) (ap (option_and_then (nth (transfers history))) found ∙ sym (transfer_at history ids id is))
