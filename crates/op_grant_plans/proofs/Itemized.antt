-- What replies tell of items stays behind an act that adds no address and no asset.
use Rattle.std.proofs.Common.{◌≡◌, ℕ, true, false, List, ◌++◌, map, ◌∙◌, ap, None, Option, append-nil}
use Rattle.std.specs.Option.{option_map, option_and_then, option_to_list, unwrap_or}
use Rattle.op_granting.specs.Models.{behind}
use Rattle.op_model.specs.History.{AssetRow, AddressRow, nth, assets, addresses, asset_added, address_added, no_asset, no_address}
use Rattle.op_model.specs.Shown.{items_shown, cap_of_kind}
use Rattle.op_model.specs.declared.act.Act.{Act}
use Rattle.op_model.specs.declared.act.Entry.{Entry}
use Rattle.op_model.specs.declared.grant.Cap.{Cap}
use Rattle.op_model.specs.declared.grant.Item.{Item}
use Rattle.op_model.specs.declared.grant.Limits.{Limits}
use Rattle.op_model.specs.declared.reply.ItemShown.{ItemShown}
use Rattle.op_model.specs.declared.reply.LimitsShown.{LimitsShown}
use Rattle.op_amount.specs.declared.Amount.{Amount}
use Rattle.op_model.proofs.Next.{assets-next, addresses-next}

abbrev cap_by : List AssetRow → Cap → Amount
cap_by rows cap = record { value = cap.sum.value; asset = (unwrap_or (nth rows cap.sum.asset) no_asset).asset }

abbrev limits_by : List AssetRow → Limits → LimitsShown
limits_by rows limits =
    record {
      receiver = limits.receiver;
      debit = option_map (cap_by rows) (option_and_then (cap_of_kind true) limits.cap);
      receive = option_map (cap_by rows) (option_and_then (cap_of_kind false) limits.cap);
      interval = limits.interval;
    }

-- an item by the addresses and the assets that it names
abbrev item_by : List AddressRow → List AssetRow → Item → ItemShown
item_by paths rows item =
    record {
      kind = item.kind;
      actions = item.actions;
      identifier = option_map (λ (n : ℕ). (unwrap_or (nth paths n) no_address).path) item.identifier;
      limits = option_map (limits_by rows) item.limits;
    }

addresses_stay : (history : List Entry) (t : ℕ) (act : Act) → address_added act ≡ None → addresses (behind history t act) ≡ addresses history
addresses_stay history t act none =
    addresses-next history (record { at = t; act = act }) ∙ ap (λ (o : Option AddressRow). addresses history ++ option_to_list o) none ∙ append-nil (addresses history)

assets_stay : (history : List Entry) (t : ℕ) (act : Act) → asset_added act ≡ None → assets (behind history t act) ≡ assets history
assets_stay history t act none =
    assets-next history (record { at = t; act = act }) ∙ ap (λ (o : Option AssetRow). assets history ++ option_to_list o) none ∙ append-nil (assets history)

pub shown_stays : (history : List Entry) (t : ℕ) (act : Act) (items : List Item) → address_added act ≡ None → asset_added act ≡ None → items_shown (behind history t act) items ≡ items_shown history items
shown_stays history t act items no_path no_row =
    ap (λ (paths : List AddressRow). map (item_by paths (assets (behind history t act))) items) (addresses_stay history t act no_path)
    ∙ ap (λ (rows : List AssetRow). map (item_by (addresses history) rows) items) (assets_stay history t act no_row)
