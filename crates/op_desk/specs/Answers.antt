-- What the wallet replies.
use Rattle.std.specs.Prelude.{ℕ, Bool, false, not, ◌&&◌, nat_le, List}
use Rattle.std.specs.List.{list_any}
use Rattle.std.specs.Option.{option_map_or}
use Rattle.op_amount.specs.Asset.{is_same_asset}
use Rattle.op_amount.specs.declared.Asset.{Asset}
use Rattle.op_model.specs.History.{asset_added, last_moment, origin_of}
use Rattle.op_model.specs.declared.act.Entry.{Entry}
use Rattle.op_model.specs.declared.reply.Reply.{Reply}
use Rattle.op_model.specs.declared.reply.ReplyBody.{ReplyBody}

-- the entry adds this asset
abbrev pub adds : Asset → Entry → Bool
adds asset entry = option_map_or (λ row. is_same_asset row.asset asset) (asset_added entry.act) false

-- a reply on a history
abbrev pub reply_with : List Entry → ReplyBody → Reply
reply_with history body = record { origin = origin_of history; body = body }

-- an asset with this scale and these pieces may be added at a moment, whatever its code is
abbrev pub may_add : List Entry → ℕ → Asset → ℕ → Bool
may_add history t asset pieces =
    (nat_le asset.scale 18 && (nat_le 1 pieces && nat_le pieces 64)) && (nat_le (last_moment history) t && not (list_any (adds asset) history))
