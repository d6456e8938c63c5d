-- What is seen of a history that is kept.
use Rattle.std.specs.Prelude.{◌≡◌, ℕ, ◌+◌, ◌*◌, ◌-◌, ◌≤◌, List, [], ◌∷◌, ◌++◌, length, IfSome}
use Rattle.op_model.specs.History.{last_moment}
use Rattle.op_model.specs.declared.act.Entry.{Entry}
use Rattle.op_record.specs.Packing.{PackedValue}
use Rattle.op_record.specs.Rounds.{act_in}
use Rattle.op_wallet.specs.declared.history.History.TheInside.{Inside}

-- the most bytes of an entry of a step, an expiry or an attempt
abbrev pub short_entry : ℕ
short_entry = 26

pub record HistoryValue : Type 0 where
  -- the entries, those of the open round at the end, and the bytes that are left for more
  pub packed : PackedValue
  -- so many steps, expiries and attempts more take no memory
  pub spare : ℕ

abbrev pub history_of : Inside → HistoryValue
history_of h = record { packed = h.packed; spare = h.spare }

-- the open round's moment is not below the last one
abbrev pub IsLater : List Entry → ℕ → Type 0
IsLater entries t = last_moment entries ≤ t

pub record IsKept (h : Inside) : Type 0 where
  pub last_is : h.last ≡ last_moment h.packed.entries
  pub opened_is : h.opened ≡ h.packed.moment
  pub later : IfSome h.packed.moment (IsLater h.packed.entries)
  pub room : short_entry * h.spare ≤ h.packed.room

-- beside the spare entries there is room for this one
abbrev pub HasRoomFor : HistoryValue → Entry → Type 0
HasRoomFor h entry = short_entry * h.spare + length (act_in entry) ≤ h.packed.room

-- the history with one entry more
abbrev pub with_one : PackedValue → Entry → PackedValue
with_one p entry =
    record { entries = p.entries ++ entry ∷ []; moment = p.moment; round = p.round ++ entry ∷ []; room = p.room - length (act_in entry) }

-- the same entries, with at least the room that there was
pub record IsRoomier (old new : HistoryValue) : Type 0 where
  pub entries : new.packed.entries ≡ old.packed.entries
  pub moment : new.packed.moment ≡ old.packed.moment
  pub round : new.packed.round ≡ old.packed.round
  pub spare : old.spare ≤ new.spare
