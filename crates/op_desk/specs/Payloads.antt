-- What the payload of a frame gives.
use Rattle.std.specs.Prelude.{◌≡◌, ◌++◌, ℕ, List}
use Rattle.op_model.specs.declared.act.Entry.{Entry}
use Rattle.op_record.specs.Rounds.{IsRound, IsInRound}
use Rattle.op_desk.specs.Wallets.{IsSound}
use Rattle.op_desk.specs.declared.fault.DeskFault.{DeskFault}
use Rattle.op_desk.specs.declared.fault.DeskFault.TheVariants as faults

-- the payload is a round, with which the history stays legal
pub record IsLoaded (payload : List ℕ) (old new : List Entry) : Type 0 where
  pub round : List Entry
  pub is : IsRound payload round
  pub grown : new ≡ old ++ round
  pub sound : IsSound new

-- a round at its moment takes the entry
abbrev pub CanBePut : Entry → Type 0
CanBePut entry = IsInRound entry.at entry

-- the faults that a payload may have
abbrev pub IsOfPayload : DeskFault → Type 0
IsOfPayload faults.DiskFault = ⊥
IsOfPayload faults.BadHeader = ⊥
IsOfPayload (faults.BadFrame at) = ⊥
IsOfPayload (faults.BadRecord at) = Unit {0}
IsOfPayload (faults.Illegal place) = Unit {0}
IsOfPayload faults.Memory = Unit {0}
