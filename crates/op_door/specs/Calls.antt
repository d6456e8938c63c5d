-- A call of a door in memory: what it counts, and where it fails.
use Rattle.std.specs.Prelude.{◌≡◌, Bool, true, false}
use Rattle.op_ports.specs.Counts.{counted}
use Rattle.op_door.specs.Memory.{door_calls, door_failing}
use Rattle.op_door.specs.declared.door.Next.{Next}
use Rattle.op_door.specs.declared.memory.MemoryDoor.{MemoryDoor}
use Rattle.op_door.specs.declared.door.Next.TheVariants as next

-- what each call leaves as it was, or counts
pub record IsCalled (old new : MemoryDoor) : Type 0 where
  pub calls : door_calls new ≡ counted (door_calls old)
  pub failing : door_failing new ≡ door_failing old

-- a call fails exactly where it is listed
abbrev pub FailsWhere : {C : Type 0} → (listed : Bool) → Next C → Type 0
FailsWhere listed next.Failed = listed ≡ true
FailsWhere listed _ = listed ≡ false
