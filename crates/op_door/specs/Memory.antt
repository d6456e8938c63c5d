-- A door in memory: what it holds.
use Rattle.std.specs.Prelude.{ℕ, Bool, ◌==◌, List, reverse}
use Rattle.std.specs.List.{list_any}
use Rattle.op_door.specs.declared.door.Told.{Told}
use Rattle.op_door.specs.declared.door.Conn.{Conn}
use Rattle.op_door.specs.declared.memory.MemoryDoor.{MemoryDoor}
use Rattle.op_ports.specs.declared.source.MemorySource.{MemorySource}
use Rattle.op_ports.specs.declared.sink.MemorySink.{MemorySink}

-- the answers to come: they are kept with the next one last
abbrev pub door_coming : MemoryDoor → List (Told (Conn MemorySource MemorySink))
door_coming d = reverse d.coming.items

abbrev pub door_finished : MemoryDoor → List (Conn MemorySource MemorySink)
door_finished d = d.finished.items

abbrev pub door_given : MemoryDoor → ℕ
door_given d = d.given

abbrev pub door_faults : MemoryDoor → ℕ
door_faults d = d.faults

-- the numbers of the calls of `next` that fail
abbrev pub door_failing : MemoryDoor → List ℕ
door_failing d = d.failing.items

abbrev pub door_calls : MemoryDoor → ℕ
door_calls d = d.calls

-- the next call is one of those that fail
abbrev pub door_fails : MemoryDoor → Bool
door_fails d = list_any (λ call. call == door_calls d) (door_failing d)
