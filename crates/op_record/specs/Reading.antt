-- What reading gives: the entry and the bytes that it took, or the fault and its place.
use Rattle.std.specs.Prelude.{ℕ, ◌-◌, List, length, Result, Ok, Err}
use Rattle.op_model.specs.declared.act.Entry.{Entry}
use Rattle.op_record.specs.declared.fault.Fault.{Fault}
use Rattle.op_record.specs.declared.fault.Fault.TheVariants as faults
use Rattle.op_record.specs.declared.RecordFault.{RecordFault}
use Rattle.op_record.specs.declared.RecordFault.TheVariants.{Short, Bad}
use Rattle.op_record.specs.Rows.{entry_at}

-- by the number of all bytes
abbrev pub told : ℕ → Result (Entry × List ℕ) Fault → Result (Entry × ℕ) RecordFault
told n (Ok x) = Ok (x.0, n - length x.1)
told n (Err faults.Short) = Err Short
told n (Err (faults.Bad left)) = Err (Bad (n - left))

abbrev pub reading : List ℕ → Result (Entry × ℕ) RecordFault
reading bytes = told (length bytes) (entry_at bytes)
