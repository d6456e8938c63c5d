-- Moments: milliseconds since the first of January 1970, up to the last one.
use Rattle.std.specs.Prelude.{ℕ, nat_le, if◌then◌else◌, Some, None}
use Rattle.std.specs.declared.option.Option.{Option}
use Rattle.op_time.specs.declared.TheConstants.{LAST}

-- a number of milliseconds, where it is a moment
abbrev pub moment_or_none : ℕ → Option ℕ
moment_or_none ms = if nat_le ms LAST then Some ms else None
