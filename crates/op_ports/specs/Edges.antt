-- The edges: what stands behind them tells, and how often a call has failed.
use Rattle.std.specs.Prelude.{ℕ, List}
use Rattle.std.specs.declared.option.Option.{Option}
use Rattle.op_ports.specs.declared.source.ReadSource.{ReadSource}
use Rattle.op_ports.specs.declared.sink.WriteSink.{WriteSink}
use Rattle.op_ports.specs.declared.clock.SystemClock.{SystemClock}
use Rattle.op_ports.specs.declared.words.SystemWords.{SystemWords}

abbrev pub reader_left : {R : Type 0} → (R → Option (List ℕ)) → ReadSource R → Option (List ℕ)
reader_left remaining s = remaining s.inner

abbrev pub reader_faults : {R : Type 0} → ReadSource R → ℕ
reader_faults s = s.faults

abbrev pub writer_written : {W : Type 0} → (W → Option (List ℕ)) → WriteSink W → Option (List ℕ)
writer_written contents s = contents s.inner

abbrev pub writer_faults : {W : Type 0} → WriteSink W → ℕ
writer_faults s = s.faults

-- what the system's clock and its random bytes are asked of
abbrev pub clock_runtime : {R : Type 0} → SystemClock R → R
clock_runtime c = c.rt

abbrev pub words_runtime : {R : Type 0} → SystemWords R → R
words_runtime w = w.rt

abbrev pub system_faults : {R : Type 0} → SystemWords R → ℕ
system_faults w = w.faults
