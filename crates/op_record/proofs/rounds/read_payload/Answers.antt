use Rattle.op_record.proofs.RoundLaws.{records_short, records_bad, round_all_read, round_short, round_bad, moment_told_short, moment_told_bad}
use Rattle.op_record.specs.declared.fault.Fault.TheVariants.{Short, Bad}
use Rattle.op_record.proofs.rounds.read_payload.Goals as goal

pub returns-in_default-clause-short : goal.returns-in_default-clause-short
returns-in_default-clause-short c = λ e. records_short _ c.in_default.ensures (c.read_entries.ensures.stops Short e)

pub returns-in_default-clause-bad : goal.returns-in_default-clause-bad
returns-in_default-clause-bad c = λ left e. records_bad _ left c.in_default.ensures (c.read_entries.ensures.stops (Bad left) e)

pub returns-in-Ok-clause-read : goal.returns-in-Ok-clause-read
returns-in-Ok-clause-read c = round_all_read c.read_entries-in-Ok.result _ _ _ c.in-Ok.at _ _ c.in-Some.ensures c.in-Ok.ensures.gives c.read_entries-in-Ok.ensures.read

pub returns-in-Ok-clause-short : goal.returns-in-Ok-clause-short
returns-in-Ok-clause-short c = λ e. round_short _ _ _ c.in-Ok.at c.in-Some.ensures c.in-Ok.ensures.gives (c.read_entries-in-Ok.ensures.stops Short e)

pub returns-in-Ok-clause-bad : goal.returns-in-Ok-clause-bad
returns-in-Ok-clause-bad c = λ left e. round_bad _ _ _ c.in-Ok.at left c.in-Some.ensures c.in-Ok.ensures.gives (c.read_entries-in-Ok.ensures.stops (Bad left) e)

pub returns-in-Err-clause-short : goal.returns-in-Err-clause-short
returns-in-Err-clause-short c = λ e. moment_told_short _ _ c.in-Err.error c.in-Some.ensures c.in-Err.ensures.gives e

pub returns-in-Err-clause-bad : goal.returns-in-Err-clause-bad
returns-in-Err-clause-bad c = λ left e. moment_told_bad _ _ c.in-Err.error left c.in-Some.ensures c.in-Err.ensures.gives e
