use Rattle.std.proofs.Common.{◌≡◌, ◌++◌, length, Ok, Err, sym, ap, subst, ◌∙◌}
use Rattle.op_record.specs.declared.RecordFault.TheVariants.{Short, Bad}
use Rattle.op_record.specs.Reading.{reading}
use Rattle.op_record.specs.Cuts.{IsUnlessMemory}
use Rattle.op_record.proofs.Entries.{says_found, says_cut, says_bad, reads_whole, reads_cut, reads_bad}
use Rattle.op_record.proofs.reading.read_entry.Goals as goal

pub returns-clause-found : goal.returns-clause-found
returns-clause-found c = says_found c.read.result c.args.bytes.now c.read.ensures

pub returns-clause-short : goal.returns-clause-short
returns-clause-short c = says_cut c.read.result c.args.bytes.now c.read.ensures

pub returns-clause-bad : goal.returns-clause-bad
returns-clause-bad c = λ at e. says_bad c.read.result c.args.bytes.now at c.read.ensures e

pub returns-clause-whole : goal.returns-clause-whole
returns-clause-whole c = λ entry rest has e. subst (λ w. IsUnlessMemory c.read.result w) (ap reading e ∙ reads_whole entry rest has) c.read.ensures

pub returns-clause-cut : goal.returns-clause-cut
returns-clause-cut c = λ cut. subst (λ w. IsUnlessMemory c.read.result w) (reads_cut c.args.bytes.now cut) c.read.ensures

pub returns-clause-strange : goal.returns-clause-strange
returns-clause-strange c = λ at bad. subst (λ w. IsUnlessMemory c.read.result w) (reads_bad c.args.bytes.now at bad) c.read.ensures
