use Rattle.op_disk.specs.MemoryView.{contents_of, images_of}
use Rattle.op_journal.specs.Recovered.{IsFound}
use Rattle.op_journal.proofs.tests.opened.Given as goal

abbrev pub invariant-loop : goal.invariant-loop
invariant-loop l = IsFound l.recovery.length (contents_of l.disk) (images_of l.disk)
