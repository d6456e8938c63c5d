-- The faults of the layers below, as a desk names them.
use Rattle.op_journal.specs.declared.recovery.JournalFault.{JournalFault}
use Rattle.op_journal.specs.declared.recovery.JournalFault.TheVariants as journal
use Rattle.op_desk.specs.declared.fault.LoadFault.{LoadFault}
use Rattle.op_desk.specs.declared.fault.LoadFault.TheVariants as wallet
use Rattle.op_desk.specs.declared.fault.DeskFault.{DeskFault}
use Rattle.op_desk.specs.declared.fault.DeskFault.TheVariants as faults

abbrev pub of_journal : JournalFault → DeskFault
of_journal journal.DiskFault = faults.DiskFault
of_journal journal.BadHeader = faults.BadHeader
of_journal (journal.BadFrame at) = faults.BadFrame at
of_journal journal.Memory = faults.Memory

abbrev pub of_wallet : LoadFault → DeskFault
of_wallet (wallet.Illegal place) = faults.Illegal place
of_wallet wallet.Memory = faults.Memory
