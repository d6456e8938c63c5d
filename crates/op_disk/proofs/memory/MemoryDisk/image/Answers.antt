use Rattle.op_disk.proofs.Images.{reaches, leaves}
use Rattle.op_disk.specs.MemoryView.{synced_of, written_of}
use Rattle.op_disk.proofs.memory.MemoryDisk.image.Goals as goal

pub returns-in_err-synced-clause-by_steps : goal.returns-in_err-synced-clause-by_steps
returns-in_err-synced-clause-by_steps c image =
    let disk = c.args.self.now in
    (reaches (synced_of disk) (written_of disk) image, leaves (synced_of disk) (written_of disk) image)

pub returns-in_err-image-clause-by_steps : goal.returns-in_err-image-clause-by_steps
returns-in_err-image-clause-by_steps c image =
    let disk = c.args.self.now in
    (reaches (synced_of disk) (written_of disk) image, leaves (synced_of disk) (written_of disk) image)

pub returns-clause-by_steps : goal.returns-clause-by_steps
returns-clause-by_steps c image =
    let disk = c.args.self.now in
    (reaches (synced_of disk) (written_of disk) image, leaves (synced_of disk) (written_of disk) image)
