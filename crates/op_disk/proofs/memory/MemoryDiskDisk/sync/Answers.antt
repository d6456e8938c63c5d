use Rattle.op_disk.proofs.Replay.{sync_only}
use Rattle.op_disk.proofs.memory.MemoryDiskDisk.sync.Goals as goal

pub returns-clause-durable : goal.returns-clause-durable
returns-clause-durable c = sync_only c.args.self.now.first.items c.args.self.now.calls.items c.record.new.calls.items c.next_fails-failed.result c.in_ok-record.ensures.ok.0 c.in_ok-record.ensures.ok.1
