use Rattle.std.proofs.Common.{◌≡◌, ◌∙◌, sym, ap, Bool, false, ◌++◌, ◌∷◌, [], Result, Ok, Err, OnOk}
use Rattle.std.specs.Result.{is_err}
use Rattle.std.proofs.lemmas.Bool.{true≢false}
use Rattle.op_disk.specs.declared.memory.Call.TheVariants.{Write}
use Rattle.op_disk.proofs.Replay.{write_follows, write_reads}
use Rattle.op_disk.proofs.memory.MemoryDiskDisk.write_at.Goals as goal

pub returns-then-failed-clause-crash : goal.returns-then-failed-clause-crash
returns-then-failed-clause-crash c =
    write_follows c.args.self.now.first.items c.args.self.now.calls.items c.record_write-written.new.calls.items c.args.at c.args.from.now c.next_fails-failed.result c.record_write-written.ensures.kept

pub returns-clause-crash : goal.returns-clause-crash
returns-clause-crash c =
    write_follows c.args.self.now.first.items c.args.self.now.calls.items c.record_write-written.new.calls.items c.args.at c.args.from.now c.next_fails-failed.result c.record_write-written.ensures.kept

pub invariant_of-self-clause-reads : goal.invariant_of-self-clause-reads
invariant_of-self-clause-reads c =
    write_reads c.args.self.now.first.items c.args.self.now.calls.items c.record_write-written.new.calls.items c.args.at c.args.from.now c.next_fails-failed.result c.requires c.record_write-written.ensures.kept c.args.self.now.reads

pub invariant_of-self-then-failed-clause-reads : goal.invariant_of-self-then-failed-clause-reads
invariant_of-self-then-failed-clause-reads c =
    write_reads c.args.self.now.first.items c.args.self.now.calls.items c.record_write-written.new.calls.items c.args.at c.args.from.now c.next_fails-failed.result c.requires c.record_write-written.ensures.kept c.args.self.now.reads

of_ok : {T E A : Type 0} (r : Result T E) → OnOk r A → is_err r ≡ false → A
of_ok (Ok x) told good = told
of_ok (Err e) told good = absurd (true≢false good)

pub returns-clause-recorded : goal.returns-clause-recorded
returns-clause-recorded c =
    let was = of_ok c.record_write-written.result c.record_write-written.ensures.recorded (sym c.is_err.ensures.value ∙ c.if-is_err.false) in
    (was.0, was.1, was.2 ∙ ap (λ (failed : Bool). c.args.self.now.calls.items ++ Write c.args.at was.0 failed ∷ []) c.if-failed.false)
