use Rattle.std.proofs.Common.{◌≡◌, inl, rules}
use Rattle.op_disk.proofs.memory.record_write.Goals as goal

pub returns-then-not-failed-clause-recorded : goal.returns-then-not-failed-clause-recorded
returns-then-not-failed-clause-recorded c =
    let same : c.in_ok-copy.copy.items ≡ c.args.from.now = search rules in
    (c.in_ok-copy.copy, same, c.in_ok-push.ensures.items)

pub returns-else-not-failed-clause-recorded : goal.returns-else-not-failed-clause-recorded
returns-else-not-failed-clause-recorded c =
    let same : c.in_ok-copy.copy.items ≡ c.args.from.now = search rules in
    (c.in_ok-copy.copy, same, c.in_ok-push.ensures.items)

pub returns-then-not-failed-clause-kept : goal.returns-then-not-failed-clause-kept
returns-then-not-failed-clause-kept c =
    let same : c.in_ok-copy.copy.items ≡ c.args.from.now = search rules in
    inl (c.in_ok-copy.copy, same, c.in_ok-push.ensures.items)

pub returns-else-not-failed-clause-kept : goal.returns-else-not-failed-clause-kept
returns-else-not-failed-clause-kept c =
    let same : c.in_ok-copy.copy.items ≡ c.args.from.now = search rules in
    inl (c.in_ok-copy.copy, same, c.in_ok-push.ensures.items)
