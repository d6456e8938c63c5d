use Rattle.std.proofs.Common.{◌∙◌, sym}
use Rattle.op_record.proofs.RoundSteps.{goes_on, ends, shorter, is_end, is_more}
use Rattle.op_record.proofs.rounds.read_entries.Goals as goal

pub returns-then-is_empty-clause-read : goal.returns-then-is_empty-clause-read
returns-then-is_empty-clause-read c =
    ends _ _ _ _ _ _ _ c.in_ok-entry.entry c.requires c.loop-entry.invariant c.in_ok-entry.ensures c.in_ok-push.ensures.items (is_end c.in_ok-entry.after.now (sym c.is_empty.ensures ∙ c.if-is_empty.true))

pub loop-entry-smaller : goal.loop-entry-smaller
loop-entry-smaller c = shorter _ _ _ c.in_ok-entry.entry c.requires c.in_ok-entry.ensures

pub loop-entry-preserved : goal.loop-entry-preserved
loop-entry-preserved c =
    goes_on _ _ _ _ _ _ _ c.in_ok-entry.entry c.requires c.loop-entry.invariant c.in_ok-entry.ensures c.in_ok-push.ensures.items (is_more c.in_ok-entry.after.now (sym c.is_empty.ensures ∙ c.if-is_empty.false))
