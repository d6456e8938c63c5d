use Rattle.std.proofs.Common.{◌≡◌, ◌≤◌, ℕ, length, sym, ap, subst, Option, rules}
use Rattle.std.specs.Prelude.{IsTrue, IfSome}
use Rattle.op_model.specs.History.{last_moment}
use Rattle.op_model.specs.Legal.{is_proper}
use Rattle.op_model.specs.declared.request.Task.{Task}
use Rattle.op_legal.proofs.Chains.{act_in}
use Rattle.op_wallet.specs.Answers.{Handles, is_built_task}
use Rattle.op_wallet.proofs.Answering.{refused_handles, told_handles, act_handles, wants_memory, planned_next}
use Rattle.op_wallet.proofs.Words.{request_draws, drawn}
use Rattle.op_wallet.proofs.wallet.Wallet.answer.Goals as goal

pub act-requires-clause-next : goal.act-requires-clause-next
act-requires-clause-next g c =
    let a = c.in-Ask in
    let history = c.args.self.now.history in
    let plan = rw c.in-Ok-Acts.field-0-is at c.in-Ok-Acts.ensures in
    planned_next history c.args.t c.args.word.now a.request a.verdict c.in-Ok-Acts.act c.in-Ok-Acts.body
    (subst (λ (o : Option ℕ). IfSome o (λ t. last_moment history ≤ t)) c.requires.round c.last-later.ensures.later)
    c.ms-at_most_last.ensures.bound
    (subst (λ (k : Task). IsTrue (is_built_task k)) a.is c.requires.built)
    (subst (λ (k : Task). IsTrue (is_proper history k)) a.is c.requires.proper)
    (plan 0)

pub act-requires-clause-word : goal.act-requires-clause-word
act-requires-clause-word g c =
    let plan = rw c.in-Ok-Acts.field-0-is at c.in-Ok-Acts.ensures in
    let a = c.in-Ask in
    let size : length c.args.word.now ≡ 16 = search rules in
    drawn c.args.word.now c.in-Ok-Acts.act size
    (request_draws c.args.self.now.history c.args.t c.args.word.now 0 a.request a.verdict c.in-Ok-Acts.act (ap act_in (plan 0).0))

pub returns-in-Ok-Refused-clause-handled : goal.returns-in-Ok-Refused-clause-handled
returns-in-Ok-Refused-clause-handled g c place =
    let a = c.in-Ask in
    let history = c.args.self.now.history in
    let plan = rw c.in-Ok-Refused.field-0-is at c.in-Ok-Refused.ensures in
    let built = subst (λ (k : Task). IsTrue (is_built_task k)) a.is c.requires.built in
    subst (λ (k : Task). Handles g.F.FeeTerms.allows history c.args.t place k c.args.word.now c.refused.result.reply history) (sym a.is)
    (refused_handles g.F.FeeTerms.allows history c.args.t place c.args.word.now a.request a.verdict built c.in-Ok-Refused.refusal c.refused.result.reply (plan 0) c.refused.ensures.reply)

pub returns-in-Ok-Told-clause-handled : goal.returns-in-Ok-Told-clause-handled
returns-in-Ok-Told-clause-handled g c place =
    let a = c.in-Ask in
    let history = c.args.self.now.history in
    let plan = rw c.in-Ok-Told.field-0-is at c.in-Ok-Told.ensures in
    let built = subst (λ (k : Task). IsTrue (is_built_task k)) a.is c.requires.built in
    subst (λ (k : Task). Handles g.F.FeeTerms.allows history c.args.t place k c.args.word.now c.reply.result history) (sym a.is)
    (told_handles g.F.FeeTerms.allows history c.args.t place c.args.word.now a.request a.verdict built c.in-Ok-Told.body c.reply.result (plan 0) c.reply.ensures)

pub returns-in-Err-clause-handled : goal.returns-in-Err-clause-handled
returns-in-Err-clause-handled g c place =
    let a = c.in-Ask in
    let history = c.args.self.now.history in
    let built = subst (λ (k : Task). IsTrue (is_built_task k)) a.is c.requires.built in
    subst (λ (k : Task). Handles g.F.FeeTerms.allows history c.args.t place k c.args.word.now c.refused-in-Err.result.reply history) (sym a.is)
    (wants_memory g.F.FeeTerms.allows history c.args.t place c.args.word.now a.request a.verdict built c.refused-in-Err.result.reply c.refused-in-Err.ensures.reply)

pub returns-in-Ok-Acts-clause-handled : goal.returns-in-Ok-Acts-clause-handled
returns-in-Ok-Acts-clause-handled g c place =
    let a = c.in-Ask in
    let old = c.args.self.now in
    let plan = rw c.in-Ok-Acts.field-0-is at c.in-Ok-Acts.ensures in
    let built = subst (λ (k : Task). IsTrue (is_built_task k)) a.is c.requires.built in
    subst (λ (k : Task). Handles g.F.FeeTerms.allows old.history c.args.t place k c.args.word.now c.act.result.reply c.act.new.self.history) (sym a.is)
    (act_handles g.F.FeeTerms.allows old c.act.new.self c.args.t place c.args.word.now a.request a.verdict built c.in-Ok-Acts.act c.in-Ok-Acts.body c.act.result.reply
    (plan 0) c.act.result.entry c.act.ensures.some c.act.ensures.none)
