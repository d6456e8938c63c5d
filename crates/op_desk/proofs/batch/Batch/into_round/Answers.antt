use Rattle.std.proofs.Common.{◌≡◌, ◌∙◌, ◌<◌, ◌^◌, ℕ, List, Some, length, ap, sym, subst, arith, length-drop}
use borrow.Author.Tests.{ltb-true}
use Rattle.op_record.specs.Rounds.{IsRound, round_of}
use Rattle.op_desk.specs.Batches.{BatchValue}
use Rattle.op_desk.specs.Inside.{entries_of}
use Rattle.op_desk.specs.Wallets.{round_payload}
use Rattle.op_desk.proofs.Rounds.{is_round, open_payload, round_small}
use Rattle.op_desk.proofs.batch.Batch.into_round.Goals as goal

pub returns-clause-payload : goal.returns-clause-payload
returns-clause-payload c =
    let i = c.self.invariant in
    let b = c.self.inside in
    open_payload b.wallet b.moment (entries_of b) i.moment i.round ∙ ap (λ (v : BatchValue). round_of v.moment v.entries) c.self.view_is

pub returns-clause-round : goal.returns-clause-round
returns-clause-round c some =
    let i = c.self.invariant in
    let b = c.self.inside in
    let entries = entries_of b in
    let more : 0 < length entries = omega (arith, length-drop b.begun b.wallet.history, c.count.ensures.value, ltb-true) in
    subst (λ (l : List ℕ). IsRound l c.args.self.entries) (sym (returns-clause-payload c))
    (subst (λ (v : BatchValue). IsRound (round_of v.moment v.entries) v.entries) c.self.view_is (is_round b.moment entries more i.fit))

pub returns-clause-some : goal.returns-clause-some
returns-clause-some c some =
    let i = c.self.invariant in
    let b = c.self.inside in
    omega (arith, length-drop b.begun b.wallet.history, c.count.ensures.value, ltb-true, ap length i.round)

pub returns-clause-small : goal.returns-clause-small
returns-clause-small c =
    let i = c.self.invariant in
    let b = c.self.inside in
    subst (λ (l : List ℕ). length l < 2 ^ 32) (sym (open_payload b.wallet b.moment (entries_of b) i.moment i.round)) (round_small b.moment (entries_of b) i.fit (omega (arith, i.indexes)))
