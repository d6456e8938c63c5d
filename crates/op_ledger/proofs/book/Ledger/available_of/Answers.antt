use Rattle.std.proofs.Common.{◌≡◌, ap, arith}
use Rattle.op_ledger.specs.Balances.{is_there, is_outside, posted_in, held_in}
use Rattle.std.specs.Option.{option_map_or}
use Rattle.op_ledger.proofs.AccountTests.{not_of}
use Rattle.op_ledger.proofs.Soundness.{covered_inside}
use Rattle.op_ledger.proofs.book.Ledger.available_of.Goals as goal

pub overflow_sub-result : goal.overflow_sub-result
overflow_sub-result c =
    let x = c.balance-balance in
    covered_inside c.args.self.now c.args.account x.result x.ensures.sound x.ensures.found (not_of (is_there c.args.self.now c.args.account) (is_outside c.args.account) c.requires)

pub returns-clause-covered : goal.returns-clause-covered
returns-clause-covered c =
    let x = c.balance-balance in
    let posted : posted_in c.args.self.now c.args.account ≡ x.result.posted = ap (λ o. option_map_or (λ b. b.posted) o 0) x.ensures.found in
    let held : held_in c.args.self.now c.args.account ≡ x.result.held = ap (λ o. option_map_or (λ b. b.held) o 0) x.ensures.found in
    omega (arith, posted, held, covered_inside c.args.self.now c.args.account x.result x.ensures.sound x.ensures.found (not_of (is_there c.args.self.now c.args.account) (is_outside c.args.account) c.requires))
