use Rattle.std.proofs.Common.{rules, ◌≡◌, ◌≤◌, ◌<◌, ◌+◌, ◌∙◌, refl, ap, sym, arith}
use Rattle.std.proofs.lemmas.Bool.Decides.{nat_tests}
use Rattle.op_amount.specs.Prices.{debit_of}
use Rattle.op_amount.specs.Rates.{floor_mul, least_source}
use Rattle.op_pricing.proofs.Terms.{debit_split, mode_kept}
use Rattle.op_pricing.proofs.price_with.Goals as goal
use Rattle.op_pricing.proofs.price_with.Goals.{in-Debit, in-Receive}

pub returns-clause-law : goal.returns-clause-law
returns-clause-law c =
    let rate = c.args.rate in
    let debit : c.match-mode.debit ≡ debit_of c.args.fee rate c.args.mode = elim c.match-mode.branch [
      | in-Debit w ↦ search rules
      | in-Receive w ↦ search rules
    ] in
    let receive : c.in-Some.receive ≡ floor_mul c.source_of-source.result rate.num rate.den = search rules in
    let small : c.in-Some.receive ≤ 1000000000000000000 = search rules in
    let moves : 0 < c.source_of-source.result = grind (arith, nat_tests) in
    let arrives : 0 < c.in-Some.receive = grind (arith, nat_tests) in
    let spent : c.match-mode.debit ≤ 1000000000000000000 = grind (arith, nat_tests) in
    let source_is = c.source_of-source.ensures.value in
    let split : c.match-mode.debit ≡ c.source_of-source.result + c.args.fee = debit ∙ debit_split c.args.fee rate c.args.mode c.requires.fee ∙ ap (λ s. s + c.args.fee) (sym source_is) in
    let bounded : c.args.fee ≤ 1000000000000000000 = omega (arith, split, spent) in
    let num : 0 < rate.num = omega (arith, c.requires.num.0) in
    let den : 0 < rate.den = omega (arith, c.requires.den.0) in
    let fits : c.source_of-source.result ≤ least_source c.args.room rate.num rate.den = grind (arith, nat_tests, c.is_over_receiver.ensures, c.if-is_over_receiver.false) in
    record {
      fee_is = refl;
      debit_is = split;
      receive_is = receive;
      rate_is = (refl, refl);
      moves = (moves, arrives);
      within = (spent, bounded, c.source_of-source.ensures.bound, small);
      fits = fits;
      mode_is = rw (debit, receive, source_is) (mode_kept c.args.fee rate c.args.mode num den);
    }
