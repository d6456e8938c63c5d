use Rattle.std.proofs.Common.{ℕ, sym, ◌∙◌, rules, tests}
use Rattle.std.proofs.lemmas.Iterator.{YieldsList-from_slice, YieldsList-from_zip}
use Rattle.std.proofs.lemmas.Iterator.Search.{all_from_yields_List}
use Rattle.op_time.specs.Digits.{fits_byte}
use Rattle.op_time.proofs.Fitting.{fits_same_length}
use Rattle.op_time.proofs.digits.fits.Goals as goal

pub returns-then-pattern-text : goal.returns-then-pattern-text
returns-then-pattern-text c =
    let pairs = YieldsList-from_zip (YieldsList-from_slice c.args.pattern.now cc) (YieldsList-from_slice c.args.text.now cc) in
    let all = all_from_yields_List (λ (p : ℕ × ℕ). fits_byte p.0 p.1) c.all.new.self _ c.all.result c.all.ensures.ran pairs (λ x b q k. search (rules, tests)) in
    all ∙ sym (fits_same_length c.args.pattern.now c.args.text.now c.if-pattern-text.true)
