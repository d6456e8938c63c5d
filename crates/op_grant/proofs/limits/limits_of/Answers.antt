use Rattle.std.proofs.Common.{ap, sym, ◌∙◌, rules, tests}
use Rattle.std.specs.Prelude.{◌==◌}
use Rattle.std.specs.Option.{option_map, option_and_then}
use Rattle.std.proofs.lemmas.Iterator.{YieldsList-from_slice}
use Rattle.std.proofs.lemmas.Iterator.Search.{find_from_yields_List}
use Rattle.op_grant.proofs.limits.limits_of.Goals as goal

pub returns-in-Some : goal.returns-in-Some
returns-in-Some c =
    let found = find_from_yields_List (λ item. item.kind == 3) _ _ c.find.result c.find.ensures.ran (YieldsList-from_slice c.args.items.now cc) (λ x b q k. search (rules, tests)) in
    let there = ap (option_map (λ x. x.now)) (sym c.in-Some.is) ∙ found in
    c.as_ref.ensures.value ∙ ap (option_and_then (λ item. item.limits)) there

pub returns-in-None : goal.returns-in-None
returns-in-None c =
    let found = find_from_yields_List (λ item. item.kind == 3) _ _ c.find.result c.find.ensures.ran (YieldsList-from_slice c.args.items.now cc) (λ x b q k. search (rules, tests)) in
    let there = ap (option_map (λ x. x.now)) (sym c.in-None.is) ∙ found in
    ap (option_and_then (λ item. item.limits)) there
