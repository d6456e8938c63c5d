use Rattle.std.proofs.Common.{◌≡◌, ℕ, ◌<◌, length, get_or, rules, ◌∙◌}
use Rattle.std.specs.Option.{option_copied}
use Rattle.op_granting.proofs.Acting.{row_there, no_fault, continue_passes, may_continue}
use Rattle.op_granting.proofs.Keeping.{may_new_place, continued_by}
use Rattle.op_model.specs.declared.act.Act.TheVariants as acts
use Rattle.op_granting.proofs.take.take_continued.Goals as goal

pub proceed-requires-clause-there : goal.proceed-requires-clause-there
proceed-requires-clause-there c = row_there c.args.grants.now c.args.n _ (may_continue c.args.grants.now c.args.next c.args.n c.args.word.now c.requires)

pub proceed-requires-clause-place : goal.proceed-requires-clause-place
proceed-requires-clause-place c = may_new_place c.args.grants.now c.args.next (acts.GrantContinued c.args.n c.args.word.now) c.requires (search rules)

pub unreachable-requires : goal.unreachable-requires
unreachable-requires c = no_fault _ _ _ (continue_passes c.args.grants.now c.args.next c.args.n c.args.word.now c.continuation_of-token.result (option_copied c.as_ref.result) c.requires c.continuation_of-token.ensures (λ row found. c.as_ref.ensures.value ∙ c.reference_of-reference.ensures row found)) c.in-Err.ensures.answer

pub returns : goal.returns
returns c =
    let size : length c.args.word.now ≡ 16 = search rules in
    let bytes : (i : ℕ) → get_or c.args.word.now i 0 < 256 = search rules in
    continued_by c.args.grants.now _ c.args.next c.args.n c.args.word.now c.continuation_of-token.result (option_copied c.as_ref.result) _ (size, bytes) (continue_passes c.args.grants.now c.args.next c.args.n c.args.word.now c.continuation_of-token.result (option_copied c.as_ref.result) c.requires c.continuation_of-token.ensures (λ row found. c.as_ref.ensures.value ∙ c.reference_of-reference.ensures row found)) c.in-Ok.ensures.answer c.in-Ok.ensures.ok
