use Rattle.std.proofs.Common.{◌≡◌, ◌∙◌, ◌++◌, ◌∷◌, [], List, ap, arith}
use Rattle.std.specs.Option.{unwrap_or}
use Rattle.op_model.specs.declared.act.Entry.{Entry}
use Rattle.op_model.specs.declared.act.Act.TheVariants as acts
use Rattle.op_record.specs.Packing.{PackedValue}
use Rattle.op_record.proofs.PackedSteps.{one_step}
use Rattle.op_record.proofs.round_tests.the_body_of_a_round_of_one_step.Goals as goal

pub body-requires-clause-small : goal.body-requires-clause-small
body-requires-clause-small g c =
    let entries : List Entry = record { at = c.at_most_last-at.result; act = acts.OutgoingFunded 1 0 } ∷ [] in
    let v = c.push.new.self in
    let none : c.open_round.new.self.round ≡ [] = ap (λ (v : PackedValue). v.round) c.in_ok-open_round.ensures.ok in
    let round : v.round ≡ entries = ap (λ (v : PackedValue). v.round) c.in_ok-push.ensures.ok ∙ ap (λ (l : List Entry). l ++ entries) none in
    omega (arith, one_step (unwrap_or v.moment 0) c.at_most_last-at.result 1 0 v.round round)
