use Rattle.std.proofs.Common.{◌≡◌, ◌∙◌, sym, Some}
use Rattle.op_laws.proofs.Placed.{all_placed}
use Rattle.op_model.specs.History.{nth, addresses}
use Rattle.op_model.specs.Incoming.{is_completed}
use Rattle.op_model.specs.Payments.{incoming_row, received}
use Rattle.op_model.specs.Shown.{incoming_shown}
use Rattle.op_token_plans.proofs.Showing.{is_told, no_asset_told, no_path_told, incoming_addressed, unnamed, nowhere, told_there, incoming_told, kept_is}
use Rattle.op_token_plans.proofs.shown.shown_incoming.Goals as goal

pub returns-in_default : goal.returns-in_default
returns-in_default c history names is = unnamed (incoming_row history) (incoming_shown history) c.args.incoming c.in_default.is

pub returns-in_default-incoming : goal.returns-in_default-incoming
returns-in_default-incoming c history names is = nowhere (incoming_row history) (incoming_shown history) c.args.incoming c.in-Some.number c.in-Some.is (c.in_default-incoming.ensures history is)

pub returns-in_default-asset_of : goal.returns-in_default-asset_of
returns-in_default-asset_of c history names is =
    let row = c.in-Some-incoming.row.now in
    let there = incoming_addressed history c.in-Some.number row is.legal (sym (c.in-Some-incoming.ensures history is)) in
    absurd (no_asset_told history row.address there (c.in_default-asset_of.ensures history names (all_placed history is.legal).based))

pub returns-in_default-2 : goal.returns-in_default-2
returns-in_default-2 c history names is =
    let row = c.in-Some-incoming.row.now in
    let there = incoming_addressed history c.in-Some.number row is.legal (sym (c.in-Some-incoming.ensures history is)) in
    absurd (no_path_told history row.address there (sym c.in_default-2.is ∙ c.in_ok-path.ensures history names))

pub returns : goal.returns
returns c history names is =
    let n = c.in-Some.number in
    let row = c.in-Some-incoming.row.now in
    let there : incoming_row history n ≡ Some row = sym (c.in-Some-incoming.ensures history is) in
    told_there (incoming_row history) (incoming_shown history) c.args.incoming n row _ c.in-Some.is there
    (incoming_told history n row c.in-Some-asset_of.asset c.in-Some-2.path c.amount_in.result c.received.result c.is_completed.result c.in_ok-copy_metadata.field-0
    (is_told _ _ (nth (addresses history) row.address) (c.in-Some-asset_of.ensures history names (all_placed history is.legal).based))
    (is_told _ _ (nth (addresses history) row.address) (sym c.in-Some-2.is ∙ c.in_ok-path.ensures history names))
    c.amount_in.ensures
    (kept_is history n row _ _ (λ r. received history n) there (c.received.ensures history is))
    (kept_is history n row _ _ (is_completed history n) there (c.is_completed.ensures history is))
    c.in_ok-copy_metadata.ensures)
