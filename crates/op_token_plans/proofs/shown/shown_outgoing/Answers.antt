use Rattle.std.proofs.Common.{◌≡◌, ◌∙◌, sym, Some}
use Rattle.op_laws.proofs.Placed.{all_placed}
use Rattle.op_model.specs.History.{nth, addresses}
use Rattle.op_model.specs.Payments.{outgoing_row}
use Rattle.op_model.specs.Shown.{outgoing_shown}
use Rattle.op_token_plans.proofs.Showing.{is_told, no_asset_told, no_path_told, payment_good, unnamed, nowhere, told_there, outgoing_told}
use Rattle.op_token_plans.proofs.shown.shown_outgoing.Goals as goal

pub returns-in_default : goal.returns-in_default
returns-in_default c history names is = unnamed (outgoing_row history) (outgoing_shown history) c.args.outgoing c.in_default.is

pub returns-in_default-outgoing : goal.returns-in_default-outgoing
returns-in_default-outgoing c history names is = nowhere (outgoing_row history) (outgoing_shown history) c.args.outgoing c.in-Some.number c.in-Some.is (c.in_default-outgoing.ensures history is)

pub returns-in_default-asset_of : goal.returns-in_default-asset_of
returns-in_default-asset_of c history names is =
    let row = c.in-Some-outgoing.row.now in
    let good = payment_good history c.in-Some.number row is.legal (sym (c.in-Some-outgoing.ensures history is)) in
    absurd (no_asset_told history row.terms.payer good.payer (c.in_default-asset_of.ensures history names (all_placed history is.legal).based))

pub returns-in_default-asset_of-2 : goal.returns-in_default-asset_of-2
returns-in_default-asset_of-2 c history names is =
    let row = c.in-Some-outgoing.row.now in
    let good = payment_good history c.in-Some.number row is.legal (sym (c.in-Some-outgoing.ensures history is)) in
    absurd (no_asset_told history row.terms.payee good.payee (c.in_default-asset_of-2.ensures history names (all_placed history is.legal).based))

pub returns-in_default-2 : goal.returns-in_default-2
returns-in_default-2 c history names is =
    let row = c.in-Some-outgoing.row.now in
    let good = payment_good history c.in-Some.number row is.legal (sym (c.in-Some-outgoing.ensures history is)) in
    absurd (no_path_told history row.terms.payer good.payer (sym c.in_default-2.is ∙ c.in_ok-path.ensures history names))

pub returns : goal.returns
returns c history names is =
    let n = c.in-Some.number in
    let row = c.in-Some-outgoing.row.now in
    let there : outgoing_row history n ≡ Some row = sym (c.in-Some-outgoing.ensures history is) in
    let based = (all_placed history is.legal).based in
    told_there (outgoing_row history) (outgoing_shown history) c.args.outgoing n row _ c.in-Some.is there
    (outgoing_told history n row c.in-Some-asset_of.source c.in-Some-asset_of-2.target c.in-Some-2.path c.is_failed.result c.in_ok-copy_metadata.field-0
    (is_told _ _ (nth (addresses history) row.terms.payer) (c.in-Some-asset_of.ensures history names based))
    (is_told _ _ (nth (addresses history) row.terms.payee) (c.in-Some-asset_of-2.ensures history names based))
    (is_told _ _ (nth (addresses history) row.terms.payer) (sym c.in-Some-2.is ∙ c.in_ok-path.ensures history names))
    c.is_failed.ensures c.in_ok-copy_metadata.ensures)
