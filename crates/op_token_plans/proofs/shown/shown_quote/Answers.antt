use Rattle.std.proofs.Common.{◌≡◌, ◌∙◌, sym, Some}
use Rattle.op_laws.proofs.Placed.{all_placed}
use Rattle.op_model.specs.History.{nth, addresses}
use Rattle.op_model.specs.Payments.{quote_row}
use Rattle.op_model.specs.Shown.{quote_shown}
use Rattle.op_token_plans.proofs.Showing.{is_told, no_asset_told, no_path_told, quote_good, unnamed, nowhere, told_there, quote_told}
use Rattle.op_token_plans.proofs.shown.shown_quote.Goals as goal

pub returns-in_default : goal.returns-in_default
returns-in_default c history names is = unnamed (quote_row history) (quote_shown history) c.args.quote c.in_default.is

pub returns-in_default-quote : goal.returns-in_default-quote
returns-in_default-quote c history names is = nowhere (quote_row history) (quote_shown history) c.args.quote c.in-Some.number c.in-Some.is (c.in_default-quote.ensures history is)

pub returns-in_default-asset_of : goal.returns-in_default-asset_of
returns-in_default-asset_of c history names is =
    let row = c.in-Some-quote.row.now in
    let good = quote_good history c.in-Some.number row is.legal (sym (c.in-Some-quote.ensures history is)) in
    absurd (no_asset_told history row.terms.payer good.payer (c.in_default-asset_of.ensures history names (all_placed history is.legal).based))

pub returns-in_default-asset_of-2 : goal.returns-in_default-asset_of-2
returns-in_default-asset_of-2 c history names is =
    let row = c.in-Some-quote.row.now in
    let good = quote_good history c.in-Some.number row is.legal (sym (c.in-Some-quote.ensures history is)) in
    absurd (no_asset_told history row.terms.payee good.payee (c.in_default-asset_of-2.ensures history names (all_placed history is.legal).based))

pub returns-in_default-2 : goal.returns-in_default-2
returns-in_default-2 c history names is =
    let row = c.in-Some-quote.row.now in
    let good = quote_good history c.in-Some.number row is.legal (sym (c.in-Some-quote.ensures history is)) in
    absurd (no_path_told history row.terms.payer good.payer (sym c.in_default-2.is ∙ c.in_ok-path.ensures history names))

pub returns : goal.returns
returns c history names is =
    let n = c.in-Some.number in
    let row = c.in-Some-quote.row.now in
    let there : quote_row history n ≡ Some row = sym (c.in-Some-quote.ensures history is) in
    let based = (all_placed history is.legal).based in
    told_there (quote_row history) (quote_shown history) c.args.quote n row _ c.in-Some.is there
    (quote_told history n row c.in-Some-asset_of.source c.in-Some-asset_of-2.target c.in-Some-2.path
    (is_told _ _ (nth (addresses history) row.terms.payer) (c.in-Some-asset_of.ensures history names based))
    (is_told _ _ (nth (addresses history) row.terms.payee) (c.in-Some-asset_of-2.ensures history names based))
    (is_told _ _ (nth (addresses history) row.terms.payer) (sym c.in-Some-2.is ∙ c.in_ok-path.ensures history names)))
