use Rattle.std.proofs.Common.{sym, subst, ◌∙◌, Ok, Err, IsTrue, Some, None}
use Rattle.op_grant.specs.Limits.{are_readable, may_pay_answer}
use Rattle.op_grant.specs.declared.fault.GrantFault.TheVariants.{LimitAsset, OutsideInterval, OverLimit}
use Rattle.op_grant.proofs.Changes.{Reads, answered, found_in}
use Rattle.op_grant.proofs.Indexing.{readable_row}
use Rattle.op_grant.proofs.MaySpend.{left_is, other_asset_is, within_is}
use Rattle.op_grant.proofs.grants.Grants.may_pay.Goals as goal

pub interval_at-requires : goal.interval_at-requires
interval_at-requires c =
    let rows = c.self.inside.rows.items in
    let row = c.index-row.result.now in
    let reads : Reads c.args.self.now rows c.self.inside.counters.entries c.args.n row = record { view = c.self.view_is; there = c.requires; at = c.index-row.ensures } in
    subst (λ items. IsTrue (are_readable items)) (sym c.as_slice-items.ensures)
    (readable_row rows c.args.n row c.self.invariant.readable (found_in c.args.self.now rows c.self.inside.counters.entries c.args.n row reads))

pub returns-then-is_other_asset : goal.returns-then-is_other_asset
returns-then-is_other_asset c =
    let row = c.index-row.result.now in
    let value = c.args.self.now in
    answered value c.self.inside.rows.items c.self.inside.counters.entries c.args.n row (may_pay_answer value c.args.n c.args.t c.args.asked) (Err LimitAsset)
    (record { view = c.self.view_is; there = c.requires; at = c.index-row.ensures })
    (other_asset_is value c.args.n c.args.t c.args.asked row c.as_slice-items.result.now c.cap_of-cap.result
    c.as_slice-items.ensures c.if-is_other_receiver.ensures c.cap_of-cap.ensures c.if-is_other_asset.ensures)

pub returns-in_default : goal.returns-in_default
returns-in_default c =
    let row = c.index-row.result.now in
    let value = c.args.self.now in
    answered value c.self.inside.rows.items c.self.inside.counters.entries c.args.n row (may_pay_answer value c.args.n c.args.t c.args.asked) (Err OutsideInterval)
    (record { view = c.self.view_is; there = c.requires; at = c.index-row.ensures })
    (left_is value c.args.n c.args.t c.args.asked row c.as_slice-items.result.now c.cap_of-cap.result None
    c.as_slice-items.ensures c.if-is_other_receiver.ensures c.cap_of-cap.ensures c.if-is_other_asset.ensures c.in_default.ensures)

pub returns-then-is_over : goal.returns-then-is_over
returns-then-is_over c =
    let row = c.index-row.result.now in
    let value = c.args.self.now in
    answered value c.self.inside.rows.items c.self.inside.counters.entries c.args.n row (may_pay_answer value c.args.n c.args.t c.args.asked) (Err (OverLimit c.spent-spent.result))
    (record { view = c.self.view_is; there = c.requires; at = c.index-row.ensures })
    (within_is value c.args.n c.in-Some.j c.spent-spent.result c.args.asked c.as_slice-items.result.now c.cap_of-cap.result _ c.spent-spent.ensures c.cap_of-cap.ensures c.if-is_over.ensures
    ∙ left_is value c.args.n c.args.t c.args.asked row c.as_slice-items.result.now c.cap_of-cap.result (Some c.in-Some.j)
    c.as_slice-items.ensures c.if-is_other_receiver.ensures c.cap_of-cap.ensures c.if-is_other_asset.ensures c.in-Some.ensures)

pub returns : goal.returns
returns c =
    let row = c.index-row.result.now in
    let value = c.args.self.now in
    answered value c.self.inside.rows.items c.self.inside.counters.entries c.args.n row (may_pay_answer value c.args.n c.args.t c.args.asked) (Ok c.in-Some.j)
    (record { view = c.self.view_is; there = c.requires; at = c.index-row.ensures })
    (within_is value c.args.n c.in-Some.j c.spent-spent.result c.args.asked c.as_slice-items.result.now c.cap_of-cap.result _ c.spent-spent.ensures c.cap_of-cap.ensures c.if-is_over.ensures
    ∙ left_is value c.args.n c.args.t c.args.asked row c.as_slice-items.result.now c.cap_of-cap.result (Some c.in-Some.j)
    c.as_slice-items.ensures c.if-is_other_receiver.ensures c.cap_of-cap.ensures c.if-is_other_asset.ensures c.in-Some.ensures)
