use Rattle.std.proofs.Common.{sym, subst, ap, ◌∙◌, IsTrue, Some}
use Rattle.std.specs.Option.{option_and_then}
use Rattle.op_model.specs.Grants.{interval_at}
use Rattle.op_grant.specs.Limits.{are_readable}
use Rattle.op_grant.specs.Value.{interval_in}
use Rattle.op_grant.proofs.Changes.{Reads, found_in}
use Rattle.op_grant.proofs.Indexing.{readable_row}
use Rattle.op_grant.proofs.grants.Grants.interval_at.Goals as goal

pub interval_at-requires : goal.interval_at-requires
interval_at-requires c =
    let rows = c.self.inside.rows.items in
    let row = c.index-row.result.now in
    let reads : Reads c.args.self.now rows c.self.inside.counters.entries c.args.n row = record { view = c.self.view_is; there = c.requires; at = c.index-row.ensures } in
    subst (λ items. IsTrue (are_readable items)) (sym c.as_slice.ensures)
    (readable_row rows c.args.n row c.self.invariant.readable (found_in c.args.self.now rows c.self.inside.counters.entries c.args.n row reads))

pub returns : goal.returns
returns c =
    let rows = c.self.inside.rows.items in
    let row = c.index-row.result.now in
    let reads : Reads c.args.self.now rows c.self.inside.counters.entries c.args.n row = record { view = c.self.view_is; there = c.requires; at = c.index-row.ensures } in
    c.interval_at.ensures ∙ ap (λ items. interval_at items c.args.t) c.as_slice.ensures
    ∙ ap (option_and_then (λ r. interval_at r.items c.args.t)) (sym (found_in c.args.self.now rows c.self.inside.counters.entries c.args.n row reads))
    ∙ ap (λ v. interval_in v c.args.n c.args.t) c.self.view_is
