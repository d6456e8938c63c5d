use Rattle.std.proofs.Common.{◌∙◌, ap}
use Rattle.op_pages.specs.Value.{FeedsValue}
use Rattle.op_noting.specs.Kept.{page_rows_of}
use Rattle.op_noting.proofs.Paging.{goes_on, row_noted, none_noted}
use Rattle.op_noting.proofs.feeds.note_ended.Goals as goal

pub returns-in-Some-clause-follows : goal.returns-in-Some-clause-follows
returns-in-Some-clause-follows c =
    let a = c.args in
    goes_on a.feeds.now c.note.new.self a.payment.now a.asset
    (ap (λ (v : FeedsValue). v.rows) c.note.ensures ∙ row_noted a.feeds.now c.page_row.result c.in-Some.row (page_rows_of a.payment.now a.asset) c.page_row.ensures c.in-Some.is)

pub returns-in_default-clause-follows : goal.returns-in_default-clause-follows
returns-in_default-clause-follows c =
    let a = c.args in
    goes_on a.feeds.now a.feeds.now a.payment.now a.asset (none_noted a.feeds.now c.page_row.result (page_rows_of a.payment.now a.asset) c.page_row.ensures c.in_default.is)
