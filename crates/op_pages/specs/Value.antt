-- What is kept of the feeds of pages.
use Rattle.std.specs.Prelude.{ℕ, ◌-◌, List, [], ◌∷◌, ◌++◌}
use Rattle.op_model.specs.declared.row.PageRow.{PageRow}

-- the ended payments that have a page, in the order in which they were noted, and the room for more
pub record FeedsValue : Type 0 where
  pub rows : List PageRow
  pub spare : ℕ

-- with one more payment, in a place that was free
abbrev pub noted : FeedsValue → PageRow → FeedsValue
noted feeds row = record { rows = feeds.rows ++ row ∷ []; spare = feeds.spare - 1 }
