-- Quotes with their marks, and the payments that were made from them.
use Rattle.std.specs.Prelude.{ℕ, ◌≡◌, false, List, All}
use Rattle.std.specs.Option.{option_map_or}
use Rattle.op_model.specs.History.{nth}
use Rattle.op_model.specs.declared.row.OutgoingRow.{OutgoingRow}
use Rattle.op_outgoing.specs.Sound.{ArePriced}
use Rattle.op_outgoing.specs.Value.{is_paid_in}
use Rattle.op_outgoing.specs.declared.quoted.Quoted.{Quoted}

-- a quote is there and marked exactly where a payment was made from it
abbrev pub AreMarked : List Quoted → List OutgoingRow → Type 0
AreMarked quotes rows = (q : ℕ) → option_map_or (λ quoted. quoted.used) (nth quotes q) false ≡ is_paid_in rows q

pub record AreTied (quotes : List Quoted) (rows : List OutgoingRow) : Type 0 where
  pub priced : All (λ quoted. ArePriced quoted.row.terms) quotes
  pub marked : AreMarked quotes rows
