-- What a batch keeps.
use Rattle.std.specs.Prelude.{◌≡◌, ◌+◌, ◌≤◌, List, length, take, drop, Some}
use Rattle.std.specs.List.{AllByRecursion}
use Rattle.op_model.specs.History.{last_moment}
use Rattle.op_model.specs.declared.act.Entry.{Entry}
use Rattle.op_desk.specs.Batches.{BatchValue, unused}
use Rattle.op_desk.specs.Wallets.{IsSound, FitsRound}
use Rattle.op_desk.specs.declared.TheConstants.{TASK_LIMIT}
use Rattle.op_desk.specs.declared.batch.Batch.TheInside.{Inside}

-- the round's entries are those behind the history at which it began
abbrev pub entries_of : Inside → List Entry
entries_of b = drop b.begun b.wallet.history

abbrev pub batch_of : Inside → BatchValue
batch_of b = record { begun = take b.begun b.wallet.history; moment = b.moment; entries = entries_of b; places = b.places.items; used = b.used.items }

pub record IsKept (b : Inside) : Type 0 where
  pub sound : IsSound b.wallet.history
  pub later : last_moment b.wallet.history ≤ b.moment
  pub begun : b.begun ≤ length b.wallet.history
  -- the wallet's open round is this one
  pub moment : b.wallet.moment ≡ Some b.moment
  pub round : b.wallet.round ≡ entries_of b
  pub fit : AllByRecursion (FitsRound b.moment) (entries_of b)
  -- each index has its place, and each entry has used one
  pub places : length b.used.items ≡ length b.places.items
  pub indexes : length (entries_of b) + unused b.used.items ≤ TASK_LIMIT
