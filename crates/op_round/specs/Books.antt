-- What a book keeps: for each index that was used its place, its reply and its act, from the history at which the round began.
use Rattle.std.specs.Prelude.{◌≡◌, ◌<◌, replicate, ℕ, Bool, true, false, IsTrue, List, [], ◌∷◌, ◌++◌, length, slice_get, slice_set, Some, None}
use Rattle.std.specs.declared.option.Option.{Option}
use Rattle.op_desk.specs.Batches.{BatchValue, history_in}
use Rattle.op_desk.specs.Built.{is_built_reply, is_built_task}
use Rattle.op_desk.specs.Wallets.{Handles, IsSound}
use Rattle.op_model.specs.History.{origin_of}
use Rattle.op_model.specs.Legal.{is_proper}
use Rattle.op_model.specs.Round.{FeesAllowed, Handled, IsRound}
use Rattle.op_model.specs.declared.act.Entry.{Entry}
use Rattle.op_model.specs.declared.reply.Reply.{Reply}
use Rattle.op_model.specs.declared.request.Task.{Task}

-- a task, and the word that was drawn for it
pub record Asked : Type 0 where
  pub word : List ℕ
  pub task : Task

-- what a round is of: for each index its word and its task, or none
abbrev pub Asking : Type 0
Asking = List (Option Asked)

-- a task whose act is built, and that is proper on the history
pub record IsFit (history : List Entry) (task : Task) : Type 0 where
  pub built : IsTrue (is_built_task task)
  pub proper : IsTrue (is_proper history task)

-- those that are there, in order
abbrev pub somes : {X : Type 0} → List (Option X) → List X
somes [] = []
somes (None ∷ xs) = somes xs
somes (Some x ∷ xs) = x ∷ somes xs

-- a reply that can be printed: its form is built, and its origin is that of a sound history
pub record IsTellable (reply : Reply) : Type 0 where
  pub built : IsTrue (is_built_reply reply.body)
  pub history : List Entry
  pub sound : IsSound history
  pub origin : reply.origin ≡ origin_of history

pub record BookValue : Type 0 where
  pub batch : BatchValue
  -- of each index its reply, once it was used
  pub replies : List (Option Reply)

-- what is kept of an index that was not used, or was handled so
abbrev pub FitsAt : Asking → BookValue → ℕ → Option Handled → Type 0
FitsAt asked book i None = (slice_get book.batch.used i ≡ Some false) × (slice_get book.replies i ≡ Some None)
FitsAt asked book i (Some one) =
    (slice_get asked i ≡ Some (Some (record { word = one.word; task = one.task })))
    × (slice_get book.batch.used i ≡ Some true) × (slice_get book.batch.places i ≡ Some one.place)
    × (slice_get book.replies i ≡ Some (Some one.reply)) × IsTellable one.reply

pub record Fits (asked : Asking) (book : BookValue) (slots : List (Option Handled)) : Type 0 where
  pub size : length slots ≡ length asked
  pub places : length book.batch.places ≡ length asked
  pub replies : length book.replies ≡ length asked
  pub each : (i : ℕ) (slot : Option Handled) → slice_get slots i ≡ Some slot → FitsAt asked book i slot

-- The book of a round with fees of these terms, that began with this history, at this moment, for these words and tasks: those that were used, as they were
-- handled, are a round with the entries so far.
pub record IsKept (allows : FeesAllowed) (start : List Entry) (t : ℕ) (asked : Asking) (book : BookValue) : Type 0 where
  pub begun : book.batch.begun ≡ start
  pub moment : book.batch.moment ≡ t
  pub slots : List (Option Handled)
  pub fits : Fits asked book slots
  pub round : IsRound allows start t (somes slots) book.batch.entries

-- one act for an index, with this reply
pub record IsActed (allows : FeesAllowed) (old new : BookValue) (index : ℕ) (word : List ℕ) (task : Task) (reply : Reply) : Type 0 where
  pub replies : new.replies ≡ slice_set old.replies index (Some reply)
  pub used : new.batch.used ≡ slice_set old.batch.used index true
  pub places : new.batch.places ≡ slice_set old.batch.places index (length old.batch.entries)
  pub handled : Handles allows (history_in old.batch) old.batch.moment (length old.batch.entries) task word reply (history_in new.batch)
  pub tellable : IsTellable reply

-- ---- whole rounds

-- each task is built and proper
abbrev pub AreFit : List Entry → Asking → Type 0
AreFit start asked = (i : ℕ) (a : Asked) → slice_get asked i ≡ Some (Some a) → IsFit start a.task

-- the first n indexes that have a task were used
abbrev pub AllUsed : ℕ → Asking → List Bool → Type 0
AllUsed n asked used = (i : ℕ) (a : Asked) → i < n → slice_get asked i ≡ Some (Some a) → slice_get used i ≡ Some true

-- what was used is used
abbrev pub GrowsUsed : List Bool → List Bool → Type 0
GrowsUsed old new = (i : ℕ) → slice_get old i ≡ Some true → slice_get new i ≡ Some true

-- a batch of so many tasks in which nothing was done
pub record IsFresh (tasks : ℕ) (batch : BatchValue) : Type 0 where
  pub entries : batch.entries ≡ []
  pub places : batch.places ≡ replicate tasks 0
  pub used : batch.used ≡ replicate tasks false

-- a whole round: each index that has a task was used, and what was used is a round
pub record IsDone (allows : FeesAllowed) (start : List Entry) (t : ℕ) (asked : Asking) (batch : BatchValue) (replies : List (Option Reply)) : Type 0 where
  pub kept : IsKept allows start t asked (record { batch = batch; replies = replies })
  pub all : AllUsed (length asked) asked batch.used
