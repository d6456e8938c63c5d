-- Lists of calls: what a payment has received is the sum over them.
use Rattle.std.specs.Prelude.{ℕ, ◌≡◌, ◌==◌, IsTrue, if◌then◌else◌, List, [], ◌∷◌, sum_by}
use Rattle.op_model.specs.declared.row.IncomingRow.{IncomingRow}
use Rattle.op_incoming.specs.Rows.{has_row, received_by, made, completed, expired, paid}
use Rattle.op_incoming.specs.declared.incoming.Incoming.{Incoming}

-- a call that changed the payments
pub data Call : Type 0 where
  Made : (row : IncomingRow) → Call
  Completed : (n : ℕ) → Call
  Expired : (n : ℕ) → Call
  Received : (n : ℕ) (value : ℕ) → Call

-- the payments behind a call, as the call's contract has them
abbrev pub after_call : List Incoming → Call → List Incoming
after_call rows (Made row) = made rows row
after_call rows (Completed n) = completed rows n
after_call rows (Expired n) = expired rows n
after_call rows (Received n value) = paid rows n value

abbrev pub after_calls : List Incoming → List Call → List Incoming
after_calls rows [] = rows
after_calls rows (call ∷ calls) = after_calls (after_call rows call) calls

-- only a payment that is there receives
abbrev pub CanCall : List Incoming → Call → Type 0
CanCall rows (Received n value) = IsTrue (has_row rows n)
CanCall rows _ = Unit {0}

-- Calls that can be made one after another. A refused call changes nothing, so it stands in no such list.
abbrev pub AreCalls : List Incoming → List Call → Type 0
AreCalls rows [] = Unit {0}
AreCalls rows (call ∷ calls) = CanCall rows call × AreCalls (after_call rows call) calls

-- what a call gave payment n
abbrev pub given : ℕ → Call → ℕ
given n (Received i value) = if n == i then value else 0
given n _ = 0

abbrev pub ReceivedIsASum : Type 0
ReceivedIsASum =
    (calls : List Call) → AreCalls [] calls →
    (n : ℕ) → received_by (after_calls [] calls) n ≡ sum_by (given n) calls
