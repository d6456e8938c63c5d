-- Worked rows: an expiry to the millisecond, and a piece that passes the bound.
use Rattle.std.specs.Prelude.{◌≡◌, true, false, List, [], ◌∷◌, Some, None, refl}
use Rattle.op_model.specs.declared.request.Task.TheVariants.{Expire}
use Rattle.op_model.specs.declared.row.IncomingRow.{IncomingRow}
use Rattle.op_incoming.specs.Rows.{is_open_at, is_completed, row_is, room_in, received_by, made, paid, completed, expired, due_tasks}
use Rattle.op_incoming.specs.declared.incoming.Incoming.{Incoming}

-- a payment with an amount of 101 that expires at 2024-03-01T12:30:00.123Z
abbrev row : IncomingRow
row = record { address = 1; grant = 1; amount = Some 101; expiry = 1709296200123; made = 1709294400000; metadata = None }

abbrev rows : List Incoming
rows = made [] row

open_before : row_is (is_open_at 1709296200122) rows 1 ≡ true
open_before = refl

not_open_at : row_is (is_open_at 1709296200123) rows 1 ≡ false
not_open_at = refl

not_due_before : due_tasks rows 1709296200122 64 ≡ []
not_due_before = refl

due_at : due_tasks rows 1709296200123 64 ≡ Expire 1 ∷ []
due_at = refl

-- it does not expire twice, and does not open again
not_due_again : due_tasks (expired rows 1) 1709296200123 64 ≡ []
not_due_again = refl

not_open_again : row_is (is_open_at 1709294400000) (expired rows 1) 1 ≡ false
not_open_again = refl

not_due_completed : due_tasks (completed rows 1) 1709296200123 64 ≡ []
not_due_completed = refl

-- 102 of 101
abbrev passed : List Incoming
passed = paid (paid rows 1 45) 1 57

received_passed : received_by passed 1 ≡ 102
received_passed = refl

completed_passed : row_is is_completed passed 1 ≡ true
completed_passed = refl

no_room_passed : room_in passed 1 ≡ 0
no_room_passed = refl

not_due_passed : due_tasks passed 1709296200123 64 ≡ []
not_due_passed = refl
