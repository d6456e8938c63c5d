-- What a grant's item is for: its type, and its actions as a sum of bits (Open Payments, `access`).
use Rattle.std.specs.Prelude.{ℕ, ◌+◌}

-- ---- types

abbrev pub incoming_payment : ℕ
incoming_payment = 1

abbrev pub quote : ℕ
quote = 2

abbrev pub outgoing_payment : ℕ
outgoing_payment = 3

-- ---- actions

abbrev pub create : ℕ
create = 1

abbrev pub complete : ℕ
complete = 2

abbrev pub read : ℕ
read = 4

abbrev pub read_all : ℕ
read_all = 8

abbrev pub list : ℕ
list = 16

abbrev pub list_all : ℕ
list_all = 32

-- ---- the actions of each type

abbrev pub of_incoming_payment : ℕ
of_incoming_payment = create + complete + read + read_all + list + list_all

abbrev pub of_quote : ℕ
of_quote = create + read + read_all

abbrev pub of_outgoing_payment : ℕ
of_outgoing_payment = create + read + read_all + list + list_all
