-- The fields of a record. Whole numbers are big-endian.
use Rattle.std.specs.Prelude.{ℕ, List, [], ◌∷◌, ◌++◌, length, Option, Some, None, if◌then◌else◌}
use Rattle.std.specs.List.{concat, flat_map}
use Rattle.std.specs.Int.{bytes_high_first}
use Rattle.op_model.specs.declared.act.Account.{Account}
use Rattle.op_model.specs.declared.act.Account.TheVariants.{Outside, Pool, Fees, Wallet}
use Rattle.op_model.specs.declared.act.QuoteMode.{QuoteMode}
use Rattle.op_model.specs.declared.act.QuoteMode.TheVariants as modes
use Rattle.op_model.specs.declared.act.FailReason.{FailReason}
use Rattle.op_model.specs.declared.act.FailReason.TheVariants.{QuoteExpired, ReceiverClosed, Cancelled}
use Rattle.op_model.specs.declared.grant.Cap.{Cap}
use Rattle.op_model.specs.declared.grant.Limits.{Limits}
use Rattle.op_model.specs.declared.grant.Item.{Item}
use Rattle.op_model.specs.declared.grant.Finish.{Finish}

-- the lowest bytes of a number, the highest of them first
unfoldable pub number : (width n : ℕ) → List ℕ
number width n = bytes_high_first width n

-- two bytes of length, and that many bytes
unfoldable pub text : List ℕ → List ℕ
text bytes = number 2 (length bytes) ++ bytes

-- 0, or 1 and the value
abbrev pub optional : {X : Type 0} → (X → List ℕ) → Option X → List ℕ
optional field None = 0 ∷ []
optional field (Some value) = 1 ∷ field value

-- the outside has no record
abbrev pub account : Account → List ℕ
account (Outside n) = 0 ∷ number 4 n
account (Pool n) = 1 ∷ number 4 n
account (Fees n) = 2 ∷ number 4 n
account (Wallet n) = 3 ∷ number 4 n

abbrev pub mode_number : QuoteMode → ℕ
mode_number modes.Debit = 1
mode_number modes.Receive = 2
mode_number modes.Rest = 3

abbrev pub reason_number : FailReason → ℕ
reason_number QuoteExpired = 1
reason_number ReceiverClosed = 2
reason_number Cancelled = 3

-- 0 for none, 1 for a debit and 2 for what is received; then the asset and the value
abbrev pub cap : Option Cap → List ℕ
cap None = 0 ∷ []
cap (Some limit) = (if limit.debit then 1 else 2) ∷ (number 4 limit.sum.asset ++ number 8 limit.sum.value)

abbrev pub limits : Limits → List ℕ
limits l = concat (optional (number 8) l.receiver ∷ cap l.cap ∷ optional text l.interval ∷ [])

abbrev pub item : Item → List ℕ
item i = i.kind ∷ i.actions ∷ concat (optional (number 4) i.identifier ∷ optional limits i.limits ∷ [])

-- the number of items, and the items
abbrev pub items : List Item → List ℕ
items xs = length xs ∷ flat_map item xs

abbrev pub finish : Finish → List ℕ
finish f = concat (text f.uri ∷ text f.nonce ∷ [])
