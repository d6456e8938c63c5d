-- Reading from left to right, byte by byte: a value and the bytes after it, or the first fault.
use Rattle.std.specs.Prelude.{◌≡◌, ℕ, zero, suc, ◌+◌, ◌*◌, ◌/◌, ◌^◌, Bool, ◌&&◌, ◌==◌, nat_lt, nat_le, if◌then◌else◌, List, [], ◌∷◌, length, take, drop, Option, Some, None, Result, Ok, Err}
use Rattle.op_record.specs.declared.fault.Fault.{Fault}
use Rattle.op_record.specs.declared.fault.Fault.TheVariants.{Short, Bad}
use Rattle.op_record.specs.declared.fault.ReadError.{ReadError}
use Rattle.op_record.specs.declared.fault.ReadError.TheVariants as errors

abbrev pub Reader : Type 0 → Type 0
Reader A = List ℕ → Result (A × List ℕ) Fault

abbrev pub onward : {A B : Type 0} → Result (A × List ℕ) Fault → (A → Reader B) → Result (B × List ℕ) Fault
onward (Ok x) next = next x.0 x.1
onward (Err fault) next = Err fault

-- one reader, and then another
unfoldable pub bind : {A B : Type 0} → Reader A → (A → Reader B) → Reader B
bind r next bytes = onward (r bytes) next

unfoldable pub done : {A : Type 0} → A → Reader A
done x bytes = Ok (x, bytes)

-- a byte that passes the test; a byte that does not is bad where it stands
unfoldable pub byte : (ℕ → Bool) → Reader ℕ
byte test [] = Err Short
byte test (b ∷ bytes) = if test b then Ok (b, bytes) else Err (Bad (length (b ∷ bytes)))

abbrev pub is_between : ℕ → ℕ → ℕ → Bool
is_between low high b = nat_le low b && nat_le b high

abbrev pub byte_between : ℕ → ℕ → Reader ℕ
byte_between low high = byte (is_between low high)

-- whether a number of at most limit begins with the digits of n and then b, where left more follow
abbrev pub may_go_on : (limit left n b : ℕ) → Bool
may_go_on limit left n b = nat_lt b 256 && nat_le (n * 256 + b) (limit / 256 ^ left)

-- the rest of a number of at most limit, whose first digits are n
unfoldable pub digits_at : (limit left n : ℕ) → Reader ℕ
digits_at limit zero n = done n
digits_at limit (suc left) n = bind (byte (may_go_on limit left n)) (λ b. digits_at limit left (n * 256 + b))

abbrev pub number_at : (width limit : ℕ) → Reader ℕ
number_at width limit = digits_at limit width 0

-- so many bytes
unfoldable pub bytes_at : ℕ → Reader (List ℕ)
bytes_at n bytes = if nat_lt (length bytes) n then Err Short else Ok (take n bytes, drop n bytes)

-- a text of at most limit bytes
unfoldable pub text_at : ℕ → Reader (List ℕ)
text_at limit = bind (number_at 2 limit) bytes_at

unfoldable pub option_at : {X : Type 0} → Reader X → Reader (Option X)
option_at r = bind (byte_between 0 1) (λ flag. if flag == 0 then done None else bind r (λ x. done (Some x)))

-- the bytes do not begin with this one
abbrev pub BeginsWithout : ℕ → List ℕ → Type 0
BeginsWithout first bytes = (rest : List ℕ) → bytes ≡ first ∷ rest → ⊥

-- ---- what a function returned, seen by view, is what a reader gives, unless memory ran out

abbrev pub Fails : {Y : Type 0} → ReadError → Result Y Fault → Type 0
Fails errors.Memory read = Unit {0}
Fails (errors.Fault fault) read = read ≡ Err fault

abbrev pub Gives : {X Y : Type 0} → (X → Y) → Result X ReadError → Result Y Fault → Type 0
Gives view (Ok x) read = read ≡ Ok (view x)
Gives view (Err e) read = Fails e read
