-- The lengths of fields.
use Rattle.std.proofs.Common.{◌≡◌, ℕ, zero, suc, ◌+◌, ◌<◌, ◌≤◌, List, [], ◌∷◌, ◌++◌, length, take, get_or, refl, ap, sym, ◌∙◌, arith}
use Rattle.std.specs.List.{flat_map}
use Rattle.std.proofs.lemmas.List.{length-append}
use Rattle.std.specs.Int.{w32, to_be_bytes, bytes_high_first}
use Rattle.op_record.specs.Fields.{number}

pub length_append : (a b : List ℕ) → length (a ++ b) ≡ length a + length b
length_append a b = length-append a b

length_bytes : (width n : ℕ) → length (bytes_high_first width n) ≡ width
length_bytes zero n = refl
length_bytes (suc k) n = omega (arith, length_bytes k n)

pub length_number : (width n : ℕ) → length (number width n) ≡ width
unfolding number
length_number width n = length_bytes width n

-- four bytes, as a frame has them
pub four_is : (n : ℕ) → number 4 n ≡ to_be_bytes w32 n
unfolding number
four_is n = refl

pub length_four : (n : ℕ) → length (to_be_bytes w32 n) ≡ 4
length_four n = refl

pub ruleset lengths = (length_append, length_number)
