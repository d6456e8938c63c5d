use Rattle.std.proofs.Common.{◌≡◌, ℕ, ◌<◌, length, get_or, bit_xor}
use Rattle.op_names.proofs.hmac.masked.Given as goal

abbrev pub invariant-bytes : goal.invariant-bytes
invariant-bytes l = (length l.out ≡ 64) × ((k : ℕ) → k < l.i → get_or l.out k 0 ≡ bit_xor (get_or l.block k 0) l.mask)
