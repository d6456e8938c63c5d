-- Shares of a fee, and floors, grow with what was sent.
use Rattle.std.proofs.Common.{◌≡◌, ℕ, ◌*◌, ◌/◌, ◌<◌, ◌≤◌, arith}
use Rattle.std.proofs.lemmas.Nat.{le-div}
use Rattle.std.proofs.Math.Nat.{div-le_of_le-mul, div-mul-le_self, mul-le-mul_left, mul-le-mul_right, mul-div_cancel}
use Rattle.op_amount.specs.Rates.{share, floor_mul}

pub zero_share : (fee whole : ℕ) → share fee 0 whole ≡ 0
zero_share fee whole = let none : fee * 0 / whole ≤ 0 = div-le_of_le-mul whole (omega arith) in omega arith

pub share-le : (fee s t whole : ℕ) → s ≤ t → 0 < whole → share fee s whole ≤ share fee t whole
share-le fee s t whole le some = le-div (fee * s / whole) (fee * t) whole some (omega (arith, div-mul-le_self (fee * s) whole, mul-le-mul_left fee le))

pub share_whole : (fee whole : ℕ) → 0 < whole → share fee whole whole ≡ fee
share_whole fee whole some = mul-div_cancel fee some

pub floor-le : (a b num den : ℕ) → a ≤ b → 0 < den → floor_mul a num den ≤ floor_mul b num den
floor-le a b num den le some = le-div (a * num / den) (b * num) den some (omega (arith, div-mul-le_self (a * num) den, mul-le-mul_right num le))
