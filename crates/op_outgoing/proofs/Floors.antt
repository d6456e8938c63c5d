-- Floors of sums: they grow with the sum, and stay below those of the whole.
use Rattle.std.proofs.Common.{◌≡◌, refl, ℕ, ◌*◌, ◌/◌, ◌<◌, ◌≤◌, Bool, true, false, cond, arith}
use Rattle.std.specs.Prelude.{nat_lt, Some, None}
use Rattle.std.proofs.Math.Nat.{div-mul-le_self, mul-le-mul_right}
use Rattle.std.proofs.lemmas.Bool.Decides.{nat_tests}
use Rattle.std.proofs.lemmas.Nat.{le-div}
use Rattle.op_amount.specs.Rates.{floor_mul, amount_or_none}
use Rattle.op_amount.specs.declared.TheConstants.{TOP}
use Rattle.op_model.specs.declared.row.OutgoingRow.{OutgoingRow}
use Rattle.op_outgoing.specs.Pieces.{next_sent, next_delivered}
use Rattle.op_outgoing.specs.Sound.{IsSoundRow}

pub floor-le : (a b num den : ℕ) → a ≤ b → 0 < den → floor_mul a num den ≤ floor_mul b num den
floor-le a b num den le some = le-div (a * num / den) (b * num) den some (omega (arith, div-mul-le_self (a * num) den, mul-le-mul_right num le))

-- what was delivered, and what is behind the next piece
pub delivered_grows : (row : OutgoingRow) → IsSoundRow row → (row.delivered ≤ next_delivered row) × (next_delivered row ≤ TOP)
delivered_grows row sound =
    let terms = sound.priced in
    let some : 0 < row.terms.den = omega (arith, terms.den.0) in
    let more : row.sent ≤ next_sent row = omega (arith, sound.sent) in
    let within : next_sent row ≤ row.terms.source = omega arith in (
      rw (sound.delivered) (floor-le row.sent (next_sent row) row.terms.num row.terms.den more some),
      omega (arith, floor-le (next_sent row) row.terms.source row.terms.num row.terms.den within some, terms.receive, terms.receive_top),
    )

some_step : (large : Bool) (n v : ℕ) → Some v ≡ cond large None (Some n) → v ≡ n
some_step true n v h = absurd (let no : Some v ≡ None = h in cc)
some_step false n v h = cc

none_step : (large : Bool) (n : ℕ) → None ≡ cond large None (Some n) → large ≡ true
none_step true n h = refl
none_step false n h = absurd (let no : None ≡ Some n = h in cc)

pub amount_there : (n v : ℕ) → Some v ≡ amount_or_none n → v ≡ n
amount_there n v h = some_step (nat_lt TOP n) n v h

above : (n : ℕ) → nat_lt TOP n ≡ true → TOP < n
above n h = grind (arith, nat_tests)

pub no_amount : (n : ℕ) → None ≡ amount_or_none n → n ≤ TOP → ⊥
no_amount n h le = let more : TOP < n = above n (none_step (nat_lt TOP n) n h) in omega arith
