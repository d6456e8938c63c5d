-- What the terms of a price keep of the mode.
use Rattle.std.proofs.Common.{◌≡◌, ◌≤◌, ◌<◌, ℕ, ◌+◌, Bool, true, false, refl, arith}
use Rattle.std.specs.Prelude.{IsSomeAnd, Some, None, nat_lt, if◌then◌else◌}
use Rattle.op_amount.specs.Prices.{base, source_of, debit_of, KeepsMode}
use Rattle.op_amount.specs.Rates.{floor_mul, least_source}
use Rattle.op_amount.specs.declared.Mode.{Mode}
use Rattle.op_amount.specs.declared.Mode.TheVariants.{Debit, Receive}
use Rattle.op_amount.specs.declared.Rate.{Rate}
use Rattle.op_amount.specs.declared.TheConstants.{TOP}
use Rattle.op_amount.proofs.Adjoint.{are_adjoint}

within : (too_large : Bool) (amount fee : ℕ) → IsSomeAnd (if too_large then None else Some amount) (λ a. fee ≤ a) → fee ≤ amount
within true amount fee h = absurd h
within false amount fee h = h

-- debit and source differ by the fee
pub debit_split : (fee : ℕ) (rate : Rate) (mode : Mode) → IsSomeAnd (base rate mode) (λ a. fee ≤ a) → debit_of fee rate mode ≡ source_of fee rate mode + fee
debit_split fee rate (Debit d) h = let le : fee ≤ d = within (nat_lt TOP d) d fee h in omega (arith, le)
debit_split fee rate (Receive r) h = refl

-- the mode's value is the debit, or is reached by the least source
pub mode_kept : (fee : ℕ) (rate : Rate) (mode : Mode) → 0 < rate.num → 0 < rate.den → KeepsMode mode (record { debit = debit_of fee rate mode; source = source_of fee rate mode; fee = fee; receive = floor_mul (source_of fee rate mode) rate.num rate.den; num = rate.num; den = rate.den })
mode_kept fee rate (Debit d) num den = refl
mode_kept fee rate (Receive r) num den =
    let pair = are_adjoint rate.num rate.den num den in
    ((pair (least_source r rate.num rate.den) r).0 (omega arith), λ a reaches. (pair a r).1 reaches)
