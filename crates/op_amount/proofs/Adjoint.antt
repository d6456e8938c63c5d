-- The two roundings of a rate are a Galois pair.
use Rattle.std.proofs.Common.{rules, ◌<◌, ◌≤◌, ◌*◌, ◌/◌, ◌↔◌, ℕ, arith}
use Rattle.op_amount.specs.Rates.{AreAdjoint}

pub are_adjoint : (num den : ℕ) → 0 < num → 0 < den → AreAdjoint num den
are_adjoint num den some positive = λ a r. search (rules, arith, some, positive)
