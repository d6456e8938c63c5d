-- Prices with a fee rule.
use Rattle.std.specs.Prelude.{◌≡◌, ℕ, Err, MatchOption}
use Rattle.std.specs.declared.result.Result.{Result}
use Rattle.op_amount.specs.Prices.{base, price_with}
use Rattle.op_amount.specs.declared.Pair.{Pair}
use Rattle.op_amount.specs.declared.Rate.{Rate}
use Rattle.op_amount.specs.declared.Mode.{Mode}
use Rattle.op_amount.specs.declared.Priced.{Priced}
use Rattle.op_amount.specs.declared.PriceFault.{PriceFault}
use Rattle.op_amount.specs.declared.PriceFault.TheVariants.{TooLarge}

-- the price with a fee that the terms allow on the base, which is too large where there is no base
abbrev pub IsPriced : (Pair → ℕ → ℕ → Type 0) → Pair → Rate → Mode → (room : ℕ) → Result Priced PriceFault → Type 0
IsPriced allows pair rate mode room result =
    MatchOption (base rate mode) (result ≡ Err TooLarge) (λ amount. (fee : ℕ) × allows pair amount fee × (result ≡ price_with fee rate mode room))
