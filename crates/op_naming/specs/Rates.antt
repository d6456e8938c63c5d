-- Rates by their pair of assets.
use Rattle.std.specs.Prelude.{ℕ, ◌≡◌, ◌&&◌, ◌==◌, Bool, List}
use Rattle.std.specs.List.{filter_map}
use Rattle.std.specs.HashMap.{get_by, spare}
use Rattle.std.specs.declared.option.Option.{Option}
use Rattle.op_amount.specs.declared.Rate.{Rate}
use Rattle.op_model.specs.History.{last, rate_set}
use Rattle.op_model.specs.declared.act.Entry.{Entry}
use Rattle.op_naming.specs.declared.rates.Rates.{Rates}

abbrev pub is_pair : (source target : ℕ) → ℕ × ℕ → Bool
is_pair source target pair = (source == pair.0) && (target == pair.1)

-- the rate of a pair that was set
abbrev pub rate_in : Rates → (source target : ℕ) → Option Rate
rate_in rates source target = get_by (is_pair source target) rates.kept

abbrev pub rates_room : Rates → ℕ
rates_room rates = spare rates.kept

-- the rate of each pair is the last one that was set
abbrev pub AreRatesOf : List Entry → Rates → Type 0
AreRatesOf history rates =
    (source target : ℕ) → rate_in rates source target ≡ last (filter_map (λ e. rate_set source target e.act) history)
