-- Repeating intervals, in the form of ISO 8601-1:2019 section 5.6 (recurring time intervals).
use Rattle.std.specs.Prelude.{ℕ, ◌+◌, ◌≤◌, ◌<◌, Option}
use Rattle.std.specs.Option.{ForSome}
use Rattle.op_time.specs.declared.TheConstants.{LAST}

-- how often, from when, and the duration as months and seconds
pub record Interval : Type 0 where
  pub count : Option ℕ
  pub start : ℕ
  pub months : ℕ
  pub seconds : ℕ

-- it starts at a moment, takes time, and a count that is given is from 1 to 10^9
pub record IsInterval (interval : Interval) : Type 0 where
  pub start_is_moment : interval.start ≤ LAST
  pub takes_time : 0 < interval.months + interval.seconds
  pub count_low : ForSome interval.count (λ n. 1 ≤ n)
  pub count_high : ForSome interval.count (λ n. n ≤ 1000000000)
