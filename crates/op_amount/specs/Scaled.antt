-- Values as decimal texts with a point.
use Rattle.std.specs.Prelude.{ℕ, ◌+◌, ◌-◌, ◌==◌, ◌++◌, List, length, replicate, insert, decimal, if◌then◌else◌}

-- the digits of a value, with zeros in front where it has no more than `scale` of them
abbrev pub padded : (value scale : ℕ) → List ℕ
padded value scale = replicate (scale + 1 - length (decimal value)) 48 ++ decimal value

-- a point before the last `scale` digits, and none for the scale 0
abbrev pub scaled : (value scale : ℕ) → List ℕ
scaled value scale =
    if scale == 0 then decimal value else insert (padded value scale) (length (padded value scale) - scale) 46
