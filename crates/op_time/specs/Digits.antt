-- Digits in texts, and texts that fit a pattern.
use Rattle.std.specs.Prelude.{ℕ, Bool, ◌+◌, ◌==◌, ◌&&◌, ◌||◌, List, length, take, drop, take_while, if◌then◌else◌}
use Rattle.std.specs.Char.{is_ascii_digit}
use Rattle.std.specs.List.{list_all, zip}
use Rattle.std.specs.Str.Parse.{digits_value}

-- the digits at the front
abbrev pub digits_of : List ℕ → List ℕ
digits_of text = take_while is_ascii_digit text

-- the number that digits at a place of a text write
abbrev pub number_at : (text : List ℕ) (at count : ℕ) → ℕ
number_at text at count = digits_value 10 (take count (drop at text))

-- A byte fits a pattern's: `d` stands for a digit, `T` for `T` and `t`, `Z` for `Z` and `z`, `s` for a sign.
abbrev pub fits_byte : ℕ → ℕ → Bool
fits_byte p b =
    if p == 100 then is_ascii_digit b
    else (if p == 115 then (b == 43) || (b == 45)
    else (if (p == 84) || (p == 90) then (b == p) || (b == p + 32) else b == p))

-- the text fits the pattern, byte by byte
abbrev pub fits : (pattern text : List ℕ) → Bool
fits pattern text = (length pattern == length text) && list_all (λ p. fits_byte p.0 p.1) (zip pattern text)
