-- Values of amounts as texts: decimal digits without a leading zero.
use Rattle.std.specs.Prelude.{ℕ, Bool, ◌==◌, ◌&&◌, not, nat_lt, List, length, slice_index, if◌then◌else◌, Ok, Err}
use Rattle.std.specs.declared.result.Result.{Result}
use Rattle.std.specs.Char.{is_ascii_digit}
use Rattle.std.specs.List.{list_all}
use Rattle.std.specs.Str.Parse.{digits_value}
use Rattle.op_amount.specs.declared.value.ValueFault.{ValueFault}
use Rattle.op_amount.specs.declared.value.ValueFault.TheVariants.{NotDigits, LeadingZero, TooLarge}
use Rattle.op_amount.specs.declared.TheConstants.{TOP}

-- one decimal digit or more
abbrev pub is_numeral : List ℕ → Bool
is_numeral text = nat_lt 0 (length text) && list_all is_ascii_digit text

-- a `0`, and a digit behind it
abbrev pub has_leading_zero : List ℕ → Bool
has_leading_zero text = nat_lt 1 (length text) && (slice_index text 0 == 48)

-- the value that a text writes, or the first thing that is wrong with it
abbrev pub value_of : List ℕ → Result ℕ ValueFault
value_of text =
    if not (is_numeral text) then Err NotDigits
    else (if has_leading_zero text then Err LeadingZero
    else (if nat_lt TOP (digits_value 10 text) then Err TooLarge else Ok (digits_value 10 text)))
