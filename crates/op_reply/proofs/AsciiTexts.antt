-- Moments and decimal texts are ASCII.
use Rattle.std.proofs.Common.{◌<◌, ℕ, zero, suc, ◌+◌, ◌-◌, ◌%◌, ◌/◌, ◌^◌, ◌==◌, Bool, true, false, List, [], ◌∷◌, ◌++◌, codes, length, replicate, take, drop, arith, mod-lt, if◌then◌else◌}
use Rattle.std.specs.Fmt.{decimal}
use Rattle.std.specs.List.{insert}
use Rattle.std.specs.Str.{IsAscii, IsUtf8}
use Rattle.std.proofs.lemmas.Str.{IsUtf8-from_ascii, IsAscii-append, IsAscii-take, IsAscii-drop}
use Rattle.std.proofs.lemmas.Str.Ascii.{IsAscii-nil, IsAscii-cons}
use Rattle.std.proofs.lemmas.Fmt.{IsAscii-decimal}
use Rattle.op_amount.specs.Scaled.{padded, scaled}
use Rattle.op_time.specs.Calendar.{Date}
use Rattle.op_time.specs.MomentTexts.{digit, two, three, four, date_text, time_text, moment_text}

digit_is_ascii : (n : ℕ) → digit n < 128
digit_is_ascii n = let small : n % 10 < 10 = mod-lt n (omega arith) in omega (arith, small)

two_ascii : (n : ℕ) → IsAscii (two n)
two_ascii n = IsAscii-cons (digit (n / 10)) (digit n ∷ []) (digit_is_ascii (n / 10)) (IsAscii-cons (digit n) [] (digit_is_ascii n) IsAscii-nil)

three_ascii : (n : ℕ) → IsAscii (three n)
three_ascii n = IsAscii-cons (digit (n / 100)) (two n) (digit_is_ascii (n / 100)) (two_ascii n)

four_ascii : (n : ℕ) → IsAscii (four n)
four_ascii n = IsAscii-cons (digit (n / 1000)) (three n) (digit_is_ascii (n / 1000)) (three_ascii n)

-- a sign between two texts
around : (xs ys : List ℕ) (sign : ℕ) → sign < 128 → IsAscii xs → IsAscii ys → IsAscii (xs ++ sign ∷ ys)
around xs ys sign small a b = IsAscii-append xs (sign ∷ ys) a (IsAscii-cons sign ys small b)

date_ascii : (date : Date) → IsAscii (date_text date)
date_ascii date =
    around (four date.year) (two date.month ++ codes "-" ++ two date.day) 45 (omega arith) (four_ascii date.year)
    (around (two date.month) (two date.day) 45 (omega arith) (two_ascii date.month) (two_ascii date.day))

time_ascii : (ms : ℕ) → IsAscii (time_text ms)
time_ascii ms =
    around (two (ms / 3600000)) (two (ms / 60000 % 60) ++ codes ":" ++ two (ms / 1000 % 60) ++ codes "." ++ three (ms % 1000)) 58 (omega arith) (two_ascii (ms / 3600000))
    (around (two (ms / 60000 % 60)) (two (ms / 1000 % 60) ++ codes "." ++ three (ms % 1000)) 58 (omega arith) (two_ascii (ms / 60000 % 60))
    (around (two (ms / 1000 % 60)) (three (ms % 1000)) 46 (omega arith) (two_ascii (ms / 1000 % 60)) (three_ascii (ms % 1000))))

moment_ascii : (date : Date) (ms : ℕ) → IsAscii (date_text date ++ codes "T" ++ time_text ms ++ codes "Z")
moment_ascii date ms =
    around (date_text date) (time_text ms ++ codes "Z") 84 (omega arith) (date_ascii date)
    (IsAscii-append (time_text ms) (codes "Z") (time_ascii ms) (IsAscii-cons 90 [] (omega arith) IsAscii-nil))

pub IsUtf8-moment_text : (t : ℕ) → IsUtf8 (moment_text t)
IsUtf8-moment_text t = IsUtf8-from_ascii (moment_text t) (moment_ascii _ _)

zeros_ascii : (n : ℕ) → IsAscii (replicate n 48)
zeros_ascii zero = IsAscii-nil
zeros_ascii (suc n) = IsAscii-cons 48 (replicate n 48) (omega arith) (zeros_ascii n)

padded_ascii : (value scale : ℕ) → value < 2 ^ 64 → IsAscii (padded value scale)
padded_ascii value scale fits = IsAscii-append (replicate (scale + 1 - length (decimal value)) 48) (decimal value) (zeros_ascii _) (IsAscii-decimal value fits)

pointed : (xs : List ℕ) (place : ℕ) → IsAscii xs → IsAscii (insert xs place 46)
pointed xs place ascii = around (take place xs) (drop place xs) 46 (omega arith) (IsAscii-take xs place ascii) (IsAscii-drop xs place ascii)

either : (test : Bool) (xs ys : List ℕ) → IsAscii xs → IsAscii ys → IsAscii (if test then xs else ys)
either true xs ys a b = a
either false xs ys a b = b

pub IsUtf8-scaled : (value scale : ℕ) → value < 2 ^ 64 → IsUtf8 (scaled value scale)
IsUtf8-scaled value scale fits =
    IsUtf8-from_ascii (scaled value scale)
    (either (scale == 0) (decimal value) (insert (padded value scale) (length (padded value scale) - scale) 46) (IsAscii-decimal value fits)
    (pointed (padded value scale) (length (padded value scale) - scale) (padded_ascii value scale fits)))
