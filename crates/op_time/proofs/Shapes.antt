-- What the shape of a moment's text says of its parts.
use Rattle.std.proofs.Common.{◌≡◌, ◌&&◌, ℕ, Bool, true, List, codes}
use Rattle.op_time.specs.Digits.{fits}
use Rattle.op_time.specs.MomentTexts.{has_shape, clock_of, zone_of, is_fraction, is_zone}
use Rattle.op_time.proofs.Fitting.{and_true}

last_of_three : (a b c : Bool) → (a && (b && c)) ≡ true → c ≡ true
last_of_three a b c h = (and_true b c (and_true a (b && c) h).1).1

pub shape_has_zone : (text : List ℕ) → has_shape text ≡ true → is_zone (zone_of text) ≡ true
shape_has_zone text h =
    last_of_three (fits (codes "dddd-dd-ddTdd:dd:dd") (clock_of text)) (is_fraction text) (is_zone (zone_of text)) h
