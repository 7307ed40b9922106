-- The scans over a sweep of S and T in dB. Definitions only.
use Rattle.std.specs.Prelude.{Bool, List, Option, get_or, Float}
use Rattle.std.specs.Float.{binary64}
use Rattle.std.specs.Float.Ieee.{sub, neg, of_bits}
use Rattle.scalar.specs.Scalar.{f0}
use Rattle.sweep.specs.Scan.{first_pair, cross_if, crosses_zero, drops_below, between}
use Rattle.sensitivity.specs.declared.Reading.{Reading}

abbrev pub reading : Float → Float → Float → Reading
reading omega s t = record { omega = omega; s = s; t = t }

-- ---- the crossover of S and T: their difference is ≥ 0 at one of two neighbours and ≤ 0 at the other

-- S - T
unfoldable pub difference : Reading → Float
difference r = sub binary64 r.s r.t

-- where the difference is 0 on the straight line from a to b
unfoldable pub equal_between : Reading → Reading → Float
equal_between a b = between a.omega b.omega (neg (difference a)) (sub binary64 (difference b) (difference a))

-- whether two readings cross, and where
abbrev pub equal_crosses : Reading → Reading → Bool
equal_crosses a b = crosses_zero (difference a) (difference b)

unfoldable pub equal_pair : Reading → Reading → Option Float
equal_pair a b = cross_if (equal_crosses a b) (equal_between a b)

unfoldable pub sensitivity_crossover : List Reading → Option Float
sensitivity_crossover l = first_pair equal_pair l

-- ---- bandwidth: T is at or above a level at one reading and below it at the next, the level being the list's first T less 3

abbrev pub f3 : Float
f3 = of_bits binary64 0x4008_0000_0000_0000

-- what stands in the place of a reading that is not there
abbrev pub zero_reading : Reading
zero_reading = reading f0 f0 f0

-- the level by the first reading, and of a list; a list without readings has no neighbours, so that its level does not matter
abbrev pub level_by : Reading → Float
level_by r = sub binary64 r.t f3

unfoldable pub level_of : List Reading → Float
level_of l = level_by (get_or l 0 zero_reading)

-- where T is at the level on the straight line from a to b
unfoldable pub drop_between : Float → Reading → Reading → Float
drop_between level a b = between a.omega b.omega (sub binary64 level a.t) (sub binary64 b.t a.t)

-- whether T drops below the level between two readings, and where
abbrev pub drops : Float → Reading → Reading → Bool
drops level a b = drops_below level a.t b.t

unfoldable pub drop_pair : Float → Reading → Reading → Option Float
drop_pair level a b = cross_if (drops level a b) (drop_between level a b)

unfoldable pub bandwidth_of : List Reading → Option Float
bandwidth_of l = first_pair (drop_pair (level_of l)) l
