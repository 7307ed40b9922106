-- The scans over a Bode sweep. Definitions only.
use Rattle.std.specs.Prelude.{Bool, cond, List, Option, Some, None, Float}
use Rattle.std.specs.Float.{binary64}
use Rattle.std.specs.Float.Ieee.{add, sub, mul, div, neg, lt, of_bits}
use Rattle.scalar.specs.Scalar.{f0, eps, abs_of}
use Rattle.sweep.specs.Scan.{first_pair, cross_if, crosses_zero, crosses_level, encloses, between, zip3}
use Rattle.bode.specs.declared.Reading.{Reading}

-- 180
abbrev pub f180 : Float
f180 = of_bits binary64 0x4066_8000_0000_0000

abbrev pub reading : Float → Float → Float → Reading
reading omega db phase = record { omega = omega; db = db; phase = phase }

-- a sweep as three lists
abbrev pub readings : List Float → List Float → List Float → List Reading
readings omega db phase = zip3 reading omega db phase

-- ---- crossovers: one dB value is ≥ 0 and the other ≤ 0; exactly one phase lies above -180

-- where the magnitude is 0 dB, and where the phase is -180, on the straight line from a to b
unfoldable pub gain_between : Reading → Reading → Float
gain_between a b = between a.omega b.omega (neg a.db) (sub binary64 b.db a.db)

unfoldable pub phase_between : Reading → Reading → Float
phase_between a b = between a.omega b.omega (sub binary64 (neg f180) a.phase) (sub binary64 b.phase a.phase)

-- whether two readings cross, and where
abbrev pub gain_crosses : Reading → Reading → Bool
gain_crosses a b = crosses_zero a.db b.db

abbrev pub phase_crosses : Reading → Reading → Bool
phase_crosses a b = crosses_level (neg f180) a.phase b.phase

unfoldable pub gain_pair : Reading → Reading → Option Float
gain_pair a b = cross_if (gain_crosses a b) (gain_between a b)

unfoldable pub phase_pair : Reading → Reading → Option Float
phase_pair a b = cross_if (phase_crosses a b) (phase_between a b)

unfoldable pub gain_crossover : List Reading → Option Float
gain_crossover l = first_pair gain_pair l

unfoldable pub phase_crossover : List Reading → Option Float
phase_crossover l = first_pair phase_pair l

-- ---- margins: at a crossover x, by the first pair whose frequencies enclose it

-- how far x lies on the way from w0 to w1, and 0 where they are closer than eps
unfoldable pub part_of_way : Float → Float → Float → Float
part_of_way x w0 w1 = cond (lt (abs_of (sub binary64 w1 w0)) eps) f0 (div binary64 (sub binary64 x w0) (sub binary64 w1 w0))

-- the value at x, of v0 at w0 and v1 at w1
unfoldable pub value_at : Float → Float → Float → Float → Float → Float
value_at x w0 w1 v0 v1 = add binary64 v0 (mul binary64 (part_of_way x w0 w1) (sub binary64 v1 v0))

-- the magnitude at x, negated; 180 plus the phase at x
unfoldable pub gain_margin_between : Float → Reading → Reading → Float
gain_margin_between x a b = neg (value_at x a.omega b.omega a.db b.db)

unfoldable pub phase_margin_between : Float → Reading → Reading → Float
phase_margin_between x a b = add binary64 f180 (value_at x a.omega b.omega a.phase b.phase)

unfoldable pub gain_margin_pair : Float → Reading → Reading → Option Float
gain_margin_pair x a b = cross_if (encloses x a.omega b.omega) (gain_margin_between x a b)

unfoldable pub phase_margin_pair : Float → Reading → Reading → Option Float
phase_margin_pair x a b = cross_if (encloses x a.omega b.omega) (phase_margin_between x a b)

-- the margin at a crossover, if there is one
unfoldable pub margin_at : (Float → Reading → Reading → Option Float) → List Reading → Option Float → Option Float
margin_at p l (Some x) = first_pair (p x) l
margin_at p l None = None

unfoldable pub gain_margin : List Reading → Option Float
gain_margin l = margin_at gain_margin_pair l (phase_crossover l)

unfoldable pub phase_margin : List Reading → Option Float
phase_margin l = margin_at phase_margin_pair l (gain_crossover l)

-- ---- the same for either crossover

-- which crossover of a sweep: where the magnitude crosses 0 dB, or where the phase crosses -180 degrees
pub data Crossover : Type 0 where
  Gain : Crossover
  Phase : Crossover

-- the value of a reading in which it is sought, and whether two values cross
abbrev pub value_of : Crossover → Reading → Float
value_of Gain r = r.db
value_of Phase r = r.phase

abbrev pub cross_of : Crossover → Float → Float → Bool
cross_of Gain = crosses_zero
cross_of Phase = crosses_level (neg f180)

-- where two readings that cross do so
abbrev pub between_of : Crossover → Reading → Reading → Float
between_of Gain = gain_between
between_of Phase = phase_between

-- whether two readings cross, and where
abbrev pub crosses_of : Crossover → Reading → Reading → Bool
crosses_of which a b = cross_of which (value_of which a) (value_of which b)

abbrev pub pair_of : Crossover → Reading → Reading → Option Float
pair_of Gain = gain_pair
pair_of Phase = phase_pair

-- the first crossing in a list
abbrev pub crossover_of : Crossover → List Reading → Option Float
crossover_of Gain = gain_crossover
crossover_of Phase = phase_crossover
