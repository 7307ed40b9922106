-- A curve, and how near it comes to the critical point (-1, 0). Definitions only.
use Rattle.std.specs.Prelude.{ℕ, cond, List, [], ◌∷◌, eqb, length, Float}
use Rattle.std.specs.Float.{binary64}
use Rattle.std.specs.Float.Ieee.{sub, neg, lt, of_bits}
use Rattle.laws.specs.Loops.{push_all}
use Rattle.laws.specs.Choice.{lesser}
use Rattle.laws.specs.Outcome.{Outcome, answered}
use Rattle.scalar.specs.Scalar.{f0, f1}
use Rattle.complex.specs.declared.Complex.{Complex}
use Rattle.complex.specs.Complex.{new_of, magnitude_sq, magnitude_of}
use Rattle.sweep.specs.Refusal.{scan_refusal}

-- the points whose real and imaginary parts stand in two lists, as far as the shorter goes
unfoldable pub points : List Float → List Float → List Complex
points [] ys = []
points (x ∷ xs) [] = []
points (x ∷ xs) (y ∷ ys) = new_of x y ∷ points xs ys

-- the way from (-1, 0) to z: the Rust takes -1 from the real part, and nothing from the imaginary one
unfoldable pub from_critical : Complex → Complex
from_critical z = record { re = sub binary64 z.re (neg f1); im = z.im }

-- the distance of z from (-1, 0)
unfoldable pub point_distance : Complex → Float
point_distance z = magnitude_of (from_critical z)

-- the Rust's f64::MAX, and its f64::MAX / 2.0
abbrev pub largest : Float
largest = of_bits binary64 0x7fef_ffff_ffff_ffff

abbrev pub half_largest : Float
half_largest = of_bits binary64 0x7fdf_ffff_ffff_ffff

-- The least distance of a list's points: it begins at the largest number and falls to each distance that is less. A NaN never is, nor is an infinity.
unfoldable pub least_distance : List Complex → Float
least_distance l = push_all (λ (m : Float) (z : Complex). lesser (λ (x : Float). x) m (point_distance z)) largest l

-- 0 in place of a least distance that is still above half the largest number, no point having brought it down
unfoldable pub or_zero : Float → Float
or_zero m = cond (lt half_largest m) f0 m

-- the distance of a curve from (-1, 0), however many points it has
unfoldable pub distance_of : List Complex → Float
distance_of l = or_zero (least_distance l)

-- A scan of a curve, or a part fed: 11 if the lists differ in length, 15 above 4,096 points.
unfoldable pub curve_refusal : List Float → List Float → ℕ
curve_refusal re im = scan_refusal (eqb (length re) (length im)) (length re)

-- `distance_to_critical`: the refusal, or else the distance
unfoldable pub distance_outcome : List Float → List Float → Outcome
distance_outcome re im = answered (curve_refusal re im) (distance_of (points re im) ∷ [])

-- ---- what the program keeps in place of distances: their squares, whose root it takes once

-- +infinity
abbrev pub infinity : Float
infinity = of_bits binary64 0x7ff0_0000_0000_0000

-- the square of the distance of z from (-1, 0)
unfoldable pub point_square : Complex → Float
point_square z = magnitude_sq (from_critical z)

-- the least square of a list's points, and infinity where none is finite
unfoldable pub least_square : List Complex → Float
least_square l = push_all (λ (m : Float) (z : Complex). lesser (λ (x : Float). x) m (point_square z)) infinity l
