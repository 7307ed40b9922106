-- Laws of the distance and of the frequencies that a reader will look for. Assumes nothing.
use Prim.Native.Nat.{ℕ, ◌-◌, ◌≤◌}
use mathlib.Core.Path.{◌≡◌, refl, ap, ◌∙◌}
use mathlib.Core.Bool.{false}
use mathlib.Core.List.{List, [], ◌∷◌, ◌++◌}
use native.Mathlib.Omega.{arith}
use lib.IntN.{pos}
use lib.Dec.{T}
use lib.Ieee.{Float, binary64, mul, lt, is_nan, of_int, of_bits, fits}
use lib.Ieee.Positive.{positive}
use Rattle.std.specs.Float.{NotNan}
use Rattle.laws.specs.Choice.{lesser}
use Rattle.laws.proofs.Least.{least_append, least_passes, least_not_above}
use Rattle.scalar.specs.Scalar.{f0}
use Rattle.laws.proofs.Choice.{itself}
use Rattle.scalar.proofs.Exact.{one_times, zero_times, zero_over, over_itself, whole_positive}
use Rattle.complex.specs.declared.Complex.{Complex}
use Rattle.nyquist.specs.Curve.{point_distance, largest, least_distance, or_zero, distance_of}
use Rattle.nyquist.specs.Frequency.{frequency_at}

-- ---- the distance

-- an empty curve has the distance 0
pub distance_of_none : distance_of [] ≡ f0
unfolding distance_of or_zero least_distance lt of_bits
distance_of_none = refl

largest_number : NotNan largest
unfolding of_bits is_nan
largest_number = tt

-- one curve behind another has the lesser of their least distances
pub distance_append : (l k : List Complex) → distance_of (l ++ k) ≡ or_zero (lesser itself (least_distance l) (least_distance k))
unfolding distance_of least_distance
distance_append l k = ap or_zero (least_append itself point_distance largest largest_number l k)

-- a point whose distance is a NaN or an infinity is passed over, wherever it stands
pub distance_passes : (l : List Complex) (z : Complex) (k : List Complex) → lt (point_distance z) largest ≡ false → distance_of (l ++ z ∷ k) ≡ distance_of (l ++ k)
unfolding distance_of least_distance
distance_passes l z k h = ap or_zero (least_passes itself point_distance largest largest_number l z k h)

-- no point of the curve is nearer
pub none_nearer : (l : List Complex) (z : Complex) (k : List Complex) → lt (point_distance z) (least_distance (l ++ z ∷ k)) ≡ false
unfolding least_distance
none_nearer l z k = least_not_above itself point_distance largest largest_number l z k

-- ---- the frequencies up to a finite top above 0: the first is +0, the last the top itself
module _ (top : Float) (p : T (positive top)) (n : ℕ) (two : 2 ≤ n) (most : n ≤ 4096) where
  last_positive : T (positive (of_int binary64 (pos (n - 1))))
  last_positive = whole_positive (n - 1) (omega arith) (omega arith)

  pub first_frequency : frequency_at top n 0 ≡ f0
  unfolding frequency_at of_int of_bits
  first_frequency = ap (λ (x : Float). mul binary64 x top) (zero_over (of_int binary64 (pos (n - 1))) last_positive) ∙ zero_times top p

  pub last_frequency : T (fits binary64 top) → frequency_at top n (n - 1) ≡ top
  unfolding frequency_at
  last_frequency h = rw (over_itself (of_int binary64 (pos (n - 1))) last_positive) (one_times top h p)
