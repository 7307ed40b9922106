-- The root of the least square is the least distance, where there is one, so that one root serves the whole curve. Assumes nothing.
use mathlib.Core.Path.{◌≡◌, refl, sym, ap, ◌∙◌}
use mathlib.Core.Bool.{Bool, true, false, cond}
use mathlib.Core.List.{List}
use lib.Dec.{T}
use lib.Ieee.{Float, binary64, lt, is_nan, of_bits, fits}
use lib.Ieee.Bits.{of_bits-fits}
use Rattle.std.specs.Float.{NotNan}
use Rattle.laws.specs.Choice.{lesser}
use Rattle.laws.proofs.Order.{lt_not_trans}
use Rattle.laws.proofs.Loops.{pushed_through}
use Rattle.laws.proofs.Choice.{itself, lesser_taken, lesser_left, least_from, least_number, least_spread}
use Rattle.scalar.specs.Sqrt.{sqrt_of}
use Rattle.scalar.proofs.Monotone.{sqrt_lesser}
use Rattle.complex.specs.Complex.{magnitude_of}
use Rattle.complex.specs.declared.Complex.{Complex}
use Rattle.complex.proofs.Squares.{square_not_below, square_fits}
use Rattle.nyquist.specs.Curve.{from_critical, point_distance, point_square, largest, half_largest, infinity, least_distance, least_square, or_zero, distance_of}

-- ---- the root of the least square from m on is the least distance from the root of m on

lesser_fits : (m d : Float) → T (fits binary64 m) → T (fits binary64 d) → T (fits binary64 (lesser itself m d))
unfolding lesser
lesser_fits m d h k = either (lt d m)
  where
    either : (b : Bool) → T (fits binary64 (cond b d m))
    either true = k
    either false = h

root_lesser : (m : Float) (z : Complex) → T (fits binary64 m) → sqrt_of (lesser itself m (point_square z)) ≡ lesser itself (sqrt_of m) (point_distance z)
unfolding point_square point_distance magnitude_of
root_lesser m z h = sqrt_lesser m _ h (square_fits (from_critical z)) (square_not_below (from_critical z))

root_least : (l : List Complex) (m : Float) → T (fits binary64 m) → sqrt_of (least_from itself point_square m l) ≡ least_from itself point_distance (sqrt_of m) l
root_least =
    pushed_through sqrt_of _ _ (λ (m : Float). T (fits binary64 m))
    (λ m z h. (lesser_fits m (point_square z) h (unfold point_square in square_fits (from_critical z)), root_lesser m z h))

-- ---- the scan begins at infinity, and the definition at the largest number: where they differ, both give 0

root_infinity : sqrt_of infinity ≡ infinity
unfolding sqrt_of of_bits
root_infinity = refl

infinity_number : NotNan infinity
unfolding of_bits is_nan
infinity_number = tt

largest_less : largest ≡ lesser itself largest infinity
unfolding lesser lt of_bits
largest_less = refl

half_below : lt half_largest largest ≡ true
unfolding lt of_bits
half_below = refl

zero_either_way : (d : Float) → NotNan d → or_zero (lesser itself largest d) ≡ or_zero d
zero_either_way d n = go (lt d largest) refl (lt half_largest d) refl
  where
    go : (a : Bool) → lt d largest ≡ a → (b : Bool) → lt half_largest d ≡ b → or_zero (lesser itself largest d) ≡ or_zero d
    go true e b f = ap or_zero (sym (lesser_taken itself largest d e))
    go false e true f = ap or_zero (sym (lesser_left itself largest d e)) ∙ (unfold or_zero in rw (half_below, f))
    go false e false f = let h = lt_not_trans half_largest d largest n f e in let g = half_below in cc

pub one_root : (l : List Complex) → or_zero (sqrt_of (least_square l)) ≡ distance_of l
unfolding distance_of least_distance least_square
one_root l =
    let from : Float → Float = λ m. least_from itself point_distance m l in
    ap or_zero (root_least l infinity (of_bits-fits binary64 0x7ff0_0000_0000_0000) ∙ ap from root_infinity)
    ∙ sym (zero_either_way (from infinity) (least_number itself point_distance l infinity infinity_number))
    ∙ ap or_zero (sym (ap from largest_less ∙ least_spread itself point_distance l largest infinity infinity_number))
