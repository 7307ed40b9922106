-- Complex arithmetic on binary64, each operation rounded, in the Rust's order. Definitions only.
use Rattle.std.specs.Prelude.{Bool, cond, List, [], ◌∷◌, Option, get_or, Float}
use Rattle.std.specs.Float.{binary64, nan}
use Rattle.std.specs.Float.Ieee.{add, sub, mul, div, neg, lt}
use Rattle.laws.specs.Outcome.{Outcome, found, none, option_outcome}
use Rattle.scalar.specs.Scalar.{f0, eps}
use Rattle.scalar.specs.Sqrt.{sqrt_of}
use Rattle.complex.specs.declared.Complex.{Complex}

unfoldable pub new_of : Float → Float → Complex
new_of x y = record { re = x; im = y }

unfoldable pub from_real : Float → Complex
from_real x = record { re = x; im = f0 }

-- (a + jb)(c + jd) = (ac - bd) + j(ad + bc)
unfoldable pub product : Complex → Complex → Complex
product x y =
    record {
      re = sub binary64 (mul binary64 x.re y.re) (mul binary64 x.im y.im);
      im = add binary64 (mul binary64 x.re y.im) (mul binary64 x.im y.re);
    }

unfoldable pub sum : Complex → Complex → Complex
sum x y = record { re = add binary64 x.re y.re; im = add binary64 x.im y.im }

unfoldable pub difference : Complex → Complex → Complex
difference x y = record { re = sub binary64 x.re y.re; im = sub binary64 x.im y.im }

-- |z|² = re² + im²
unfoldable pub magnitude_sq : Complex → Float
magnitude_sq z = add binary64 (mul binary64 z.re z.re) (mul binary64 z.im z.im)

unfoldable pub magnitude_of : Complex → Float
magnitude_of z = sqrt_of (magnitude_sq z)

-- the squared magnitude is below eps; that of a NaN is not
unfoldable pub small : Complex → Bool
small z = lt (magnitude_sq z) eps

-- (re - j im) / |z|²
unfoldable pub inverse : Complex → Complex
inverse z = record { re = div binary64 z.re (magnitude_sq z); im = div binary64 (neg z.im) (magnitude_sq z) }

-- (a + jb)/(c + jd) = ((ac + bd) + j(bc - ad)) / (c² + d²)
unfoldable pub ratio : Complex → Complex → Complex
ratio x y =
    record {
      re = div binary64 (add binary64 (mul binary64 x.re y.re) (mul binary64 x.im y.im)) (magnitude_sq y);
      im = div binary64 (sub binary64 (mul binary64 x.im y.re) (mul binary64 x.re y.im)) (magnitude_sq y);
    }

-- the complex number of a real and an imaginary part
abbrev pub complex_of : List Float → Complex
complex_of l = new_of (get_or l 0 nan) (get_or l 1 nan)

-- ---- answers in the numbers of document 01

abbrev pub values_of : Complex → List Float
values_of z = z.re ∷ z.im ∷ []

-- 0 with real and imaginary part; 100 for none
unfoldable pub outcome_of : Option Complex → Outcome
outcome_of q = option_outcome (λ z. found (values_of z)) q

-- none where z's squared magnitude is below eps
unfoldable pub reciprocal_of : Complex → Outcome
reciprocal_of z = cond (small z) none (found (values_of (inverse z)))

-- none where y's squared magnitude is below eps
unfoldable pub quotient : Complex → Complex → Outcome
quotient x y = cond (small y) none (found (values_of (ratio x y)))

-- the quotient, and (0, 0) where there is none
unfoldable pub quotient_or_zero : Complex → Complex → Complex
quotient_or_zero x y = cond (small y) (from_real f0) (ratio x y)
