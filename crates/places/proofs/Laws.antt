-- Which place is which: what was put is read back, and a value of document 01 tells b from a. Assumes nothing.
use mathlib.Core.Path.{◌≡◌, refl}
use mathlib.Core.Bool.{true, false}
use mathlib.Core.List.{List, [], ◌∷◌, flat_map}
use lib.Ieee.{binary64, round, of_bits, add, sub, mul, div, lt}
use Rattle.complex.specs.declared.Complex.{Complex}
use Rattle.complex.specs.Complex.{values_of, magnitude_sq, small, ratio, quotient_or_zero}
use Rattle.transfer_fn.specs.Evaluation.{sum_up, term_of, pair_sum, numerator, denominator, value_at}
use Rattle.places.specs.Complex.{poles_of, parts_of}
use Rattle.places.specs.Coefficients.{transfer_fn}

module _ (z₀ z₁ z₂ z₃ z₄ z₅ z₆ z₇ : Complex) where
  abbrev eight : List Complex
  eight = z₀ ∷ z₁ ∷ z₂ ∷ z₃ ∷ z₄ ∷ z₅ ∷ z₆ ∷ z₇ ∷ []

  -- the parts are the poles' values, one pole behind another
  pub parts_are : parts_of eight ≡ flat_map values_of eight
  unfolding flat_map
  parts_are = refl

  pub poles_back : poles_of (parts_of eight) ≡ eight
  poles_back = refl

-- the plant of the starred loop, b 1, a -0.5, pairs (1, -0) twice: 1 / (1 - 0.5) = 2
pub plant_value :
    let one = round binary64 false 1 1 in
    let minus_zero = round binary64 true 0 1 in
    values_of (value_at (transfer_fn (one ∷ []) (round binary64 true 1 2 ∷ []) 1) (one ∷ one ∷ []) (minus_zero ∷ minus_zero ∷ []))
    ≡ round binary64 false 2 1 ∷ round binary64 false 0 1 ∷ []
unfolding round of_bits add sub mul div lt magnitude_sq small ratio quotient_or_zero sum_up term_of pair_sum numerator denominator value_at
plant_value = refl
