-- A quotient is known by its outcome. Assumes nothing.
use mathlib.Core.Path.{◌≡◌, refl, sym, ap, ◌∙◌}
use mathlib.Core.Bool.{Bool, true, false, cond}
use native.Mathlib.Omega.{arith}
use lib.Ieee.{Float}
use Rattle.std.specs.Prelude.{Option, Some, None, unwrap_or}
use Rattle.laws.specs.Outcome.{found, none}
use Rattle.laws.proofs.Outcome.{found_values, apart, option_known}
use Rattle.scalar.specs.Scalar.{f0}
use Rattle.complex.specs.Complex.{new_of, from_real, small, ratio, values_of, outcome_of, quotient, quotient_or_zero}
use Rattle.complex.specs.declared.Complex.{Complex}

-- a complex number is known by its values
pub values_known : (x y : Complex) → values_of x ≡ values_of y → x ≡ y
unfolding new_of
values_known x y h =
    let a : x.re ≡ y.re = cc in
    let b : x.im ≡ y.im = cc in
    ap (λ (u : Float). new_of u x.im) a ∙ ap (λ (v : Float). new_of y.re v) b

pub outcome_known : (p q : Option Complex) → outcome_of p ≡ outcome_of q → p ≡ q
unfolding outcome_of
outcome_known p q h = option_known (λ z. found (values_of z)) (λ x y e. values_known x y (found_values e)) (λ x e. omega arith) p q h

-- what a quotient says of the quotient or zero
module _ (x y : Complex) where
  value_is : {z : Complex} → outcome_of (Some z) ≡ quotient x y → z ≡ quotient_or_zero x y
  unfolding outcome_of quotient quotient_or_zero
  value_is {z} h = go (small y) h
    where
      go : (b : Bool) → found (values_of z) ≡ cond b none (found (values_of (ratio x y))) → z ≡ cond b (from_real f0) (ratio x y)
      go true h = absurd (apart h (omega arith))
      go false h = values_known z (ratio x y) (found_values h)

  none_is : outcome_of None ≡ quotient x y → from_real f0 ≡ quotient_or_zero x y
  unfolding outcome_of quotient quotient_or_zero
  none_is h = go (small y) h
    where
      go : (b : Bool) → none ≡ cond b none (found (values_of (ratio x y))) → from_real f0 ≡ cond b (from_real f0) (ratio x y)
      go true h = refl
      go false h = absurd (apart (sym h) (omega arith))

  pub or_zero_is : (q : Option Complex) → outcome_of q ≡ quotient x y → unwrap_or q (from_real f0) ≡ quotient_or_zero x y
  or_zero_is (Some z) h = value_is h
  or_zero_is None h = none_is h
