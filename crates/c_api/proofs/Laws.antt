-- A point's places are written on 0 alone, and the starred loop of document 01 tells the plant from the controller. Assumes nothing.
use Prim.Native.Nat.{ℕ}
use mathlib.Core.Path.{◌≡◌, refl}
use mathlib.Core.Bool.{true, false}
use mathlib.Core.List.{[], ◌∷◌, map}
use borrow.Author.Tests.{ne_eqb}
use lib.Ieee.{Float, binary64, round, add, sub, mul, div, lt, of_bits}
use Rattle.laws.specs.Outcome.{Outcome, found, answered}
use Rattle.complex.specs.declared.Complex.{Complex}
use Rattle.complex.specs.Complex.{new_of, from_real, product, magnitude_sq, small, ratio, quotient_or_zero}
use Rattle.transfer_fn.specs.Evaluation.{sum_up, term_of, pair_sum, numerator, denominator, value_at, evaluation_refusal}
use Rattle.sensitivity.specs.Responses.{loop_gain, sensitivity, comp_sensitivity, control_sensitivity, response_by}
use Rattle.root_locus.specs.Locus.{Point}
use Rattle.places.specs.Coefficients.{transfer_fn}
use Rattle.c_api.specs.Places.{loop_shaping}
use Rattle.c_api.specs.Points.{placed_by}

-- ---- a place of a point

module _ {A : Type 0} (p : Point) (new old : A) where
  pub written_on_zero : p.number ≡ 0 → placed_by p new old ≡ new
  written_on_zero h = rw h

  pub kept_on_refusal : (p.number ≡ 0 → ⊥) → placed_by p new old ≡ old
  kept_on_refusal h = rw (ne_eqb p.number 0 h)

-- ---- plant b 1, a -0.5, controller b 0.5, a 0, pairs (1, -0) twice: L 1, S 0.5, T 0.5, Q 0.25

infix 70 ◌over◌
abbrev ◌over◌ : ℕ → ℕ → Float
◌over◌ m n = round binary64 false m n

-- what the host is answered
abbrev response : (Complex → Complex → Complex) → Outcome
response f =
    let plant = transfer_fn (1 over 1 ∷ []) (round binary64 true 1 2 ∷ []) 1 in
    let controller = transfer_fn (1 over 2 ∷ []) (0 over 1 ∷ []) 1 in
    let minus_zero = round binary64 true 0 1 in
    response_by f (loop_shaping plant controller) (1 over 1 ∷ 1 over 1 ∷ []) (minus_zero ∷ minus_zero ∷ [])

abbrev real : Float → Outcome
real x = found (x ∷ 0 over 1 ∷ [])

pub starred_loop : map response (loop_gain ∷ sensitivity ∷ comp_sensitivity ∷ control_sensitivity ∷ []) ≡ map real (1 over 1 ∷ 1 over 2 ∷ 1 over 2 ∷ 1 over 4 ∷ [])
unfolding round of_bits add sub mul div lt answered new_of from_real product magnitude_sq small ratio quotient_or_zero
    sum_up term_of pair_sum numerator denominator value_at evaluation_refusal response_by
starred_loop = refl
