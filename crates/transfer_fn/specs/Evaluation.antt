-- The value of a transfer function at a frequency ω, from two lists: cosine and sine of -(ω * k) for k = 0, 1, 2 and on. Definitions only.
use Rattle.std.specs.Prelude.{ℕ, zero, suc, ◌+◌, max, not, List, ◌++◌, Result, eqb, ltb, length, get_or, Float}
use Rattle.std.specs.Float.{nan, binary64}
use Rattle.std.specs.Float.Ieee.{add, mul}
use Rattle.laws.specs.Outcome.{Outcome, found, result_outcome, when, answered}
use Rattle.scalar.specs.Scalar.{f0, f1}
use Rattle.complex.specs.declared.Complex.{Complex}
use Rattle.complex.specs.Complex.{values_of, quotient_or_zero}
use Rattle.sweep.specs.Refusal.{number_of}
use Rattle.sweep.specs.declared.FreqError.{FreqError}
use Rattle.transfer_fn.specs.declared.TransferFn.{TransferFn}

-- ((start + term 0) + term 1) + .., n terms in rising k, each sum rounded before the next
unfoldable pub sum_up : Float → (ℕ → Float) → ℕ → Float
sum_up start term zero = start
sum_up start term (suc n) = add binary64 (sum_up start term n) (term n)

-- coefficient k times the cosine, or the sine, of pair k + first
unfoldable pub term_of : List Float → List Float → ℕ → ℕ → Float
term_of coefficients turns first k = mul binary64 (get_or coefficients k nan) (get_or turns (k + first) nan)

-- start and the first n coefficients, each times its pair of cosine and sine
unfoldable pub pair_sum : Float → List Float → ℕ → List Float → List Float → ℕ → Complex
pair_sum start coefficients n cosines sines first =
    record {
      re = sum_up start (term_of coefficients cosines first) n;
      im = sum_up f0 (term_of coefficients sines first) n;
    }

-- b[0] + b[1] e^-jω + .. with pair k for b[k], from zero
unfoldable pub numerator : TransferFn → List Float → List Float → Complex
numerator tf cosines sines = pair_sum f0 tf.b tf.order cosines sines 0

-- 1 + a[0] e^-jω + a[1] e^-2jω + .. with pair k + 1 for a[k], from one
unfoldable pub denominator : TransferFn → List Float → List Float → Complex
denominator tf cosines sines = pair_sum f1 tf.a tf.order cosines sines 1

-- the value: (0, 0) where the denominator is below eps in square
unfoldable pub value_at : TransferFn → List Float → List Float → Complex
value_at tf cosines sines = quotient_or_zero (numerator tf cosines sines) (denominator tf cosines sines)

-- 16 if the order, or the larger of two, is above 8; 11 if the lists differ in length; 13 if they hold fewer than order + 1 pairs. More are ignored.
unfoldable pub evaluation_refusal : ℕ → ℕ → ℕ → ℕ
evaluation_refusal order cosines sines =
    when (ltb 8 order) 16 (when (not (eqb cosines sines)) 11 (when (ltb cosines (order + 1)) 13 0))

-- ---- answers in the numbers of document 01

-- 0 with real and imaginary part, or the refusal
unfoldable pub outcome_of : Result Complex FreqError → Outcome
outcome_of r = result_outcome number_of (λ z. found (values_of z)) r

-- 0 with the parts of both values, or the refusal
unfoldable pub outcome_of_both : Result (Complex × Complex) FreqError → Outcome
outcome_of_both r = result_outcome number_of (λ v. found (values_of v.0 ++ values_of v.1)) r

unfoldable pub evaluation : TransferFn → List Float → List Float → Outcome
evaluation tf cosines sines =
    answered (evaluation_refusal tf.order (length cosines) (length sines)) (values_of (value_at tf cosines sines))

-- two transfer functions at one frequency
unfoldable pub evaluation_of_both : TransferFn → TransferFn → List Float → List Float → Outcome
evaluation_of_both p c cosines sines =
    answered (evaluation_refusal (max p.order c.order) (length cosines) (length sines))
    (values_of (value_at p cosines sines) ++ values_of (value_at c cosines sines))
