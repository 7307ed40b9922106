-- The loop polynomial, whose roots are the poles of the closed loop: its coefficients from the highest power down. Definitions only.
use Rattle.std.specs.Prelude.{ℕ, ◌+◌, ◌-◌, cond, List, [], ◌∷◌, length, replicate, ◌==◌, nat_lt, slice_index_or, Float}
use Rattle.std.specs.Float.{nan, binary64}
use Rattle.std.specs.Float.Ieee.{add, mul, lt}
use Rattle.laws.specs.Loops.{up_to}
use Rattle.scalar.specs.Scalar.{f0, f1, eps, abs_of}
use Rattle.transfer_fn.specs.declared.TransferFn.{TransferFn}

-- Coefficient i at gain k: 1 + k·b[0], then a[i-1] + k·b[i] for i below the order, and last a[i-1] alone.
unfoldable pub coefficient : TransferFn → Float → ℕ → Float
coefficient tf k i =
    cond (i == 0) (add binary64 f1 (mul binary64 k (slice_index_or tf.b 0 nan))) (
    cond (nat_lt i tf.order) (add binary64 (slice_index_or tf.a (i - 1) nan) (mul binary64 k (slice_index_or tf.b i nan))) (
    slice_index_or tf.a (i - 1) nan))

-- the array that the program fills with them
abbrev pub nine_zeros : List Float
nine_zeros = replicate 9 f0

-- the polynomial of order N at gain k, of N + 1 coefficients
unfoldable pub loop_polynomial : TransferFn → Float → List Float
loop_polynomial tf k = up_to (coefficient tf k) (tf.order + 1)

-- The coefficients from the first that counts: leading ones with an absolute value below eps are dropped. A NaN counts.
unfoldable pub counting : List Float → List Float
counting [] = []
counting (c ∷ cs) = cond (lt (abs_of c) eps) (counting cs) (c ∷ cs)

-- the degree of a polynomial whose first coefficient counts, and 0 where none is left
abbrev pub degree_of : List Float → ℕ
degree_of p = length p - 1
