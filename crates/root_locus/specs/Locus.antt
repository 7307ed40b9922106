-- The points of the root locus, in the numbers of document 01. Definitions only.
use Rattle.std.specs.Prelude.{ℕ, cond, List, [], Result, Ok, Err, length, ◌==◌, nat_le, nat_lt, Float}
use Rattle.std.specs.Float.Ieee.{le}
use Rattle.laws.specs.Outcome.{when}
use Rattle.scalar.specs.Scalar.{f0}
use Rattle.complex.specs.declared.Complex.{Complex}
use Rattle.sweep.specs.Refusal.{number_of}
use Rattle.sweep.specs.declared.FreqError.{FreqError}
use Rattle.transfer_fn.specs.declared.TransferFn.{TransferFn}
use Rattle.root_locus.specs.declared.LocusPoint.{LocusPoint}
use Rattle.root_locus.specs.declared.ending.Ending.{Ending}
use Rattle.root_locus.specs.declared.ending.Ending.TheVariants.{Settled}
use Rattle.root_locus.specs.Gain.{gain_at}
use Rattle.root_locus.specs.Polynomial.{loop_polynomial, counting, degree_of}
use Rattle.root_locus.specs.Roots.{by_degree, ending_by_degree, padded}

-- 1 if n < 2; 3 if k-max ≤ 0, which a NaN passes; 3 if the order is above 8; 16 if it is 0; 15 if n > 4,096; 17 if i ≥ n; 12 if the degree left is 3
unfoldable pub locus_refusal : ℕ → Float → ℕ → ℕ → ℕ → ℕ
locus_refusal order k-max n i degree =
    when (nat_lt n 2) 1 (
    when (le k-max f0) 3 (
    when (nat_lt 8 order) 3 (
    when (order == 0) 16 (
    when (nat_lt 4096 n) 15 (
    when (nat_le n i) 17 (
    when (degree == 3) 12 0))))))

-- What a point comes to: 0 with the gain, how many poles there are, the poles, and how the search for them ended; or a refusal's number with nothing else.
pub record Point : Type 0 where
  pub number : ℕ
  pub gain : Float
  pub count : ℕ
  pub poles : List Complex
  pub ending : Ending

-- the gain, the poles of what is left of the polynomial, p, with (0, 0) in the places past them, and the ending
unfoldable pub found_point : Float → List Float → Point
found_point gain p = record { number = 0; gain = gain; count = length (by_degree p); poles = padded (by_degree p); ending = ending_by_degree p }

-- a refusal: gain 0, no poles, and no round that was used
unfoldable pub no_point : ℕ → Point
no_point n = record { number = n; gain = f0; count = 0; poles = padded []; ending = Settled 0 }

-- what the program answers, in these terms
unfoldable pub point_of : Result LocusPoint FreqError → Point
point_of (Ok p) = record { number = 0; gain = p.gain; count = p.count; poles = p.poles; ending = p.ending }
point_of (Err e) = no_point (number_of e)

-- the point under conditions that gave n
unfoldable pub point_at : ℕ → Float → List Float → Point
point_at n gain p = cond (n == 0) (found_point gain p) (no_point n)

-- Point i of n: the poles by what is left of the loop polynomial at gain i, and how the search for them ended.
unfoldable pub locus_point_at : TransferFn → Float → ℕ → ℕ → Point
locus_point_at tf k-max n i =
    let gain = gain_at k-max n i in
    let left = counting (loop_polynomial tf gain) in
    point_at (locus_refusal tf.order k-max n i (degree_of left)) gain left

-- the same by the coefficients b and a
abbrev pub lent_point_at : List Float → List Float → ℕ → Float → ℕ → ℕ → Point
lent_point_at b a order k-max n i = locus_point_at (record { b = b; a = a; order = order }) k-max n i
