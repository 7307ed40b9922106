-- The roots of a polynomial by its degree, as a list that is as long as there are roots. Roots are here what the formulas and the search give; that the
-- polynomial is 0 there is said nowhere, and need not be so. Definitions only.
use Rattle.std.specs.Prelude.{ℕ, ◌+◌, ◌-◌, cond, List, [], ◌∷◌, ◌++◌, Result, Ok, Err, length, replicate, ◌==◌, from_bits, nat_lt, slice_index_or, Float}
use Rattle.std.specs.Float.{nan, binary64}
use Rattle.std.specs.Float.Ieee.{add, sub, mul, div, neg, le}
use Rattle.laws.specs.Loops.{up_to}
use Rattle.scalar.specs.Scalar.{f0}
use Rattle.scalar.specs.Sqrt.{sqrt_of}
use Rattle.complex.specs.declared.Complex.{Complex}
use Rattle.complex.specs.Complex.{new_of, from_real}
use Rattle.sweep.specs.declared.FreqError.{FreqError}
use Rattle.sweep.specs.declared.FreqError.TheVariants.{CubicLeftOut}
use Rattle.root_locus.specs.declared.Roots.{Roots}
use Rattle.root_locus.specs.declared.ending.Ending.{Ending}
use Rattle.root_locus.specs.declared.ending.Ending.TheVariants.{Settled}
use Rattle.root_locus.specs.Polynomial.{degree_of}
use Rattle.root_locus.specs.StartingPoints.{starting_points}
use Rattle.root_locus.specs.Search.{rounds, Run, begun, run}
use Rattle.root_locus.specs.Ending.{unless_nan, end_of}

-- 2 and 4
abbrev pub f2 : Float
f2 = from_bits binary64 0x4000_0000_0000_0000

abbrev pub f4 : Float
f4 = from_bits binary64 0x4010_0000_0000_0000

-- c0·z + c1: the root -(c1 / c0)
unfoldable pub linear : Float → Float → List Complex
linear c0 c1 = from_real (neg (div binary64 c1 c0)) ∷ []

-- c1·c1 - (4·c0)·c2
unfoldable pub discriminant : Float → Float → Float → Float
discriminant c0 c1 c2 = sub binary64 (mul binary64 c1 c1) (mul binary64 (mul binary64 f4 c0) c2)

-- (-c1 ± s) / d
unfoldable pub real_pair : Float → Float → Float → List Complex
real_pair d c1 s = from_real (div binary64 (add binary64 (neg c1) s) d) ∷ from_real (div binary64 (sub binary64 (neg c1) s) d) ∷ []

-- -c1 / d ± j s / d
unfoldable pub complex_pair : Float → Float → Float → List Complex
complex_pair d c1 s = new_of (div binary64 (neg c1) d) (div binary64 s d) ∷ new_of (div binary64 (neg c1) d) (neg (div binary64 s d)) ∷ []

-- c0·z² + c1·z + c2. A discriminant that is a NaN gives the complex pair.
unfoldable pub quadratic : Float → Float → Float → List Complex
quadratic c0 c1 c2 =
    let disc = discriminant c0 c1 c2 in
    cond (le f0 disc) (real_pair (mul binary64 f2 c0) c1 (sqrt_of disc)) (complex_pair (mul binary64 f2 c0) c1 (sqrt_of (neg disc)))

-- coefficient i after the leading one, divided by that
unfoldable pub quotient_at : List Float → ℕ → Float
quotient_at p i = div binary64 (slice_index_or p (i + 1) nan) (slice_index_or p 0 nan)

-- the polynomial over its leading coefficient, which is left out
unfoldable pub monic : List Float → List Float
monic p = up_to (quotient_at p) (degree_of p)

-- the search: up to 200 rounds from the starting points of the degree
unfoldable pub searched : List Float → List Complex
searched p = rounds (monic p) 200 (starting_points (degree_of p))

-- The roots of a polynomial whose first coefficient counts: none of a constant, or where no coefficient is left; by formulas for the degrees 1 and 2; the cubic
-- is left out; by the search from degree 4 on.
unfoldable pub by_degree : List Float → List Complex
by_degree [] = []
by_degree (c0 ∷ []) = []
by_degree (c0 ∷ c1 ∷ []) = linear c0 c1
by_degree (c0 ∷ c1 ∷ c2 ∷ []) = quadratic c0 c1 c2
by_degree (c0 ∷ c1 ∷ c2 ∷ c3 ∷ []) = []
by_degree (c0 ∷ c1 ∷ c2 ∷ c3 ∷ c4 ∷ cs) = searched (c0 ∷ c1 ∷ c2 ∷ c3 ∷ c4 ∷ cs)

-- ---- how they were found

-- what the rounds of that search leave, the roots among it
unfoldable pub search_run : List Float → Run
search_run p = run (monic p) 200 (begun (starting_points (degree_of p)))

-- the end of those rounds
unfoldable pub search_end : List Float → Ending
search_end p = end_of (search_run p).used (search_run p).last

-- How the search for the roots of `by_degree` ended: broken comes first; settled with 0 rounds by the formulas or where there is no root; else as its rounds did.
unfoldable pub ending_by_degree : List Float → Ending
ending_by_degree p = unless_nan (by_degree p) (cond (nat_lt (degree_of p) 4) (Settled 0) (search_end p))

-- ---- roots in the program

-- an array of eight with these roots first and (0, 0) in the places past them
unfoldable pub padded : List Complex → List Complex
padded zs = zs ++ replicate (8 - length zs) (from_real f0)

-- these roots, in such an array, and the ending e unless a part is NaN
unfoldable pub as_roots : List Complex → Ending → Roots
as_roots zs e = record { z = padded zs; count = length zs; ending = unless_nan zs e }

-- the roots of a polynomial whose first coefficient counts, and how the search for them ended; a cubic is refused
unfoldable pub degree_cases : List Float → Result Roots FreqError
degree_cases p =
    cond (degree_of p == 3) (Err CubicLeftOut) (Ok (record { z = padded (by_degree p); count = length (by_degree p); ending = ending_by_degree p }))
