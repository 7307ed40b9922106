-- IEEE 754's squareRoot on binary64, rounded to nearest, ties to even: over whole numbers, by comparing squares. Definitions only.
-- Every finite value of the format is a whole number of units of 2 ^ -1074, the smallest positive value.
use Prim.Native.Nat.{ℕ, zero, suc, ◌+◌, ◌-◌, ◌*◌, ◌/◌, ◌^◌, ◌<◌, compare}
use Rattle.std.specs.Prelude.{false, cond, T, leb, Float}
use Rattle.std.specs.Float.{nan, inf, fin, binary64}
use Rattle.std.specs.Float.Ieee.{up, down, size, nearest, units, fits}
use Rattle.std.specs.Float.Ieee.Scale.{finite}
use Rattle.std.specs.Float.Ieee.Positive.{positive}

-- a finite value's size in units, and 0 for a NaN and an infinity
unfoldable pub in_units : Float → ℕ
in_units nan = 0
in_units (inf s) = 0
in_units (fin s m e) = m * up e * 2 ^ 1074 / down e

-- r, or the next number where its square is still at most n
abbrev pub extend : ℕ → ℕ → ℕ
extend n r = cond (leb (suc r * suc r) n) (suc r) r

-- The whole part of the square root of an n below 4 ^ d, one binary digit at a time: the largest r with r * r ≤ n.
unfoldable pub root : ℕ → ℕ → ℕ
root zero n = 0
root (suc d) n = extend n (2 * root d (n / 4))

-- √n units, rounded to binary64, for n from 2 ^ 104 on. Before its point √n has (size n + 1) / 2 binary digits, of which the format keeps the leading 53
-- and drops k. The kept ones are q, so that the result is q * 2 ^ k units or (q + 1) * 2 ^ k units, whichever is nearer to √n: it is decided by
-- comparing √n with the middle (q + 1/2) * 2 ^ k, each of them doubled and squared. `nearest` takes q below the middle, q + 1 above it, and at it the even one.
unfoldable pub rounded : ℕ → Float
unfolding root size units
rounded n =
    let k = suc (size n) / 2 - 53 in
    let q = root 53 (n / 2 ^ (2 * k)) in
    units binary64 false (nearest q (compare (4 * n) ((2 * q + 1) * (2 * q + 1) * 2 ^ (2 * k)))) k

-- The square root: of a NaN, and of what is below zero, a NaN; of +infinity itself; of either zero itself.
-- Any other x is a units, and √(a * 2 ^ -1074) is √(a * 2 ^ 1074) units.
unfoldable pub sqrt_of : Float → Float
unfolding in_units rounded
sqrt_of nan = nan
sqrt_of (inf s) = cond s nan (inf false)
sqrt_of (fin s zero e) = fin s zero e
sqrt_of (fin s (suc m) e) = cond s nan (rounded (in_units (fin s (suc m) e) * 2 ^ 1074))

-- ---- what makes it IEEE 754's. The laws `sqrt_nearest` and `nearest_is_sqrt` say that `sqrt_of x` is what the record asks for, and nothing else is.

-- √n is strictly nearer to r than to b where they differ: it lies on r's side of the middle (r + b) / 2, said with both sides doubled and squared
abbrev pub Nearer : ℕ → ℕ → ℕ → Type 0
Nearer n r b = (r < b → 4 * n < (r + b) * (r + b)) × (b < r → (r + b) * (r + b) < 4 * n)

-- r is the value of the format that is nearest to √x, for a finite x above zero: every other finite value is farther away, so that no tie ever occurs.
-- (A negative y is farther away than -y, which is among them.)
pub record Nearest (x r : Float) : Type 0 where
  pub value : T (fits binary64 r)
  pub above : T (positive r)
  pub nearest : (y : Float) → T (fits binary64 y) → T (finite y) → Nearer (in_units x * 2 ^ 1074) (in_units r) (in_units y)
