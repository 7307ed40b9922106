-- A squared magnitude is a value of the format, and a NaN or not below zero. So the largest of several magnitudes is the root of the largest square.
-- Assumes nothing.
use Prim.Native.Nat.{ℕ, ◌*◌}
use mathlib.Core.Path.{◌≡◌, refl}
use mathlib.Core.Bool.{Bool, true, false, not, cond}
use mathlib.Core.List.{List}
use native.Mathlib.Nat.{zero-mul}
use native.Mathlib.Omega.{arith}
use borrow.Author.Tests.{le-ltb}
use lib.Dec.{T}
use lib.Ieee.{Float, nan, inf, fin, Format, binary64, up, down, round, sum, add, mul, lt, fits, of_bits}
use lib.Ieee.Bits.{of_bits-fits}
use lib.Ieee.Fits.{add-fits}
use Rattle.laws.specs.Choice.{greater}
use Rattle.laws.proofs.Choice.{itself, greatest_from}
use Rattle.laws.proofs.Loops.{pushed_through}
use Rattle.laws.proofs.Signs.{signed, round_signed}
use Rattle.scalar.specs.Scalar.{f0}
use Rattle.scalar.specs.Sqrt.{sqrt_of}
use Rattle.scalar.proofs.Monotone.{sqrt_greater}
use Rattle.complex.specs.Complex.{magnitude_sq, magnitude_of}
use Rattle.complex.specs.declared.Complex.{Complex}

-- a NaN, or a value whose sign is clear
abbrev unsigned : Float → Bool
unsigned nan = true
unsigned (inf s) = not s
unsigned (fin s m e) = not s

module _ (f : Format) where
  -- what is rounded without a sign gets none
  round_unsigned : (a c : ℕ) → T (unsigned (round f false a c))
  round_unsigned a c = go (round f false a c) (round_signed f false a c)
    where
      go : (x : Float) → T (signed false x) → T (unsigned x)
      go nan h = absurd h
      go (inf true) h = absurd h
      go (inf false) h = tt
      go (fin true m e) h = absurd h
      go (fin false m e) h = tt

  square_unsigned : (x : Float) → T (unsigned (mul f x x))
  unfolding mul
  square_unsigned nan = tt
  square_unsigned (inf true) = tt
  square_unsigned (inf false) = tt
  square_unsigned (fin true m e) = round_unsigned _ _
  square_unsigned (fin false m e) = round_unsigned _ _

  sum_unsigned : (x y : Float) → T (unsigned x) → T (unsigned y) → T (unsigned (add f x y))
  unfolding add sum
  sum_unsigned nan y h k = tt
  sum_unsigned (inf s) nan h k = tt
  sum_unsigned (inf false) (inf false) h k = tt
  sum_unsigned (inf false) (inf true) h k = absurd k
  sum_unsigned (inf true) (inf t) h k = absurd h
  sum_unsigned (inf s) (fin t n d) h k = h
  sum_unsigned (fin s m e) nan h k = tt
  sum_unsigned (fin s m e) (inf t) h k = k
  sum_unsigned (fin true m e) (fin t n d) h k = absurd h
  sum_unsigned (fin false m e) (fin true n d) h k = absurd k
  sum_unsigned (fin false m e) (fin false n d) h k = round_unsigned _ _

unsigned_not_below : (x : Float) → T (unsigned x) → lt x f0 ≡ false
unfolding lt of_bits
unsigned_not_below nan h = refl
unsigned_not_below (inf true) h = absurd h
unsigned_not_below (inf false) h = refl
unsigned_not_below (fin true m e) h = absurd h
unsigned_not_below (fin false m e) h = le-ltb (m * up e * 1) (0 * down e) (rw zero-mul (omega arith))

pub square_not_below : (z : Complex) → lt (magnitude_sq z) f0 ≡ false
unfolding magnitude_sq
square_not_below z = unsigned_not_below _ (sum_unsigned binary64 _ _ (square_unsigned binary64 z.re) (square_unsigned binary64 z.im))

pub square_fits : (z : Complex) → T (fits binary64 (magnitude_sq z))
unfolding magnitude_sq
square_fits z = add-fits binary64 _ _

-- ---- the greatest of several magnitudes, by their squares

-- what a square is, the greatest of several, and the 0 that the first one is held against
pub record Square (m : Float) : Type 0 where
  pub not_below : lt m f0 ≡ false
  pub fit : T (fits binary64 m)

pub no_square : Square f0
no_square = record { not_below = unfold lt of_bits in refl; fit = of_bits-fits binary64 0 }

pub no_root : f0 ≡ sqrt_of f0
unfolding sqrt_of of_bits
no_root = refl

-- One magnitude more, against the greatest so far. A NaN square is never taken, and neither is its root; one that has overflowed to infinity or underflowed
-- to 0 has the root that it is.
module _ {m : Float} (sq : Square m) (z : Complex) where
  pub square_greater : Square (greater itself m (magnitude_sq z))
  unfolding greater
  square_greater = go (lt m (magnitude_sq z))
    where
      go : (b : Bool) → Square (cond b (magnitude_sq z) m)
      go true = record { not_below = square_not_below z; fit = square_fits z }
      go false = sq

  pub root_greater : sqrt_of (greater itself m (magnitude_sq z)) ≡ greater itself (sqrt_of m) (magnitude_of z)
  unfolding magnitude_of
  root_greater = sqrt_greater m (magnitude_sq z) sq.fit (square_fits z) sq.not_below

-- The rounded root of the greatest square is the greatest of the rounded roots. (Stated for readers: the root search takes its squares one by one, by
-- `root_greater`.)
pub root_greatest : (zs : List Complex) (m : Float) → Square m → sqrt_of (greatest_from itself magnitude_sq m zs) ≡ greatest_from itself magnitude_of (sqrt_of m) zs
root_greatest = pushed_through sqrt_of _ _ Square (λ m z sq. (square_greater sq z, root_greater sq z))
