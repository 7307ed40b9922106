-- The plain numbers of a summary: they give it back, and where each of them stands. Assumes nothing.
use Prim.Native.Nat.{ℕ}
use mathlib.Core.Path.{◌≡◌, refl}
use mathlib.Core.Bool.{false}
use mathlib.Core.List.{[]}
use borrow.Author.Tests.{ne_eqb}
use lib.Ieee.{Float}
use Rattle.std.specs.Prelude.{Option, Some, None}
use Rattle.scalar.specs.Scalar.{f0}
use Rattle.complex.specs.declared.Complex.{Complex}
use Rattle.complex.specs.Complex.{new_of, from_real}
use Rattle.nyquist.specs.Summary.{nearest_of, summary_of}
use Rattle.nyquist.specs.Plain.{point_mark, point_value, marked_point, plain_of, from_plain}
use Rattle.nyquist.specs.declared.summary.CurveSummary.{CurveSummary}
use Rattle.nyquist.specs.contracts.summary.CurvePlain as plain_type

point_back : (n : Option Complex) → marked_point (point_mark n) (new_of (point_value n).re (point_value n).im) ≡ n
unfolding new_of
point_back None = refl
point_back (Some z) = refl

pub plain_back : (s : CurveSummary) → from_plain (plain_of s) ≡ s
unfolding plain_of from_plain
plain_back s = λ i. record { nearest = point_back s.nearest i }

-- ---- The fields in memory, one after another. `as_values` and `make` are generated from the struct as it is declared.

pub plain_places : (s : CurveSummary)
    → (plain_type.struct).as_values (plain_of s) ≡ (point_mark s.nearest, (0, ((point_value s.nearest).re, ((point_value s.nearest).im, tt))))
unfolding plain_of
plain_places s = refl

-- the mark of a point that was found
pub found_marks : (z : Complex) → (plain_type.struct).as_values (plain_of (record { nearest = Some z })) ≡ (1, (0, (z.re, (z.im, tt))))
unfolding plain_of
found_marks z = refl

-- all zeros are the summary of no points
pub empty_zeros : (plain_type.struct).as_values (plain_of (summary_of [] false)) ≡ (0, (0, (f0, (f0, tt))))
unfolding plain_of summary_of nearest_of from_real
empty_zeros = refl

-- what any numbers in these places mean: any mark but 0 says that the point counts
pub places_mean : (found reserved : ℕ) (re im : Float) → from_plain ((plain_type.struct).make (found, (reserved, (re, (im, tt)))) tt) ≡ record { nearest = marked_point found (new_of re im) }
unfolding from_plain
places_mean found reserved re im = refl

pub point_counts : (mark : ℕ) (z : Complex) → (mark ≡ 0 → ⊥) → marked_point mark z ≡ Some z
point_counts mark z h = rw (ne_eqb mark 0 h)
