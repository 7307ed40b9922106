-- The loop over a curve's points, and its points as an iterator gives them. Assumes nothing.
use mathlib.Core.Path.{◌≡◌, refl, ap}
use mathlib.Core.Bool.{true, false}
use mathlib.Core.Logic.{◌⊎◌, inl, inr}
use mathlib.Core.List.{List, map, [], ◌∷◌, ◌++◌}
use native.Mathlib.Omega.{arith}
use borrow.Author.Tests.{eqb-true}
use lib.ListN.{length, take}
use lib.Seq.{take-length}
use lib.Ieee.{Float, lt}
use Rattle.std.specs.List.{zip}
use Rattle.laws.specs.Choice.{lesser}
use Rattle.laws.proofs.Choice.{itself, lesser_taken, lesser_left, least_from}
use Rattle.sweep.proofs.Conditions.{scan_taken}
use Rattle.complex.specs.Complex.{new_of}
use Rattle.complex.specs.declared.Complex.{Complex}
use Rattle.nyquist.specs.Curve.{points, point_square, curve_refusal}

-- lists that a scan takes
pub same_length : (re im : List Float) → curve_refusal re im ≡ 0 → length re ≡ length im
unfolding curve_refusal
same_length re im h = eqb-true (length re) (length im) (scan_taken _ _ h).0

-- points of two lists that are each one list behind another
pub points_append : (xs ys us vs : List Float) → length xs ≡ length ys → points (xs ++ us) (ys ++ vs) ≡ points xs ys ++ points us vs
unfolding points
points_append [] [] us vs h = refl
points_append [] (y ∷ ys) us vs h = absurd (omega arith)
points_append (x ∷ xs) [] us vs h = absurd (omega arith)
points_append (x ∷ xs) (y ∷ ys) us vs h = ap (λ (l : List Complex). new_of x y ∷ l) (points_append xs ys us vs (omega arith))

-- the points of two lists of which one has ended
pub points_ended : (xs ys : List Float) → (xs ≡ []) ⊎ (ys ≡ []) → points xs ys ≡ []
unfolding points
points_ended [] ys h = refl
points_ended (x ∷ xs) [] h = refl
points_ended (x ∷ xs) (y ∷ ys) h = elim h [ inl e ↦ cc | inr e ↦ cc ]

-- the points of two lists of one length, of which the second is taken as long as the first
pub points_as_long : (xs ys re im : List Float) → xs ≡ re → ys ≡ take (length re) im → length re ≡ length im → points xs ys ≡ points re im
points_as_long xs ys re im e f same = rw (e, f, same, take-length im)

-- ---- the loop that keeps the least square: a square is taken, or left
module _ (m x y : Float) (xs ys : List Float) {s : Float} {z : Complex} (e : s ≡ point_square z) (f : z ≡ new_of x y) where
  taken : {d : Float} → d ≡ lesser itself m s → least_from itself point_square d (points xs ys) ≡ least_from itself point_square m (points (x ∷ xs) (y ∷ ys))
  unfolding points
  taken g = rw (g, e, f)

  pub least_taken : lt s m ≡ true → least_from itself point_square s (points xs ys) ≡ least_from itself point_square m (points (x ∷ xs) (y ∷ ys))
  least_taken t = taken (lesser_taken itself m s t)

  pub least_left : lt s m ≡ false → least_from itself point_square m (points xs ys) ≡ least_from itself point_square m (points (x ∷ xs) (y ∷ ys))
  least_left t = taken (lesser_left itself m s t)

-- ---- the points as a chain of iterators gives them
pub points_zip : (xs ys : List Float) → map (λ (p : Float × Float). new_of p.0 p.1) (zip xs ys) ≡ points xs ys
unfolding points
points_zip [] ys = refl
points_zip (x ∷ xs) [] = refl
points_zip (x ∷ xs) (y ∷ ys) = ap (λ (l : List Complex). new_of x y ∷ l) (points_zip xs ys)
