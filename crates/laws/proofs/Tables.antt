-- What a test over a whole table says of each entry. Assumes nothing.
use Prim.Native.Nat.{ℕ, zero, suc, ◌<◌}
use mathlib.Core.Bool.{Bool}
use mathlib.Core.List.{List, [], ◌∷◌, ◌++◌}
use native.Mathlib.Nat.{le_of_suc-le-suc, not-suc-le-zero}
use lib.Dec.{T}
use lib.ListN.{length, get_or}
use lib.Ieee.Fits.{and_i, and_l, and_r}
use Rattle.laws.specs.Tables.{every}

module _ {A : Type 0} (f : A → Bool) where
  pub every_at : (d : A) (xs : List A) → T (every f xs) → (k : ℕ) → k < length xs → T (f (get_or xs k d))
  every_at d [] t k h = absurd (not-suc-le-zero h)
  every_at d (x ∷ xs) t zero h = and_l (f x) (every f xs) t
  every_at d (x ∷ xs) t (suc k) h = every_at d xs (and_r (f x) (every f xs) t) k (le_of_suc-le-suc h)

  -- two tables as one
  pub every_append : (xs ys : List A) → T (every f xs) → T (every f ys) → T (every f (xs ++ ys))
  every_append [] ys t u = u
  every_append (x ∷ xs) ys t u = and_i (f x) (every f (xs ++ ys)) (and_l (f x) (every f xs) t) (every_append xs ys (and_r (f x) (every f xs) t) u)
