-- Sums in rising k. Assumes nothing.
use Prim.Native.Nat.{ℕ, zero, suc, ◌+◌, ◌<◌}
use mathlib.Core.Path.{◌≡◌, refl}
use native.Mathlib.Numerals.{add-one}
use native.Mathlib.Omega.{arith}
use lib.Ieee.{Float, binary64, add}
use Rattle.transfer_fn.specs.Evaluation.{sum_up}

module _ (start : Float) where
  pub sum_none : (term : ℕ → Float) → start ≡ sum_up start term 0
  unfolding sum_up
  sum_none term = refl

  -- one term more
  pub sum_more : (term : ℕ → Float) {k : ℕ} {acc x : Float} → acc ≡ sum_up start term k → x ≡ term k → add binary64 acc x ≡ sum_up start term (k + 1)
  unfolding sum_up
  sum_more term {k} h e = rw (add-one, h, e)

  -- a sum is known by its terms
  pub sum_same : (s t : ℕ → Float) (n : ℕ) → ((k : ℕ) → k < n → s k ≡ t k) → sum_up start s n ≡ sum_up start t n
  unfolding sum_up
  sum_same s t zero h = refl
  sum_same s t (suc n) h = rw (sum_same s t n (λ k l. h k (omega arith)), h n (omega arith))
