-- Between a value of the format and the next one lies no other, so that what is asked of a root can be asked of its square. Assumes nothing.
use mathlib.Core.Path.{◌≡◌, refl, sym, ◌∙◌}
use mathlib.Core.Logic.{◌⊎◌, inl, inr}
use mathlib.Core.Bool.{Bool, true, false, true≢false}
use Prim.Native.Nat.{ℕ, ◌+◌, ◌*◌, ◌^◌, ◌≤◌}
use native.Mathlib.Nat.{mul-le-mul_right, mul-pos}
use native.Mathlib.Omega.{arith}
use lib.Pow.{pow_pos}
use lib.Dec.{T}
use lib.Ieee.{Float, binary64, fits, lt, le}
use lib.Ieee.Exact.{HasValue}
use lib.Ieee.Order.{le_of_values}
use lib.Ieee.Positive.{positive, positive-finite, positive_of_value}
use Rattle.laws.proofs.Order.{not_lt_of_le, not_lt_itself}
use Rattle.scalar.specs.Scalar.{f0}
use Rattle.scalar.specs.Sqrt.{sqrt_of}
use Rattle.scalar.proofs.Nearest.{Grid, own_units, units_of, grid, gap, sqrt_nearest}
use Rattle.scalar.proofs.Cases.{special_itself}
use Rattle.scalar.proofs.Monotone.{positive_above, above_zero, sqrt_mono, sqrt_order}

-- Two neighbours above zero: lo is q * 2 ^ k units, and hi is (q + 1) * 2 ^ k units.
module _ (lo hi : Float) (q k : ℕ) (many : 2 ^ 52 ≤ q)
    (value_lo : HasValue lo false (q * 2 ^ k) (2 ^ 1074)) (value_hi : HasValue hi false ((q + 1) * 2 ^ k) (2 ^ 1074)) where
  -- what is below hi is at most lo
  below_next : (x : Float) → T (fits binary64 x) → T (positive x) → lt x hi ≡ true → T (le x lo)
  below_next x h p t = go (gap q k g.1 g.2 many g.4)
    where
      g : Grid x
      g = grid x h (positive-finite x p)

      value : HasValue x false (g.1 * 2 ^ g.2) (2 ^ 1074)
      value = rw (units_of x g.0 (g.1 * 2 ^ g.2) g.3) at (own_units x h p)

      go : (g.1 * 2 ^ g.2 ≤ q * 2 ^ k) ⊎ ((q + 1) * 2 ^ k ≤ g.1 * 2 ^ g.2) → T (le x lo)
      go (inl d) = le_of_values x lo _ _ _ _ (pow_pos 1074) (pow_pos 1074) value value_lo (mul-le-mul_right (2 ^ 1074) d)
      go (inr d) =
          let over : T (le hi x) = le_of_values hi x _ _ _ _ (pow_pos 1074) (pow_pos 1074) value_hi value (mul-le-mul_right (2 ^ 1074) d) in
          absurd (true≢false (sym t ∙ not_lt_of_le hi x over))

  -- So roots below that of hi are the roots of what is below hi, if that of lo is one of them.
  pub root_below : T (fits binary64 lo) → T (fits binary64 hi) → lt (sqrt_of lo) (sqrt_of hi) ≡ true
      → (x : Float) → T (fits binary64 x) → lt x f0 ≡ false → lt (sqrt_of x) (sqrt_of hi) ≡ lt x hi
  root_below fl fh less x h z = elim (sqrt_order x hi h fh z) [
    | inl e ↦ rw e (not_lt_itself (sqrt_of hi)) ∙ sym (apart e (lt x hi) refl)
    | inr e ↦ e
  ]
    where
      root_positive : T (positive (sqrt_of hi))
      root_positive = (sqrt_nearest hi fh (positive_of_value hi _ _ value_hi (mul-pos (omega arith) (pow_pos k)))).above

      is_positive : sqrt_of x ≡ sqrt_of hi → (b : Bool) → positive x ≡ b → T b
      is_positive e true p = tt
      is_positive e false p = let same : x ≡ sqrt_of hi = special_itself x p z ∙ e in absurd (rw (← same, p) at root_positive)

      apart : sqrt_of x ≡ sqrt_of hi → (b : Bool) → lt x hi ≡ b → b ≡ false
      apart e false t = refl
      apart e true t =
          let p = is_positive e (positive x) refl in
          let m = sqrt_mono x lo h fl (above_zero x (positive_above x p)) (below_next x h p t) in
          absurd (true≢false (sym less ∙ not_lt_of_le (sqrt_of hi) (sqrt_of lo) (rw e at m)))
