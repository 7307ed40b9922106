-- The coefficients of the loop polynomial, and those of a polynomial from the first that counts. Assumes nothing.
use Rattle.std.proofs.Common.{◌≡◌, sym, map, ℕ, ◌+◌, ◌-◌, ◌≤◌, Bool, true, false, cond, List, [], ◌∷◌, length, take, drop, refl, ◌∙◌, arith, length-drop, drop_of_length-le, take_all, ltb, le-ltb, lt-ltb, ltb-false}
use native.Mathlib.Numerals.{one-add}
use Rattle.std.specs.Prelude.{not, Option, Some, None}
use Rattle.std.specs.Option.{unwrap_or}
use Rattle.std.specs.List.{position_or_len, range_with_len}
use lib.Ieee.{Float, lt}
use Rattle.laws.specs.Loops.{filled}
use Rattle.laws.proofs.Loops.{take-filled}
use Rattle.laws.proofs.Made.{filled_map}
use Rattle.scalar.specs.Scalar.{f0, eps, abs_of}
use Rattle.transfer_fn.specs.declared.TransferFn.{TransferFn}
use Rattle.root_locus.specs.Polynomial.{coefficient, nine_zeros, loop_polynomial, counting}

module _ (tf : TransferFn) (k : Float) where
  -- the array by its places: the polynomial's coefficients, and zeros past the order
  abbrev pub placed : ℕ → Float
  placed i = cond (ltb tf.order i) f0 (coefficient tf k i)

  pub coefficients_placed : tf.order ≤ 8 → map placed (range_with_len 0 9) ≡ filled (coefficient tf k) nine_zeros (tf.order + 1)
  coefficients_placed m =
      sym (filled_map (coefficient tf k) placed f0 9 (tf.order + 1) (omega arith)
      (λ i l. rw (le-ltb tf.order i (omega arith))) (λ i l. rw (lt-ltb tf.order i (omega arith))))

  -- what is lent of the array
  pub polynomial_lent : take (tf.order + 1) (filled (coefficient tf k) nine_zeros (tf.order + 1)) ≡ loop_polynomial tf k
  unfolding loop_polynomial
  polynomial_lent = take-filled (coefficient tf k) nine_zeros (tf.order + 1)

-- ---- what is left from the first that counts
abbrev pub counts : Float → Bool
counts c = not (lt (abs_of c) eps)

counting_from : (p : List Float) → drop (position_or_len counts p) p ≡ counting p
unfolding counting
counting_from [] = refl
counting_from (c ∷ cs) = go (lt (abs_of c) eps) refl (counting_from cs)
  where
    go : (b : Bool) → lt (abs_of c) eps ≡ b → drop (position_or_len counts cs) cs ≡ counting cs → drop (position_or_len counts (c ∷ cs)) (c ∷ cs) ≡ cond b (counting cs) (c ∷ cs)
    go true e next = rw (e, one-add) next
    go false e next = rw e

-- what `&p[s..]` lends, where s is the place of the first that counts, or p's length
pub counting_lent : (p : List Float) (r : Option ℕ) → r ≡ cond (ltb (position_or_len counts p) (length p)) (Some (position_or_len counts p)) None
    → take (length p - unwrap_or r (length p)) (drop (unwrap_or r (length p)) p) ≡ counting p
counting_lent p r h = rw h (go (ltb (position_or_len counts p) (length p)) refl)
  where
    part_from : (s : ℕ) → take (length p - s) (drop s p) ≡ drop s p
    part_from s = take_all (length p - s) (drop s p) (rw length-drop (omega arith))

    go : (b : Bool) → ltb (position_or_len counts p) (length p) ≡ b
        → (let s = unwrap_or (cond b (Some (position_or_len counts p)) None) (length p) in take (length p - s) (drop s p)) ≡ counting p
    go true e = part_from (position_or_len counts p) ∙ counting_from p
    go false e = part_from (length p) ∙ rw (drop_of_length-le p {i = length p} (omega arith)) (rw (drop_of_length-le p {i = position_or_len counts p} (ltb-false _ _ e)) at (counting_from p))
