-- The side on which a value lies, told by its bit pattern: two values on one side do not cross. Assumes nothing.
use Prim.Native.Nat.{ℕ, zero, suc, ◌+◌, ◌*◌, ◌/◌, ◌%◌, ◌^◌, ◌<◌}
use mathlib.Core.Path.{◌≡◌, refl, sym, ◌∙◌, subst}
use mathlib.Core.Bool.{Bool, true, false, true≢false, beq, cond}
use native.Mathlib.Nat.{mul-pos}
use native.Mathlib.Omega.{arith}
use borrow.Author.Tests.{not-true, ltb-true, lt-leb, le-leb}
use lib.Dec.{T, eqb, leb, ltb, lt→ltb}
use lib.Pow.{pow_pos}
use lib.Ieee.{Float, nan, inf, fin, binary64, up, odd, neg, lt, of_fields, of_bits}
use lib.Ieee.Exact.{HasValue, odd_sign}
use lib.Ieee.Fits.{and_i, down_pos}
use lib.Ieee.Positive.{first_pos}
use Rattle.laws.proofs.Signs.{same, either}
use Rattle.scalar.proofs.Patterns.{of_bits_is}
use Rattle.sweep.proofs.Sides.{beside, one_side}
use Rattle.bode.specs.Bode.{f180, Crossover, Gain, Phase, cross_of}
use Rattle.panel.specs.Scanning.{lies_on, side_of}
use Rattle.panel.specs.declared.Side.{Side}
use Rattle.panel.specs.declared.Side.TheVariants.{Above, Below, Neither}
use Rattle.panel.proofs.Above.{above_told}

-- ---- of 0 dB

-- a value of a size above 0
value_beside : (x : Float) (s : Bool) (a c : ℕ) → HasValue x s a c → 0 < a → T (beside s x)
value_beside nan s a c h p = absurd h
value_beside (inf t) s a c h p = absurd h
value_beside (fin t m e) s a c h p =
    let size : 0 < m * up e * c = subst (λ (z : ℕ). 0 < z) (sym h.1) (mul-pos p (down_pos e)) in
    and_i (beq s t) (ltb 0 m) (subst (λ (z : Bool). T (beq s z)) (sym h.0) (same s)) (lt→ltb 0 m (first_pos m (up e) (first_pos (m * up e) c size)))

odd_beside : (d : ℕ) (s : Bool) (q k l : ℕ) → 0 < q → T (beside s (odd d s q k l))
odd_beside d s q k l h = value_beside (odd d s q k l) s (q * 2 ^ k) (2 ^ l) (odd_sign d s q k l) (mul-pos h (pow_pos k))

fields_beside : (s : Bool) (x t : ℕ) → 0 < x + t → T (beside s (of_fields binary64 s x t))
unfolding of_fields
fields_beside s zero t h = odd_beside 53 s t 0 1074 (omega arith)
fields_beside s (suc x) t h =
    let Beside : Float → Type 0 = λ y. T (beside s y) in
    either Beside (eqb (suc x) 2047) (either Beside (eqb t 0) (same s) tt) (odd_beside 53 s (2 ^ 52 + t) x 1074 (omega arith))

-- a pattern that is no zero's
pattern_beside : (n : ℕ) → 0 < n % 2 ^ 63 → T (beside (leb (2 ^ 63) n) (of_bits binary64 n))
pattern_beside n h = rw (of_bits_is n) (fields_beside (leb (2 ^ 63) n) (n % 2 ^ 63 / 2 ^ 52) (n % 2 ^ 52) (omega arith))

above_beside : (n : ℕ) → lies_on Gain Above n ≡ true → T (beside false (of_bits binary64 n))
above_beside n h =
    let told = above_told n h in
    rw (lt-leb (2 ^ 63) n told.1) at (pattern_beside n (omega arith))

below_beside : (n : ℕ) → n < 2 ^ 64 → lies_on Gain Below n ≡ true → T (beside true (of_bits binary64 n))
below_beside n fits h =
    let high = ltb-true (2 ^ 63) n h in
    rw (le-leb (2 ^ 63) n (omega arith)) at (pattern_beside n (omega arith))

-- ---- of either

pub one_side_quiet : (which : Crossover) (side : Side) (a b : ℕ) → a < 2 ^ 64 → b < 2 ^ 64 → lies_on which side a ≡ true → lies_on which side b ≡ true
    → cross_of which (of_bits binary64 a) (of_bits binary64 b) ≡ false
one_side_quiet Gain Above a b fa fb h k = sym (one_side false (of_bits binary64 a) (of_bits binary64 b) (above_beside a h) (above_beside b k))
one_side_quiet Gain Below a b fa fb h k = sym (one_side true (of_bits binary64 a) (of_bits binary64 b) (below_beside a fa h) (below_beside b fb k))
one_side_quiet Phase Above a b fa fb h k = rw (h, k)
one_side_quiet Phase Below a b fa fb h k = rw (not-true (lt (neg f180) (of_bits binary64 a)) h, not-true (lt (neg f180) (of_bits binary64 b)) k)
one_side_quiet Gain Neither a b fa fb h k = absurd (true≢false (sym h))
one_side_quiet Phase Neither a b fa fb h k = absurd (true≢false (sym h))

-- where a value lies on the side of another, so does that one
pub own_side : (which : Crossover) (a b : ℕ) → lies_on which (side_of which a) b ≡ true → lies_on which (side_of which a) a ≡ true
own_side which a b h = go (lies_on which Above a) (lies_on which Below a) refl refl h
  where
    nowhere : (which : Crossover) (n : ℕ) → lies_on which Neither n ≡ false
    nowhere Gain n = refl
    nowhere Phase n = refl

    go : (above below : Bool) → lies_on which Above a ≡ above → lies_on which Below a ≡ below
        → lies_on which (cond above Above (cond below Below Neither)) b ≡ true → lies_on which (cond above Above (cond below Below Neither)) a ≡ true
    go true below e f h = e
    go false true e f h = f
    go false false e f h = absurd (true≢false (sym h ∙ nowhere which b))
