-- The root keeps the order of what is not below zero, so that the root of the greater of two is the greater of the roots, and of the lesser likewise.
-- Assumes nothing.
use mathlib.Core.Path.{◌≡◌, refl, sym, ◌∙◌, subst}
use mathlib.Core.Logic.{◌⊎◌, inl, inr}
use mathlib.Core.Bool.{Bool, true, false, true≢false}
use Prim.Native.Nat.{ℕ, zero, suc, ◌*◌, ◌^◌}
use native.Mathlib.Nat.{zero-lt-suc, zero-mul, mul-le-mul_right, le_of_mul-le-mul_right}
use native.Mathlib.Omega.{arith}
use lib.Pow.{pow_pos}
use lib.IntN.{ℤ}
use lib.Dec.{T, lt→ltb}
use lib.Ieee.{Float, nan, inf, fin, binary64, up, down, fits, lt, le, is_nan, of_bits}
use lib.Ieee.Fits.{down_pos}
use lib.Ieee.Bits.{is_true}
use lib.Ieee.Order.{le_of_values}
use lib.Ieee.Positive.{positive, positive-finite, values_of_le, above, above_of_le}
use Rattle.std.specs.Float.{NotNan}
use Rattle.std.proofs.lemmas.Float.{T_from_true, T_from_false, le_left, le_right, le_trans, le_of_lt, le_of_not-lt, lt_of_le_of_lt}
use Rattle.laws.specs.Choice.{lesser, greater}
use Rattle.laws.proofs.Order.{greatest, not_lt_of_le, lt_numbers, le_antisym}
use Rattle.laws.proofs.Choice.{itself, greater_kept, lesser_kept}
use Rattle.scalar.specs.Scalar.{f0}
use Rattle.scalar.specs.Sqrt.{in_units, sqrt_of}
use Rattle.scalar.proofs.Nearest.{own_units, sqrt_nearest, in_order, sqrt_fits}
use Rattle.scalar.proofs.Cases.{zero_lt, minus_below, special_below}

-- ---- zero

zero_least : (s : Bool) (e : ℤ) → T (le (fin s 0 e) f0)
unfolding of_bits le
zero_least false e = rw (zero-mul (up e), zero-mul (down e)) tt
zero_least true e = rw (zero-mul (up e), zero-mul (down e)) tt

pub positive_above : (x : Float) → T (positive x) → T (above x)
positive_above nan p = absurd p
positive_above (inf s) p = absurd p
positive_above (fin true m e) p = absurd p
positive_above (fin false m e) p = p

pub above_zero : (x : Float) → T (above x) → T (le f0 x)
unfolding of_bits is_nan
above_zero nan a = absurd a
above_zero (inf true) a = absurd a
above_zero (inf false) a = greatest f0 tt
above_zero (fin true m e) a = absurd a
above_zero (fin false m e) a = le_of_values f0 (fin false m e) 0 1 (m * up e) (down e) (zero-lt-suc 0) (down_pos e) (refl, refl) (refl, refl) (omega arith)

below_zero : (m : ℕ) (e : ℤ) → T (le f0 (fin true (suc m) e)) → ⊥
below_zero m e h = grind (arith, minus_below, not_lt_of_le, f0)

-- ---- what is not below zero has a root that is not, and what is above zero one that is above

pub sqrt_above : (x : Float) → T (fits binary64 x) → T (above x) → T (above (sqrt_of x))
sqrt_above nan h a = absurd a
sqrt_above (inf true) h a = absurd a
sqrt_above (inf false) h a = unfold sqrt_of in tt
sqrt_above (fin true m e) h a = absurd a
sqrt_above (fin false m e) h a = positive_above (sqrt_of (fin false m e)) (sqrt_nearest (fin false m e) h a).above

pub sqrt_not_below : (x : Float) → T (fits binary64 x) → T (le f0 x) → T (le f0 (sqrt_of x))
sqrt_not_below nan h p = absurd (unfold le of_bits in p)
sqrt_not_below (inf true) h p = absurd (unfold le of_bits in p)
sqrt_not_below (inf false) h p = unfold sqrt_of in p
sqrt_not_below (fin s zero e) h p = unfold sqrt_of in p
sqrt_not_below (fin true (suc m) e) h p = absurd (below_zero m e p)
sqrt_not_below (fin false (suc m) e) h p = above_zero (sqrt_of (fin false (suc m) e)) (sqrt_above (fin false (suc m) e) h (lt→ltb 0 (suc m) (zero-lt-suc m)))

-- ---- the order

mono_positive : (x y : Float) → T (fits binary64 x) → T (fits binary64 y) → T (positive x) → T (positive y) → T (le x y) → T (le (sqrt_of x) (sqrt_of y))
mono_positive x y h k p q l =
    let u = 2 ^ 1074 in
    let s = sqrt_nearest x h p in
    let t = sqrt_nearest y k q in
    let sx = sqrt_of x in
    let sy = sqrt_of y in
    le_of_values sx sy (in_units sx) u (in_units sy) u (pow_pos 1074) (pow_pos 1074) (own_units sx s.value s.above) (own_units sy t.value t.above)
    (mul-le-mul_right u
    (in_order (in_units x) (in_units y) (in_units sx) (in_units sy) u
    (le_of_mul-le-mul_right (values_of_le x y (in_units x) u (in_units y) u p q (own_units x h p) (own_units y k q) l) (pow_pos 1074))
    (s.nearest sy t.value (positive-finite sy t.above))
    (t.nearest sx s.value (positive-finite sx s.above))))

pub sqrt_mono : (x y : Float) → T (fits binary64 x) → T (fits binary64 y) → T (le f0 x) → T (le x y) → T (le (sqrt_of x) (sqrt_of y))
sqrt_mono nan y h k p l = absurd (unfold le of_bits in p)
sqrt_mono (inf true) y h k p l = absurd (unfold le of_bits in p)
sqrt_mono (inf false) nan h k p l = absurd (unfold le in l)
sqrt_mono (inf false) (inf true) h k p l = absurd (unfold le in l)
sqrt_mono (inf false) (inf false) h k p l = unfold sqrt_of in l
sqrt_mono (inf false) (fin t n d) h k p l = absurd (unfold le in l)
sqrt_mono (fin s zero e) y h k p l =
    unfold sqrt_of in le_trans (fin s 0 e) f0 (sqrt_of y) (zero_least s e) (sqrt_not_below y k (le_trans f0 (fin s 0 e) y p l))
sqrt_mono (fin true (suc m) e) y h k p l = absurd (below_zero m e p)
sqrt_mono (fin false (suc m) e) y h k p l = go y k (above_of_le x y px l) l
  where
    x : Float
    x = fin false (suc m) e

    px : T (positive x)
    px = lt→ltb 0 (suc m) (zero-lt-suc m)

    go : (y : Float) → T (fits binary64 y) → T (above y) → T (le x y) → T (le (sqrt_of x) (sqrt_of y))
    go nan k a l = absurd a
    go (inf true) k a l = absurd a
    go (inf false) k a l = unfold sqrt_of in greatest (sqrt_of x) (le_right f0 (sqrt_of x) (sqrt_not_below x h p))
    go (fin true n d) k a l = absurd a
    go (fin false n d) k a l = mono_positive x (fin false n d) h k px a l

-- only what is not below zero has a root that is a number
sqrt_number : (x : Float) → NotNan (sqrt_of x) → NotNan x × (lt x f0 ≡ false)
unfolding of_bits is_nan
sqrt_number x n = (is_number x n, go (lt x f0) refl)
  where
    is_number : (x : Float) → NotNan (sqrt_of x) → NotNan x
    is_number nan n = unfold sqrt_of in n
    is_number (inf s) n = tt
    is_number (fin s m e) n = tt

    go : (b : Bool) → lt x f0 ≡ b → lt x f0 ≡ false
    go false e = e
    go true e = absurd (subst (λ (v : Float). NotNan v) (special_below x e) n)

-- the roots compare as x and y do, or they are the same
pub sqrt_order : (x y : Float) → T (fits binary64 x) → T (fits binary64 y) → lt x f0 ≡ false → (sqrt_of x ≡ sqrt_of y) ⊎ (lt (sqrt_of x) (sqrt_of y) ≡ lt x y)
sqrt_order x y h k z = go (lt x y) refl (lt (sqrt_of x) (sqrt_of y)) refl
  where
    go : (a : Bool) → lt x y ≡ a → (b : Bool) → lt (sqrt_of x) (sqrt_of y) ≡ b → (sqrt_of x ≡ sqrt_of y) ⊎ (lt (sqrt_of x) (sqrt_of y) ≡ lt x y)
    go true e true g = inr (g ∙ sym e)
    go false e false g = inr (g ∙ sym e)
    go true e false g =
        let n = lt_numbers x y e in
        let p : T (le f0 x) = le_of_not-lt x f0 n.0 (unfold of_bits is_nan in tt) (T_from_false _ z) in
        let m = sqrt_mono x y h k p (le_of_lt x y (T_from_true _ e)) in
        let back = le_of_not-lt (sqrt_of x) (sqrt_of y) (le_left (sqrt_of x) (sqrt_of y) m) (le_right (sqrt_of x) (sqrt_of y) m) (T_from_false _ g) in
        inl (sym (le_antisym binary64 (sqrt_of y) (sqrt_of x) (sqrt_fits y k) (sqrt_fits x h) (sqrt_above y k (zero_lt y (is_true _ (lt_of_le_of_lt f0 x y p (T_from_true _ e))))) back m))
    go false e true g =
        let r = lt_numbers (sqrt_of x) (sqrt_of y) g in
        let nx = sqrt_number x r.0 in
        let ny = sqrt_number y r.1 in
        let m = sqrt_mono y x k h (le_of_not-lt y f0 ny.0 (unfold of_bits is_nan in tt) (T_from_false _ ny.1)) (le_of_not-lt x y nx.0 ny.0 (T_from_false _ e)) in
        absurd (true≢false (sym g ∙ not_lt_of_le (sqrt_of y) (sqrt_of x) m))

-- ---- the greater and the lesser of two, as the Rust's comparisons keep them: a NaN, or a root that is one, is never taken in place of a number
pub sqrt_greater : (m c : Float) → T (fits binary64 m) → T (fits binary64 c) → lt m f0 ≡ false → sqrt_of (greater itself m c) ≡ greater itself (sqrt_of m) (sqrt_of c)
sqrt_greater m c h k z = grind (arith, greater_kept, sqrt_order)

pub sqrt_lesser : (m c : Float) → T (fits binary64 m) → T (fits binary64 c) → lt c f0 ≡ false → sqrt_of (lesser itself m c) ≡ lesser itself (sqrt_of m) (sqrt_of c)
sqrt_lesser m c h k z = grind (arith, lesser_kept, sqrt_order)
