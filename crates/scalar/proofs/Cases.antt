-- The values other than the positive finite ones, and which patterns those have. Assumes nothing.
use mathlib.Core.Path.{◌≡◌, refl, sym, ap, ◌∙◌, subst}
use mathlib.Core.Bool.{true, false, not, true≢false, false≢true}
use Prim.Native.Nat.{ℕ, zero, suc, ◌*◌, ◌^◌, ◌<◌, ◌≤◌}
use native.Mathlib.Nat.{zero-lt-suc}
use native.Mathlib.Omega.{arith}
use lib.IntN.{ℤ}
use lib.Dec.{T, ltb, lt→ltb}
use lib.Ieee.{Float, nan, inf, fin, binary64, lt, neg, is_nan, fits, of_bits, to_bits}
use lib.Ieee.Fits.{up_pos}
use lib.Ieee.Bits.{of_bits-fits, of_bits-to_bits, to_bits-lt}
use lib.Ieee.Exact.{HasValue}
use lib.Ieee.Positive.{positive, above}
use borrow.Author.Tests.{lt-ltb, le-ltb}
use Rattle.std.specs.Float.{float_with_sign}
use Rattle.laws.proofs.Order.{lt_numbers}
use Rattle.scalar.specs.Scalar.{abs_of}
use Rattle.scalar.specs.Sqrt.{sqrt_of}
use Rattle.scalar.proofs.Patterns.{not_above, sqrt_below}
use Rattle.scalar.proofs.Nearest.{rooted}

-- ---- the absolute value as std has it
pub sign_cleared : (x : Float) → float_with_sign false x ≡ abs_of x
unfolding float_with_sign abs_of
sign_cleared nan = refl
sign_cleared (inf s) = refl
sign_cleared (fin s m e) = refl

-- the Rust's first test of it: below zero it is the negated value (no proof here needs it)
pub below_zero : (x : Float) → lt x (of_bits binary64 0) ≡ true → neg x ≡ abs_of x
unfolding lt neg of_bits abs_of
below_zero nan h = refl
below_zero (inf false) h = absurd (false≢true h)
below_zero (inf true) h = refl
below_zero (fin true m e) h = refl
below_zero (fin false m e) h = absurd (grind (arith, up_pos))

-- ---- what the comparisons with zero say
-- to be above zero
pub zero_lt : (x : Float) → lt (of_bits binary64 0) x ≡ true → T (above x)
unfolding lt of_bits
zero_lt nan h = absurd (false≢true h)
zero_lt (inf s) h = subst T (sym h) tt
zero_lt (fin true m e) h = absurd (false≢true h)
zero_lt (fin false zero e) h = absurd (grind (arith, up_pos))
zero_lt (fin false (suc m) e) h = grind (arith, up_pos)

pub minus_below : (m : ℕ) (e : ℤ) → lt (fin true (suc m) e) (of_bits binary64 0) ≡ true
unfolding lt of_bits
minus_below m e = grind (arith, up_pos)

pub none_above : (x : Float) → lt (of_bits binary64 0) x ≡ false → positive x ≡ false
unfolding lt of_bits
none_above nan h = refl
none_above (inf s) h = refl
none_above (fin true m e) h = refl
none_above (fin false zero e) h = refl
none_above (fin false (suc m) e) h = absurd (grind (arith, up_pos))

-- (the pattern is `f64::NAN`'s)
pub special_below : (x : Float) → lt x (of_bits binary64 0) ≡ true → sqrt_of x ≡ of_bits binary64 0x7ff8_0000_0000_0000
unfolding lt of_bits sqrt_of
special_below nan h = refl
special_below (inf true) h = refl
special_below (inf false) h = absurd (false≢true h)
special_below (fin true zero e) h = absurd (grind (arith, up_pos))
special_below (fin true (suc m) e) h = refl
special_below (fin false m e) h = absurd (grind (arith, up_pos))

pub special_itself : (x : Float) → positive x ≡ false → lt x (of_bits binary64 0) ≡ false → x ≡ sqrt_of x
unfolding lt of_bits sqrt_of
special_itself nan p h = refl
special_itself (inf true) p h = absurd (true≢false h)
special_itself (inf false) p h = refl
special_itself (fin s zero e) p h = refl
special_itself (fin true (suc m) e) p h = absurd (grind (arith, up_pos))
special_itself (fin false (suc m) e) p h = absurd (grind (arith, up_pos))

-- ---- the patterns of the positive finite values
pub positive_number : (x : Float) → T (positive x) → T (not (is_nan x))
unfolding is_nan
positive_number nan p = absurd p
positive_number (inf s) p = tt
positive_number (fin s m e) p = tt

not_zero : T (positive (of_bits binary64 0)) → ⊥
unfolding of_bits
not_zero t = t

not_minus_zero : T (positive (of_bits binary64 (2 ^ 63))) → ⊥
unfolding of_bits
not_minus_zero t = t

not_infinity : T (positive (of_bits binary64 (2047 * 2 ^ 52))) → ⊥
unfolding of_bits
not_infinity t = t

not_negative : (b : ℕ) → b < 2 ^ 64 → T (positive (of_bits binary64 b)) → 2 ^ 63 < b → ⊥
not_negative b l p h =
    let r = rooted (of_bits binary64 b) (of_bits-fits binary64 b) p in
    subst (λ (v : Float). HasValue v false r.2.0 (2 ^ 1074)) (sqrt_below b h l) r.2.1

pub positive_bits : (b : ℕ) → b < 2 ^ 64 → T (positive (of_bits binary64 b)) → (0 < b) × (b < 2047 * 2 ^ 52)
positive_bits b l p =
    let at : (c : ℕ) → (T (positive (of_bits binary64 c)) → ⊥) → b ≡ c → ⊥ = λ c n e. n (subst (λ (y : ℕ). T (positive (of_bits binary64 y))) e p) in
    let low = not_above b (positive_number (of_bits binary64 b) p) in
    let a = at 0 not_zero in
    let c = at (2 ^ 63) not_minus_zero in
    let d = at (2047 * 2 ^ 52) not_infinity in
    let g = not_negative b l p in
    omega (arith, low, a, c, d, g)

-- ---- above zero, the patterns of the finite values are those below infinity's
below_infinity : (x : Float) → T (fits binary64 x) → T (positive x) → ltb (to_bits binary64 x) (2047 * 2 ^ 52) ≡ true
below_infinity x f p = grind (arith, positive_bits, to_bits-lt, of_bits-to_bits, lt-ltb)

ordinary_if : (x : Float) → T (fits binary64 x) → lt (of_bits binary64 0) x ≡ true → ltb (to_bits binary64 x) (2047 * 2 ^ 52) ≡ positive x
unfolding lt of_bits to_bits
ordinary_if nan f h = absurd (false≢true h)
ordinary_if (inf true) f h = absurd (false≢true h)
ordinary_if (inf false) f h = refl
ordinary_if (fin true m e) f h = absurd (false≢true h)
ordinary_if (fin false zero e) f h = absurd (grind (arith, up_pos))
ordinary_if (fin false (suc m) e) f h = below_infinity (fin false (suc m) e) f (lt→ltb 0 (suc m) (zero-lt-suc m)) ∙ sym (lt-ltb 0 (suc m) (zero-lt-suc m))

pub finite_above : (x : Float) → fits binary64 x ≡ true → lt (of_bits binary64 0) x ≡ true → to_bits binary64 x < 2047 * 2 ^ 52 → (0 < to_bits binary64 x) × (sqrt_of (of_bits binary64 (to_bits binary64 x)) ≡ sqrt_of x)
finite_above x f h l =
    let held = subst T (sym f) tt in
    let back = of_bits-to_bits binary64 x held in
    let p : T (positive x) = subst T (sym (lt-ltb (to_bits binary64 x) (2047 * 2 ^ 52) l) ∙ ordinary_if x held h) tt in
    ((positive_bits (to_bits binary64 x) (to_bits-lt binary64 x held) (subst (λ (v : Float). T (positive v)) (sym back) p)).0, ap sqrt_of back)

pub infinite_above : (x : Float) → fits binary64 x ≡ true → lt (of_bits binary64 0) x ≡ true → 2047 * 2 ^ 52 ≤ to_bits binary64 x → positive x ≡ false
infinite_above x f h l = sym (ordinary_if x (subst T (sym f) tt) h) ∙ le-ltb (to_bits binary64 x) (2047 * 2 ^ 52) l

-- a number above 0 is no NaN
pub above_number : (x : Float) → lt (of_bits binary64 0) x ≡ true → T (not (is_nan x))
above_number x h = (lt_numbers (of_bits binary64 0) x h).1
