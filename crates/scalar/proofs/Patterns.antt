-- Bit patterns of binary64 as whole numbers of units of 2 ^ -1074, and `sqrt_of` at them. Assumes nothing.
use mathlib.Core.Path.{◌≡◌, refl, sym, ap, ◌∙◌, subst}
use mathlib.Core.Logic.{◌⊎◌, inl, inr}
use mathlib.Core.Bool.{Bool, true, false, not, cond, true≢false, false≢true}
use Prim.Native.Nat.{ℕ, zero, suc, ◌+◌, ◌*◌, ◌/◌, ◌%◌, ◌^◌, ◌≤◌, ◌<◌}
use native.Mathlib.Nat.{lt_of_lt_of_le, mul-div_cancel, mul-pos, zero-lt-suc, mul-one, mul_assoc, eq-or-lt_of_le, le_of_suc-le-suc, pow-succ'}
use native.Mathlib.Omega.{arith}
use lib.Dec.{T, leb, eqb, nltb→le}
use lib.Pow.{pow-add, pow_pos, pow_mono, shl_lt}
use lib.Count.{count_trailing_zeros, under}
use lib.Ieee.{Float, nan, inf, fin, binary64, up, down, minus, odd, units, is_nan, of_fields, of_bits, nan_bits}
use lib.Ieee.Bits.{nan_bits_is, nan_bits_above}
use lib.Ieee.Fits.{down_pos}
use lib.Ieee.Exact.{HasValue, odd_sign}
use borrow.Author.Tests.{lt-leb, le-leb, ne_eqb}
use Rattle.scalar.specs.Sqrt.{in_units, rounded, sqrt_of}

-- ---- how a pattern is read
pub of_bits_is : (b : ℕ) → of_bits binary64 b ≡ of_fields binary64 (leb (2 ^ 63) b) (b % 2 ^ 63 / 2 ^ 52) (b % 2 ^ 52)
unfolding of_bits
of_bits_is b = refl

pub fields_low : (s : Bool) (t : ℕ) → of_fields binary64 s 0 t ≡ odd 53 s t 0 1074
unfolding of_fields
fields_low s t = refl

pub fields_normal : (s : Bool) (x t : ℕ) → suc x < 2047 → of_fields binary64 s (suc x) t ≡ odd 53 s (2 ^ 52 + t) x 1074
unfolding of_fields
fields_normal s x t h = grind (arith, eqb, ne_eqb)

pub read_low : (b : ℕ) → b < 2 ^ 52 → of_bits binary64 b ≡ odd 53 false b 0 1074
read_low b h =
    let e : b % 2 ^ 63 / 2 ^ 52 ≡ 0 = omega arith in
    let t : b % 2 ^ 52 ≡ b = omega arith in
    of_bits_is b
    ∙ ap (λ (s : Bool). of_fields binary64 s (b % 2 ^ 63 / 2 ^ 52) (b % 2 ^ 52)) (lt-leb (2 ^ 63) b (omega arith))
    ∙ ap (λ (x : ℕ). of_fields binary64 false x (b % 2 ^ 52)) e
    ∙ ap (λ (x : ℕ). of_fields binary64 false 0 x) t
    ∙ fields_low false b

pub read_normal : (b x : ℕ) → b / 2 ^ 52 ≡ suc x → suc x < 2047 → of_bits binary64 b ≡ odd 53 false (2 ^ 52 + b % 2 ^ 52) x 1074
read_normal b x h l =
    let e : b % 2 ^ 63 / 2 ^ 52 ≡ suc x = omega arith in
    of_bits_is b
    ∙ ap (λ (s : Bool). of_fields binary64 s (b % 2 ^ 63 / 2 ^ 52) (b % 2 ^ 52)) (lt-leb (2 ^ 63) b (omega arith))
    ∙ ap (λ (y : ℕ). of_fields binary64 false y (b % 2 ^ 52)) e
    ∙ fields_normal false x (b % 2 ^ 52) l

-- ---- how a pattern is written
tz_more : (d n : ℕ) → 0 < n → n < 2 ^ d → count_trailing_zeros (suc d) n ≡ count_trailing_zeros d n
unfolding count_trailing_zeros
tz_more zero n h k = absurd (no n h k)
  where
    no : (n : ℕ) → 0 < n → n < 1 → ⊥
    no n h k = omega arith
tz_more (suc d) n h k = go (n % 2) refl (tz_more d (n / 2))
  where
    go : (r : ℕ) → n % 2 ≡ r → (0 < n / 2 → n / 2 < 2 ^ d → count_trailing_zeros (suc d) (n / 2) ≡ count_trailing_zeros d (n / 2)) → under r (count_trailing_zeros (suc d) (n / 2)) ≡ under r (count_trailing_zeros d (n / 2))
    go zero e ih = ap suc (ih (omega arith) (half (pow-succ' 2 d)))
      where
        half : 2 ^ suc d ≡ 2 * 2 ^ d → n / 2 < 2 ^ d
        half p = omega arith
    go (suc r) e ih = refl

odd_more : (d : ℕ) (s : Bool) (q k l : ℕ) → q < 2 ^ d → odd (suc d) s q k l ≡ odd d s q k l
unfolding odd
odd_more d s zero k l h = refl
odd_more d s (suc q) k l h = ap (λ (t : ℕ). fin s (suc q / 2 ^ t) (minus (k + t) l)) (tz_more d (suc q) (zero-lt-suc q) h)

pub units_is : (q k : ℕ) → q * 2 ^ k < 2 ^ 2098 → units binary64 false q k ≡ odd 54 false q k 1074
unfolding units
units_is q k h = grind arith

below_top : (q k : ℕ) → q < 2 ^ 53 → k < 2046 → q * 2 ^ k < 2 ^ 2098
below_top q k h l = grind (arith, lt_of_lt_of_le, shl_lt, pow_mono)

pub write : (q k : ℕ) → 2 ^ 52 ≤ q → q < 2 ^ 53 → k < 2046 → of_bits binary64 (k * 2 ^ 52 + q) ≡ units binary64 false q k
write q k a b l =
    read_normal (k * 2 ^ 52 + q) k (omega arith) (omega arith)
    ∙ ap (λ (x : ℕ). odd 53 false x k 1074) (digits q k a b)
    ∙ sym (odd_more 53 false q k 1074 b)
    ∙ sym (units_is q k (below_top q k b l))
  where
    digits : (q k : ℕ) → 2 ^ 52 ≤ q → q < 2 ^ 53 → 2 ^ 52 + (k * 2 ^ 52 + q) % 2 ^ 52 ≡ q
    digits q k a b = omega arith

-- ---- `sqrt_of` of a number of units
no_value : (a d : ℕ) → 0 < a → 0 < d → 0 ≡ a * d → ⊥
no_value a d h k e = grind arith

zero_value : (u c : ℕ) → 0 * u * c ≡ 0
zero_value u c = grind arith

pub sqrt_positive : (x : Float) (a : ℕ) → 0 < a → HasValue x false a (2 ^ 1074) → sqrt_of x ≡ rounded (a * 2 ^ 1074)
unfolding sqrt_of in_units
sqrt_positive nan a h v = absurd v
sqrt_positive (inf s) a h v = absurd v
sqrt_positive (fin true m e) a h v = absurd (true≢false v.0)
sqrt_positive (fin false zero e) a h v = absurd (no_value a (down e) h (down_pos e) (sym (zero_value (up e) (2 ^ 1074)) ∙ v.1))
sqrt_positive (fin false (suc m) e) a h v = ap (λ (x : ℕ). rounded (x * 2 ^ 1074)) (ap (λ (x : ℕ). x / down e) v.1 ∙ mul-div_cancel a (down_pos e))

sqrt_negative : (x : Float) (a : ℕ) → 0 < a → HasValue x true a (2 ^ 1074) → sqrt_of x ≡ nan
unfolding sqrt_of
sqrt_negative nan a h v = absurd v
sqrt_negative (inf s) a h v = absurd v
sqrt_negative (fin false m e) a h v = absurd (false≢true v.0)
sqrt_negative (fin true zero e) a h v = absurd (no_value a (down e) h (down_pos e) (sym (zero_value (up e) (2 ^ 1074)) ∙ v.1))
sqrt_negative (fin true (suc m) e) a h v = refl

-- ---- and of a pattern
pub sqrt_low : (b : ℕ) → 0 < b → b < 2 ^ 52 → sqrt_of (of_bits binary64 b) ≡ rounded (b * 2 ^ 1074)
sqrt_low b h l =
    ap sqrt_of (read_low b l)
    ∙ sqrt_positive (odd 53 false b 0 1074) (b * 2 ^ 0) (mul-pos h (pow_pos 0)) (odd_sign 53 false b 0 1074)
    ∙ ap (λ (x : ℕ). rounded (x * 2 ^ 1074)) (mul-one b)

pub sqrt_normal : (b x : ℕ) → b / 2 ^ 52 ≡ suc x → suc x < 2047 → sqrt_of (of_bits binary64 b) ≡ rounded ((2 ^ 52 + b % 2 ^ 52) * 2 ^ (x + 1074))
sqrt_normal b x h l =
    let q = 2 ^ 52 + b % 2 ^ 52 in
    let p : 0 < q = omega arith in
    ap sqrt_of (read_normal b x h l)
    ∙ sqrt_positive (odd 53 false q x 1074) (q * 2 ^ x) (mul-pos p (pow_pos x)) (odd_sign 53 false q x 1074)
    ∙ ap rounded (mul_assoc q (2 ^ x) (2 ^ 1074) ∙ ap (λ (y : ℕ). q * y) (sym (pow-add 2 x 1074)))

at_top : (b : Bool) → sqrt_of (cond b (inf true) nan) ≡ nan
unfolding sqrt_of
at_top true = refl
at_top false = refl

fields_top : (t : ℕ) → sqrt_of (of_fields binary64 true 2047 t) ≡ nan
unfolding of_fields
fields_top t = at_top (eqb t 0)

sqrt_below_fields : (x t : ℕ) → x < 2048 → t < 2 ^ 52 → 0 < x * 2 ^ 52 + t → sqrt_of (of_fields binary64 true x t) ≡ nan
sqrt_below_fields zero t l h p =
    ap sqrt_of (fields_low true t) ∙ sqrt_negative (odd 53 true t 0 1074) (t * 2 ^ 0) (mul-pos (omega arith) (pow_pos 0)) (odd_sign 53 true t 0 1074)
sqrt_below_fields (suc x) t l h p = go (eq-or-lt_of_le (le_of_suc-le-suc l))
  where
    go : (suc x ≡ 2047) ⊎ (suc x < 2047) → sqrt_of (of_fields binary64 true (suc x) t) ≡ nan
    go (inl e) = ap (λ (y : ℕ). sqrt_of (of_fields binary64 true y t)) e ∙ fields_top t
    go (inr k) =
        let q = 2 ^ 52 + t in
        let p : 0 < q = omega arith in
        ap sqrt_of (fields_normal true x t k) ∙ sqrt_negative (odd 53 true q x 1074) (q * 2 ^ x) (mul-pos p (pow_pos x)) (odd_sign 53 true q x 1074)

pub sqrt_below : (b : ℕ) → 2 ^ 63 < b → b < 2 ^ 64 → sqrt_of (of_bits binary64 b) ≡ nan
sqrt_below b h l =
    ap sqrt_of (of_bits_is b ∙ ap (λ (s : Bool). of_fields binary64 s (b % 2 ^ 63 / 2 ^ 52) (b % 2 ^ 52)) (le-leb (2 ^ 63) b (omega arith)))
    ∙ sqrt_below_fields (b % 2 ^ 63 / 2 ^ 52) (b % 2 ^ 52) (omega arith) (omega arith) (omega arith)

-- ---- a root is no NaN
units_number : (q k : ℕ) → is_nan (units binary64 false q k) ≡ false
unfolding units is_nan
units_number q k = grind arith

-- ---- the other patterns
pub not_above : (b : ℕ) → T (not (is_nan (of_bits binary64 b))) → b % 2 ^ 63 ≤ 2047 * 2 ^ 52
not_above b h = nltb→le (2047 * 2 ^ 52) (b % 2 ^ 63) (subst (λ (t : Bool). T (not t)) (sym (nan_bits_is binary64 b) ∙ nan_bits_above binary64 b) h)

pub no_nan : (q k : ℕ) → 2 ^ 52 ≤ q → q < 2 ^ 53 → k < 2046 → T (not (nan_bits binary64 (k * 2 ^ 52 + q)))
no_nan q k a b l = grind (arith, nan_bits_is, write, units_number)
