-- Two values on one side of 0 do not cross it. Assumes nothing.
use Prim.Native.Nat.{ℕ, zero, suc, ◌+◌, ◌*◌, ◌<◌}
use mathlib.Core.Path.{◌≡◌, refl, sym, subst, ◌∙◌}
use mathlib.Core.Bool.{Bool, true, false, true≢false, beq, ◌&&◌, cond}
use mathlib.Core.Logic.{◌⊎◌, inl, inr}
use native.Mathlib.Nat.{zero-lt-suc, zero-mul, mul-zero, mul-pos}
use native.Mathlib.Omega.{arith}
use borrow.Author.Tests.{lt-ltb}
use lib.Dec.{T, eqb, ltb, ltb→lt, lt→ltb}
use lib.IntN.{ℤ}
use lib.Ieee.{Float, nan, inf, fin, binary64, up, down, round, mul, le, lt, ne, of_bits}
use lib.Ieee.Compare.{differs_from_itself}
use lib.Ieee.Fits.{up_pos, down_pos}
use lib.Ieee.Scale.{round_same}
use Rattle.std.proofs.lemmas.Bool.{and_right}
use Rattle.laws.proofs.Order.{not_le_of_lt}
use Rattle.laws.proofs.Signs.{signed, round_signed}
use Rattle.scalar.specs.Scalar.{f0}
use Rattle.sweep.specs.Scan.{crosses_zero}

-- below 0 where s is true, above 0 where it is false; a NaN counts on either side
abbrev pub beside : Bool → Float → Bool
beside s nan = true
beside s (inf t) = beq s t
beside s (fin t m e) = beq s t && ltb 0 m

size_pos : (m : ℕ) (e : ℤ) → 0 < m → 0 < m * up e * 1
size_pos m e h = mul-pos (mul-pos h (up_pos e)) (zero-lt-suc 0)

above : (m : ℕ) (e : ℤ) → T (ltb 0 m) → lt f0 (fin false m e) ≡ true
unfolding lt of_bits
above m e h = lt-ltb (0 * down e) (m * up e * 1) (rw zero-mul (size_pos m e (ltb→lt 0 m h)))

below : (m : ℕ) (e : ℤ) → T (ltb 0 m) → lt (fin true m e) f0 ≡ true
unfolding lt of_bits
below m e h = lt-ltb 0 (m * up e * 1 + 0 * down e) (let p = size_pos m e (ltb→lt 0 m h) in omega arith)

above_not_below : (x : Float) → T (beside false x) → le x f0 ≡ false
unfolding le lt of_bits
above_not_below nan h = refl
above_not_below (inf true) h = absurd h
above_not_below (inf false) h = refl
above_not_below (fin true m e) h = absurd h
above_not_below (fin false m e) h = not_le_of_lt f0 (fin false m e) (above m e h)

below_not_above : (x : Float) → T (beside true x) → le f0 x ≡ false
unfolding le lt of_bits
below_not_above nan h = refl
below_not_above (inf true) h = refl
below_not_above (inf false) h = absurd h
below_not_above (fin true m e) h = not_le_of_lt (fin true m e) f0 (below m e h)
below_not_above (fin false m e) h = absurd h

pub one_side : (s : Bool) (a b : Float) → T (beside s a) → T (beside s b) → false ≡ crosses_zero a b
one_side true a b h k = rw (below_not_above a h, below_not_above b k, and_right (le a f0) false refl)
one_side false a b h k = rw (above_not_below a h, above_not_below b k, and_right (le f0 a) false refl)

-- ---- a product above 0 has both factors on one side

-- what has a sign is not above 0
signed_not_above : (x : Float) → T (signed true x) → lt f0 x ≡ false
unfolding lt of_bits
signed_not_above nan h = absurd h
signed_not_above (inf true) h = refl
signed_not_above (inf false) h = absurd h
signed_not_above (fin true m e) h = refl
signed_not_above (fin false m e) h = absurd h

unlike : (a c : ℕ) → lt f0 (round binary64 true a c) ≡ false
unlike a c = signed_not_above (round binary64 true a c) (round_signed binary64 true a c)

unlike_inf : (b : Bool) → lt f0 (cond b nan (inf true)) ≡ false
unfolding lt of_bits
unlike_inf true = refl
unlike_inf false = refl

-- nor is 0
zero_by_one : lt f0 (round binary64 false 0 1) ≡ false
unfolding lt of_bits round
zero_by_one = refl

zero_rounded : (c : ℕ) → 0 < c → lt f0 (round binary64 false 0 c) ≡ false
zero_rounded c h = rw (round_same binary64 false 0 c 0 1 h (zero-lt-suc 0) (zero-mul 1 ∙ sym (zero-mul c))) zero_by_one

module _ (e d : ℤ) (x : ℕ) where
  scale_pos : 0 < down e * down d
  scale_pos = mul-pos (down_pos e) (down_pos d)

  zero_first : lt f0 (round binary64 false (0 * up e * x) (down e * down d)) ≡ false
  zero_first = rw (zero-mul (up e), zero-mul x) (zero_rounded (down e * down d) scale_pos)

  zero_second : lt f0 (round binary64 false (x * (0 * up d)) (down e * down d)) ≡ false
  zero_second = rw (zero-mul (up d), mul-zero x) (zero_rounded (down e * down d) scale_pos)

abbrev OneSide : Float → Float → Type 0
OneSide a b = (T (beside false a) × T (beside false b)) ⊎ (T (beside true a) × T (beside true b))

never : {b : Bool} {P : Type 0} → b ≡ false → b ≡ true → P
never k h = absurd (true≢false (sym h ∙ k))

some : (m : ℕ) → T (ltb 0 (suc m))
some m = lt→ltb 0 (suc m) (zero-lt-suc m)

sides : (a b : Float) → lt f0 (mul binary64 a b) ≡ true → OneSide a b
unfolding mul lt of_bits
sides nan b h = never refl h
sides (inf s) nan h = never refl h
sides (inf true) (inf true) h = inr (tt, tt)
sides (inf true) (inf false) h = never refl h
sides (inf false) (inf true) h = never refl h
sides (inf false) (inf false) h = inl (tt, tt)
sides (inf s) (fin t zero d) h = never refl h
sides (inf true) (fin true (suc n) d) h = inr (tt, some n)
sides (inf true) (fin false (suc n) d) h = never (unlike_inf (eqb (suc n) 0)) h
sides (inf false) (fin true (suc n) d) h = never (unlike_inf (eqb (suc n) 0)) h
sides (inf false) (fin false (suc n) d) h = inl (tt, some n)
sides (fin s m e) nan h = never refl h
sides (fin s zero e) (inf t) h = never refl h
sides (fin true (suc m) e) (inf true) h = inr (some m, tt)
sides (fin true (suc m) e) (inf false) h = never (unlike_inf (eqb (suc m) 0)) h
sides (fin false (suc m) e) (inf true) h = never (unlike_inf (eqb (suc m) 0)) h
sides (fin false (suc m) e) (inf false) h = inl (some m, tt)
sides (fin true m e) (fin false n d) h = never (unlike (m * up e * (n * up d)) (down e * down d)) h
sides (fin false m e) (fin true n d) h = never (unlike (m * up e * (n * up d)) (down e * down d)) h
sides (fin true zero e) (fin true n d) h = never (zero_first e d _) h
sides (fin true (suc m) e) (fin true zero d) h = never (zero_second e d _) h
sides (fin true (suc m) e) (fin true (suc n) d) h = inr (some m, some n)
sides (fin false zero e) (fin false n d) h = never (zero_first e d _) h
sides (fin false (suc m) e) (fin false zero d) h = never (zero_second e d _) h
sides (fin false (suc m) e) (fin false (suc n) d) h = inl (some m, some n)

pub product_above : (a b : Float) → lt f0 (mul binary64 a b) ≡ true → false ≡ crosses_zero a b
product_above a b h = elim (sides a b h) [ inl w ↦ one_side false a b w.0 w.1 | inr w ↦ one_side true a b w.0 w.1 ]

-- ---- a NaN crosses nothing

nan_not_above : le f0 nan ≡ false
unfolding le of_bits
nan_not_above = refl

nan_not_below : le nan f0 ≡ false
unfolding le of_bits
nan_not_below = refl

pub nan_crosses_none : (a b : Float) → ne b b ≡ true → false ≡ crosses_zero a b
nan_crosses_none a b h = rw (differs_from_itself b (subst T (sym h) tt), nan_not_above, nan_not_below, and_right (le f0 a) false refl, and_right (le a f0) false refl)
