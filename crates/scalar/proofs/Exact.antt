-- Products and quotients that come out exactly: of a zero, of one, and of a value by itself. Assumes nothing.
use Prim.Native.Nat.{ℕ, zero, suc, ◌+◌, ◌-◌, ◌*◌, ◌%◌, ◌^◌, ◌≤◌, ◌<◌}
use mathlib.Core.Path.{◌≡◌, refl, sym, ap, ◌∙◌, subst}
use mathlib.Core.Bool.{true, false, ◌&&◌}
use native.Mathlib.Nat.{mul_comm, mul_assoc, mul-one, one-mul, zero-mul, mul-zero, mul-pos, mul-lt-mul_of_pos_right, sub-add_cancel, le_refl, zero-lt-suc}
use native.Mathlib.Omega.{arith}
use borrow.Author.Tests.{leb-true, leb-false}
use lib.IntN.{ℤ, pos, negsuc}
use lib.Dec.{T, eqb, ltb, leb, leb→le, ltb→lt}
use lib.Pow.{pow-add, pow_pos, pow-lt}
use lib.Ieee.{Float, nan, inf, fin, Format, binary64, prec, emax, low, up, down, round, mul, div, of_int, of_bits, fits}
use lib.Ieee.Fits.{up_pos, down_pos, and_l, and_r, round-fits}
use lib.Ieee.Exact.{HasValue, round_exact}
use lib.Ieee.Back.{round_whole}
use lib.Ieee.Order.{le_of_values}
use lib.Ieee.Scale.{round_same}
use lib.Ieee.Positive.{positive, num, den, den_pos, own_value, positive_of_value, above_of_le, mul_at}
use Rattle.laws.proofs.Order.{le_antisym}
use Rattle.scalar.specs.Scalar.{f0, f1}

-- ---- a value of the format is its own rounding

pow_le_back : (i j : ℕ) → 2 ^ i ≤ 2 ^ j → i ≤ j
pow_le_back i j h = grind (arith, leb, leb-true, pow-lt, leb-false)

module _ (f : Format) where
  -- m * 2 ^ e is m * 2 ^ j of the format's smallest values
  in_smallest : (m : ℕ) (e : ℤ) → down e ≤ 2 ^ low f → m * up e < 2 ^ suc (emax f) * down e
      → (j : ℕ) × (m * up e * 2 ^ low f ≡ m * 2 ^ j * down e) × (m * 2 ^ j < 2 ^ (low f + suc (emax f)))
  in_smallest m (pos k) d l =
      let a : m * 2 ^ (k + low f) ≡ m * 2 ^ k * 2 ^ low f = rw (pow-add 2 k (low f)) (sym (mul_assoc m (2 ^ k) (2 ^ low f))) in
      let b : 2 ^ suc (emax f) * 1 * 2 ^ low f ≡ 2 ^ (low f + suc (emax f)) = rw (mul-one (2 ^ suc (emax f)), pow-add 2 (low f) (suc (emax f))) (mul_comm (2 ^ suc (emax f)) (2 ^ low f)) in
      let c : m * 2 ^ k * 2 ^ low f < 2 ^ suc (emax f) * 1 * 2 ^ low f = mul-lt-mul_of_pos_right l (pow_pos (low f)) in
      (k + low f, sym (mul-one (m * 2 ^ (k + low f)) ∙ a), rw (a, ← b) c)
  in_smallest m (negsuc k) d l =
      let s : suc k ≤ low f = pow_le_back (suc k) (low f) d in
      let r = low f - suc k in
      let e : 2 ^ low f ≡ 2 ^ r * 2 ^ suc k = ap (λ (x : ℕ). 2 ^ x) (sym (sub-add_cancel s)) ∙ pow-add 2 r (suc k) in
      let b : 2 ^ suc (emax f) * 2 ^ suc k * 2 ^ r ≡ 2 ^ (low f + suc (emax f)) =
      mul_assoc (2 ^ suc (emax f)) (2 ^ suc k) (2 ^ r)
      ∙ mul_comm (2 ^ suc (emax f)) (2 ^ suc k * 2 ^ r)
      ∙ ap (λ (x : ℕ). x * 2 ^ suc (emax f)) (mul_comm (2 ^ suc k) (2 ^ r) ∙ sym e)
      ∙ sym (pow-add 2 (low f) (suc (emax f))) in
      let c : m * 1 * 2 ^ r < 2 ^ suc (emax f) * 2 ^ suc k * 2 ^ r = mul-lt-mul_of_pos_right l (pow_pos r) in
      let g : m * 2 ^ r < 2 ^ suc (emax f) * 2 ^ suc k * 2 ^ r = rw (mul-one m) at c in (
        r,
        ap (λ (x : ℕ). x * 2 ^ low f) (mul-one m) ∙ ap (λ (x : ℕ). m * x) e ∙ sym (mul_assoc m (2 ^ r) (2 ^ suc k)),
        subst (λ (x : ℕ). m * 2 ^ r < x) b g,
      )

  own_rounding : (x : Float) → T (fits f x) → T (positive x) → HasValue (round f false (num x) (den x)) false (num x) (den x)
  unfolding fits
  own_rounding nan h p = absurd p
  own_rounding (inf s) h p = absurd p
  own_rounding (fin true m e) h p = absurd p
  own_rounding (fin false zero e) h p = absurd p
  own_rounding (fin false (suc m) e) h p =
      let n = suc m in
      let a = eqb (n % 2) 1 in
      let b = ltb n (2 ^ prec f) in
      let c = leb (down e) (2 ^ low f) in
      let d = ltb (n * up e) (2 ^ suc (emax f) * down e) in
      let u = in_smallest n e (leb→le (down e) (2 ^ low f) (and_r (a && b) c (and_l (a && b && c) d h))) (ltb→lt (n * up e) (2 ^ suc (emax f) * down e) (and_r (a && b && c) d h)) in
      round_exact f false (n * up e) (down e) n u.0 (down_pos e) (ltb→lt n (2 ^ prec f) (and_r a b (and_l (a && b) c (and_l (a && b && c) d h)))) u.2 u.1

  pub rounds_to_itself : (x : Float) → T (fits f x) → T (positive x) → round f false (num x) (den x) ≡ x
  rounds_to_itself x h p =
      let r = round f false (num x) (den x) in
      let v = own_value x p in
      let w = own_rounding x h p in
      let up = le_of_values x r (num x) (den x) (num x) (den x) (den_pos x) (den_pos x) v w (le_refl (num x * den x)) in
      let back = le_of_values r x (num x) (den x) (num x) (den x) (den_pos x) (den_pos x) w v (le_refl (num x * den x)) in
      le_antisym f r x (round-fits f false (num x) (den x)) h (above_of_le x r p up) back up

-- ---- one, zero, and a value by itself

pub one_times : (x : Float) → T (fits binary64 x) → T (positive x) → mul binary64 f1 x ≡ x
one_times x h p =
    mul_at binary64 f1 x 1 1 (num x) (den x) (unfold of_bits in tt) p (zero-lt-suc 0) (den_pos x) (unfold of_bits in (refl, refl)) (own_value x p)
    ∙ rw (one-mul, one-mul) (rounds_to_itself binary64 x h p)

round_zero : {a : ℕ} (c : ℕ) → a ≡ 0 → 0 < c → round binary64 false a c ≡ f0
round_zero c e h = rw e (round_same binary64 false 0 c 0 1 h (zero-lt-suc 0) (sym (zero-mul c)) ∙ (unfold round of_bits in refl))

round_one : (a : ℕ) → 0 < a → round binary64 false a a ≡ f1
round_one a h = round_same binary64 false a a 1 1 h (zero-lt-suc 0) (mul-one a ∙ sym (one-mul a)) ∙ (unfold round of_bits in refl)

not_zero : (m : ℕ) → T (ltb 0 m) → eqb m 0 ≡ false
not_zero m p = grind arith

pub zero_times : (x : Float) → T (positive x) → mul binary64 f0 x ≡ f0
unfolding mul of_bits
zero_times nan p = absurd p
zero_times (inf s) p = absurd p
zero_times (fin true m e) p = absurd p
zero_times (fin false m e) p = round_zero (1 * down e) (zero-mul (m * up e)) (mul-pos (zero-lt-suc 0) (down_pos e))

pub times_zero : (x : Float) → T (positive x) → mul binary64 x f0 ≡ f0
unfolding mul of_bits
times_zero nan p = absurd p
times_zero (inf s) p = absurd p
times_zero (fin true m e) p = absurd p
times_zero (fin false m e) p = round_zero (down e * 1) (mul-zero (m * up e)) (mul-pos (down_pos e) (zero-lt-suc 0))

pub zero_over : (x : Float) → T (positive x) → div binary64 f0 x ≡ f0
unfolding div of_bits
zero_over nan p = absurd p
zero_over (inf s) p = absurd p
zero_over (fin true m e) p = absurd p
zero_over (fin false m e) p = rw (not_zero m p) (round_zero (m * up e * 1) (zero-mul (down e)) (mul-pos (mul-pos (ltb→lt 0 m p) (up_pos e)) (zero-lt-suc 0)))

pub over_itself : (x : Float) → T (positive x) → div binary64 x x ≡ f1
unfolding div
over_itself nan p = absurd p
over_itself (inf s) p = absurd p
over_itself (fin true m e) p = absurd p
over_itself (fin false m e) p = rw (not_zero m p) (round_one (m * up e * down e) (mul-pos (mul-pos (ltb→lt 0 m p) (up_pos e)) (down_pos e)))

-- the whole numbers above zero that the format counts without a gap
pub whole_positive : (n : ℕ) → 0 < n → n ≤ 2 ^ 53 → T (positive (of_int binary64 (pos n)))
whole_positive n p h = positive_of_value (of_int binary64 (pos n)) n 1 (unfold of_int in round_whole binary64 false n h) p
