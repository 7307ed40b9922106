-- The root of a finite value above zero is the one value of the format that is nearest to it. Assumes nothing.
use mathlib.Core.Path.{◌≡◌, refl, sym, ap, ◌∙◌, subst}
use mathlib.Core.Logic.{◌⊎◌, inl, inr}
use mathlib.Core.Bool.{Bool, true, false}
use Prim.Native.Nat.{ℕ, zero, suc, ◌+◌, ◌-◌, ◌*◌, ◌/◌, ◌%◌, ◌^◌, ◌≤◌, ◌<◌}
use native.Mathlib.Nat.{le_of_lt, sub-add_cancel, le_refl, le_antisymm, zero-lt-suc, le_trans, le_of_eq, lt_of_lt_of_le, lt_of_le_of_lt, lt_of_not-le, not-le_of_lt, mul-le-mul, mul-le-mul_right, mul-lt-mul_of_pos_right, mul_assoc, mul-mul-mul_comm, mul-pos, mul-div_cancel, eq-or-lt_of_le, le_of_suc-le-suc}
use native.Mathlib.Omega.{arith}
use lib.Dec.{T, leb, lt→ltb}
use lib.Pow.{pow-add, pow_pos, pow_mono, shl_lt}
use lib.Ieee.{Float, nan, inf, fin, binary64, down, size, units, fits, of_fields, of_bits, to_bits}
use lib.Ieee.Digits.{size-lt, size-le, size_reaches}
use lib.Ieee.Fits.{down_pos, odd-fits, nan-fits}
use lib.Ieee.Bits.{of_bits-to_bits}
use lib.Ieee.Exact.{HasValue, odd_sign, units_val}
use lib.Ieee.Scale.{finite}
use lib.Ieee.Positive.{positive, positive-finite, value_pos, first_pos, positive_of_value}
use Rattle.std.proofs.lemmas.Bool.{cases_lt}
use Rattle.scalar.specs.Sqrt.{root, rounded, sqrt_of, in_units, Nearer, Nearest}
use Rattle.scalar.proofs.Squares.{square_even}
use Rattle.scalar.proofs.WholeRoot.{IsRoot, square_lt, root_is_root, rounded_down, rounded_up}
use Rattle.scalar.proofs.Patterns.{units_is, of_bits_is, fields_low, fields_normal, sqrt_positive}

-- ---- a value of the format is a significand and a power of two
pub units_of : (y : Float) (s : Bool) (a : ℕ) → HasValue y s a (2 ^ 1074) → in_units y ≡ a
unfolding in_units
units_of nan s a v = absurd v
units_of (inf t) s a v = absurd v
units_of (fin t m e) s a v = ap (λ (x : ℕ). x / down e) v.1 ∙ mul-div_cancel a (down_pos e)

-- y has the sign s and is q * 2 ^ j units, q of at most 53 digits
abbrev pub Grid : Float → Type 0
Grid y = (s : Bool) × (q : ℕ) × (j : ℕ) × HasValue y s (q * 2 ^ j) (2 ^ 1074) × (q < 2 ^ 53) × (j < 2046)

fields_finite : (s : Bool) (t : ℕ) → T (finite (of_fields binary64 s 2047 t)) → ⊥
unfolding of_fields
fields_finite s t h = grind arith

fields_grid : (s : Bool) (x t : ℕ) → x < 2048 → t < 2 ^ 52 → T (finite (of_fields binary64 s x t)) → Grid (of_fields binary64 s x t)
fields_grid s zero t l h f = subst Grid (sym (fields_low s t)) (s, t, 0, odd_sign 53 s t 0 1074, omega arith, omega arith)
fields_grid s (suc x) t l h f = go (eq-or-lt_of_le (le_of_suc-le-suc l))
  where
    go : (suc x ≡ 2047) ⊎ (suc x < 2047) → Grid (of_fields binary64 s (suc x) t)
    go (inl e) = absurd (fields_finite s t (subst (λ (y : ℕ). T (finite (of_fields binary64 s y t))) e f))
    go (inr k) = subst Grid (sym (fields_normal s x t k)) (s, 2 ^ 52 + t, x, odd_sign 53 s (2 ^ 52 + t) x 1074, omega arith, omega arith)

pub grid : (y : Float) → T (fits binary64 y) → T (finite y) → Grid y
grid y h f =
    let b = to_bits binary64 y in
    let e = sym (of_bits-to_bits binary64 y h) ∙ of_bits_is b in
    subst Grid (sym e) (fields_grid (leb (2 ^ 63) b) (b % 2 ^ 63 / 2 ^ 52) (b % 2 ^ 52) (omega arith) (omega arith) (subst (λ (v : Float). T (finite v)) e f))

-- ---- q * 2 ^ e, with an even power of two taken out so that 105 or 106 digits are left
abbrev Split : ℕ → ℕ → Type 0
Split n e = (M : ℕ) × (k : ℕ) × (n ≡ M * 2 ^ (2 * k)) × (2 ^ 104 ≤ M) × (M < 2 ^ 106) × (2 * k ≤ e)

split : (q e : ℕ) → 0 < q → q < 2 ^ 53 → 1074 ≤ e → Split (q * 2 ^ e) e
split q e p h l =
    let z = size q in
    let Z : z ≤ 53 = size-le q 53 h in
    let z_pos : 0 < z = lt_of_not-le (λ (g : z ≤ 0). not-le_of_lt (lt_of_lt_of_le (size-lt q) (pow_mono g)) p) in
    let k = (e + z - 105) / 2 in
    let j = e - 2 * k in
    let all : j + 2 * k ≡ e = omega arith in
    let hi : z + j ≤ 106 = omega arith in
    let lo : 104 ≤ z - 1 + j = omega arith in (
      q * 2 ^ j,
      k,
      ap (λ (x : ℕ). q * 2 ^ x) (sym all) ∙ ap (λ (x : ℕ). q * x) (pow-add 2 j (2 * k)) ∙ sym (mul_assoc q (2 ^ j) (2 ^ (2 * k))),
      le_trans (pow_mono lo) (le_trans (le_of_eq (pow-add 2 (z - 1) j)) (mul-le-mul_right (2 ^ j) (size_reaches q (z - 1) (omega arith)))),
      lt_of_lt_of_le (shl_lt z j (size-lt q)) (pow_mono hi),
      omega arith,
    )

-- ---- between q * 2 ^ k and the next multiple of 2 ^ k lies no value of the format, for a q of 53 digits at least
pub gap : (q k p j : ℕ) → 2 ^ 52 ≤ q → p < 2 ^ 53 → (p * 2 ^ j ≤ q * 2 ^ k) ⊎ ((q + 1) * 2 ^ k ≤ p * 2 ^ j)
gap q k p j h l = elim (cases_lt j k) [
  | inl g ↦
      let room : 53 + j ≤ 52 + k = omega arith in
      let top = le_trans (pow_mono room) (le_trans (le_of_eq (pow-add 2 52 k)) (mul-le-mul_right (2 ^ k) h)) in
      inl (le_trans (le_of_lt (shl_lt 53 j l)) top)
  | inr g ↦
      let d = p * 2 ^ (j - k) in
      let b : p * 2 ^ j ≡ d * 2 ^ k = ap (λ (x : ℕ). p * 2 ^ x) (sym (sub-add_cancel g)) ∙ ap (λ (x : ℕ). p * x) (pow-add 2 (j - k) k) ∙ sym (mul_assoc p (2 ^ (j - k)) (2 ^ k)) in
      elim (cases_lt q d) [
        | inl n ↦
            let next : q + 1 ≤ d = omega arith in
            inr (le_trans (mul-le-mul_right (2 ^ k) next) (le_of_eq (sym b)))
        | inr n ↦ inl (le_trans (le_of_eq b) (mul-le-mul_right (2 ^ k) n))
      ]
]

-- ---- squares in units of 2 ^ k
square_units : (a k : ℕ) → a * 2 ^ k * (a * 2 ^ k) ≡ a * a * 2 ^ (2 * k)
square_units a k =
    let twice : k + k ≡ 2 * k = omega arith in
    mul-mul-mul_comm a (2 ^ k) a (2 ^ k) ∙ ap (λ (x : ℕ). a * a * x) (sym (pow-add 2 k k) ∙ ap (λ (x : ℕ). 2 ^ x) twice)

square_mono : (a b : ℕ) → a < b → a * a < b * b
square_mono a b h = grind arith

-- the midpoint of q * 2 ^ k and (q + 1) * 2 ^ k, doubled
middle : (q k : ℕ) → q * 2 ^ k + (q + 1) * 2 ^ k ≡ (2 * q + 1) * 2 ^ k
middle q k = grind arith

-- ---- the nearest value, from the whole root q of M
module _ (M k q b : ℕ) (g : (b ≤ q * 2 ^ k) ⊎ ((q + 1) * 2 ^ k ≤ b)) where
  -- four times a number of squared units, against a square
  below_square : (a c : ℕ) → 4 * M < a * a → a * 2 ^ k ≤ c → 4 * (M * 2 ^ (2 * k)) < c * c
  below_square a c h l =
      lt_of_lt_of_le
      (lt_of_le_of_lt (le_of_eq (sym (mul_assoc 4 M (2 ^ (2 * k))))) (mul-lt-mul_of_pos_right h (pow_pos (2 * k))))
      (le_trans (le_of_eq (sym (square_units a k))) (mul-le-mul l l))

  above_square : (a c : ℕ) → a * a < 4 * M → c ≤ a * 2 ^ k → c * c < 4 * (M * 2 ^ (2 * k))
  above_square a c h l =
      lt_of_le_of_lt (le_trans (mul-le-mul l l) (le_of_eq (square_units a k)))
      (lt_of_lt_of_le (mul-lt-mul_of_pos_right h (pow_pos (2 * k))) (le_of_eq (mul_assoc 4 M (2 ^ (2 * k)))))

  -- the square of twice q * 2 ^ k
  twice_square : (a : ℕ) → 2 * (a * 2 ^ k) * (2 * (a * 2 ^ k)) ≡ 4 * (a * a * 2 ^ (2 * k))
  twice_square a = grind (arith, square_even, square_units)

  nearer_down : q * q ≤ M → M ≤ q * q + q → Nearer (M * 2 ^ (2 * k)) (q * 2 ^ k) b
  nearer_down lo hi = (
    λ (h : q * 2 ^ k < b). elim g [
      | inl d ↦ absurd (not-le_of_lt h d)
      | inr d ↦ below_square (2 * q + 1) (q * 2 ^ k + b) (grind arith) (omega (arith, middle q k))
    ],
    λ (h : b < q * 2 ^ k).
        omega (arith, square_mono (q * 2 ^ k + b) (2 * (q * 2 ^ k)) (omega arith), twice_square q, mul-le-mul_right (2 ^ (2 * k)) lo),
  )

  nearer_up : q * q + q < M → M < (q + 1) * (q + 1) → Nearer (M * 2 ^ (2 * k)) ((q + 1) * 2 ^ k) b
  nearer_up lo hi = (
    λ (h : (q + 1) * 2 ^ k < b).
        omega (arith, square_mono (2 * ((q + 1) * 2 ^ k)) ((q + 1) * 2 ^ k + b) (omega arith), twice_square (q + 1), mul-lt-mul_of_pos_right hi (pow_pos (2 * k))),
    λ (h : b < (q + 1) * 2 ^ k). elim g [
      | inl d ↦ above_square (2 * q + 1) ((q + 1) * 2 ^ k + b) (grind arith) (omega (arith, middle q k))
      | inr d ↦ absurd (not-le_of_lt h d)
    ],
  )

-- ---- a positive number's root
within : (q k : ℕ) → q ≤ 2 ^ 53 → 2 * k < 3120 → q * 2 ^ k < 2 ^ 2098
within q k h l = let few : 54 + k ≤ 2098 = omega arith in lt_of_lt_of_le (shl_lt 54 k (omega arith)) (pow_mono few)

-- the rounded root of n squared units is v, r units: a value of the format, and nearer than each other
abbrev Rooted : ℕ → Float → Type 0
Rooted n v = (r : ℕ) × HasValue v false r (2 ^ 1074) × (0 < r) × T (fits binary64 v) × ((p j : ℕ) → p < 2 ^ 53 → Nearer n r (p * 2 ^ j))

rooted_units : (n q k : ℕ) → 0 < q → q ≤ 2 ^ 53 → 2 * k < 3120 → ((p j : ℕ) → p < 2 ^ 53 → Nearer n (q * 2 ^ k) (p * 2 ^ j)) → Rooted n (units binary64 false q k)
rooted_units n q k p h l near =
    let w = within q k h l in (
      q * 2 ^ k,
      units_val binary64 false q k w,
      mul-pos p (pow_pos k),
      subst (λ (v : Float). T (fits binary64 v)) (sym (units_is q k w)) (odd-fits binary64 54 false q k (omega arith) h w),
      near,
    )

rooted_split : (M k : ℕ) → 2 ^ 104 ≤ M → M < 2 ^ 106 → 2 * k < 3120 → Rooted (M * 2 ^ (2 * k)) (rounded (M * 2 ^ (2 * k)))
rooted_split M k lo hi l = go (M - (q * q + q)) refl
  where
    q : ℕ
    q = root 53 M

    is : IsRoot M q
    is = root_is_root 53 M hi

    at_least : 2 ^ 52 ≤ q
    at_least = omega (arith, square_lt (2 ^ 52) (q + 1) (lt_of_le_of_lt lo is.1))

    at_most : q < 2 ^ 53
    at_most = square_lt q (2 ^ 53) (lt_of_le_of_lt is.0 hi)

    go : (d : ℕ) → M - (q * q + q) ≡ d → Rooted (M * 2 ^ (2 * k)) (rounded (M * 2 ^ (2 * k)))
    go zero e =
        subst (Rooted (M * 2 ^ (2 * k))) (sym (rounded_down M k lo hi q is.0 (omega arith)))
        (rooted_units (M * 2 ^ (2 * k)) q k (omega (arith, at_least)) (omega (arith, at_most)) l
        (λ p j h. nearer_down M k q (p * 2 ^ j) (gap q k p j at_least h) is.0 (omega arith)))
    go (suc d) e =
        subst (Rooted (M * 2 ^ (2 * k))) (sym (rounded_up M k lo hi q (omega arith) is.1))
        (rooted_units (M * 2 ^ (2 * k)) (q + 1) k (omega arith) (omega (arith, at_most)) l
        (λ p j h. nearer_up M k q (p * 2 ^ j) (gap q k p j at_least h) (omega arith) is.1))

sign_of : (x : Float) (s : Bool) (a c : ℕ) → T (positive x) → HasValue x s a c → s ≡ false
sign_of nan s a c p v = absurd p
sign_of (inf t) s a c p v = absurd p
sign_of (fin true m e) s a c p v = absurd p
sign_of (fin false m e) s a c p v = sym v.0

-- a positive value of the format, in units, with its root
abbrev Positive : Float → Type 0
Positive x = (a : ℕ) × HasValue x false a (2 ^ 1074) × Rooted (a * 2 ^ 1074) (sqrt_of x)

pub rooted : (x : Float) → T (fits binary64 x) → T (positive x) → Positive x
rooted x h p =
    let g = grid x h (positive-finite x p) in
    let q = g.1 in
    let j = g.2 in
    let v : HasValue x false (q * 2 ^ j) (2 ^ 1074) = subst (λ (s : Bool). HasValue x s (q * 2 ^ j) (2 ^ 1074)) (sign_of x g.0 (q * 2 ^ j) (2 ^ 1074) p g.3) g.3 in
    let a_pos : 0 < q * 2 ^ j = value_pos x (q * 2 ^ j) (2 ^ 1074) p (pow_pos 1074) v in
    let e : q * 2 ^ j * 2 ^ 1074 ≡ q * 2 ^ (j + 1074) = mul_assoc q (2 ^ j) (2 ^ 1074) ∙ ap (λ (y : ℕ). q * y) (sym (pow-add 2 j 1074)) in
    let s = split q (j + 1074) (first_pos q (2 ^ j) a_pos) g.4 (omega arith) in
    let same : q * 2 ^ j * 2 ^ 1074 ≡ s.0 * 2 ^ (2 * s.1) = e ∙ s.2 in (
      q * 2 ^ j,
      v,
      subst (λ (w : Float). Rooted (q * 2 ^ j * 2 ^ 1074) w) (sym (sqrt_positive x (q * 2 ^ j) a_pos v))
          (subst (λ (n : ℕ). Rooted n (rounded n)) (sym same) (rooted_split s.0 s.1 s.3 s.4 (omega (arith, s.5, g.5)))),
    )

-- ---- the laws

-- a positive value is as many units as it has
pub own_units : (x : Float) → T (fits binary64 x) → T (positive x) → HasValue x false (in_units x) (2 ^ 1074)
own_units x h p = let r = rooted x h p in subst (λ (a : ℕ). HasValue x false a (2 ^ 1074)) (sym (units_of x false r.0 r.1)) r.1

pub sqrt_nearest : (x : Float) → T (fits binary64 x) → T (positive x) → Nearest x (sqrt_of x)
sqrt_nearest x h p =
    let r = rooted x h p in
    record {
      value = r.2.3;
      above = positive_of_value (sqrt_of x) r.2.0 (2 ^ 1074) r.2.1 r.2.2;
      nearest =
          λ y k f.
          let g = grid y k f in
          rw (units_of x false r.0 r.1, units_of (sqrt_of x) false r.2.0 r.2.1, units_of y g.0 (g.1 * 2 ^ g.2) g.3) (r.2.4 g.1 g.2 g.4);
    }

-- m is nearest to the root of a, n to that of b, and each is nearer than the other
pub in_order : (a b m n u : ℕ) → a ≤ b → Nearer (a * u) m n → Nearer (b * u) n m → m ≤ n
in_order a b m n u h p q = grind arith

-- a value of the format that is above zero is known by its size
same_size : (x y : Float) → T (fits binary64 x) → T (fits binary64 y) → T (positive x) → T (positive y) → in_units x ≡ in_units y → x ≡ y
same_size x y h k p q e = sym (of_bits-to_bits binary64 x h) ∙ ap (of_bits binary64) (bits x p ∙ ap (λ (n : ℕ). 0 + (size n - 53) * 2 ^ 52 + n / 2 ^ (size n - 53)) e ∙ sym (bits y q)) ∙ of_bits-to_bits binary64 y k
  where
    bits : (v : Float) → T (positive v) → to_bits binary64 v ≡ 0 + (size (in_units v) - 53) * 2 ^ 52 + in_units v / 2 ^ (size (in_units v) - 53)
    bits nan p = absurd p
    bits (inf s) p = absurd p
    bits (fin true m e) p = absurd p
    bits (fin false m e) p = unfold to_bits in_units in refl

pub nearest_is_sqrt : (x r : Float) → T (fits binary64 x) → T (positive x) → Nearest x r → r ≡ sqrt_of x
nearest_is_sqrt x r h p n = grind (arith, sqrt_nearest, positive-finite, same_size, le_antisymm, in_order, le_refl)

-- ---- the root is a value of the format
pub sqrt_fits : (x : Float) → T (fits binary64 x) → T (fits binary64 (sqrt_of x))
unfolding sqrt_of
sqrt_fits nan h = h
sqrt_fits (inf true) h = nan-fits binary64
sqrt_fits (inf false) h = h
sqrt_fits (fin s zero e) h = h
sqrt_fits (fin true (suc m) e) h = nan-fits binary64
sqrt_fits (fin false (suc m) e) h = (sqrt_nearest (fin false (suc m) e) h (lt→ltb 0 (suc m) (zero-lt-suc m))).value
