-- What `root` and `rounded` give: the whole root by its two squares, and the rounded root of M * 4 ^ k for an M of 105 or 106 digits. Assumes nothing.
use mathlib.Core.Path.{◌≡◌, sym, ap, ◌∙◌, subst}
use mathlib.Core.Bool.{Bool, true, false, not, cond}
use mathlib.Core.Logic.{inl, inr}
use Prim.Native.Nat.{ℕ, zero, suc, ◌+◌, ◌-◌, ◌*◌, ◌/◌, ◌^◌, ◌≤◌, ◌<◌, compare, Ordering}
use native.Mathlib.Nat.{eq-zero-or-pos, lt_of_lt_of_le, lt_of_le_of_lt, lt_of_not-le, lt_irrefl, le_trans, le_of_eq, mul-le-mul, mul-le-mul_right, mul-lt-mul_of_pos_right, mul-div_cancel, mul_assoc, pow-suc}
use native.Mathlib.Numerals.{add-one}
use native.Mathlib.Omega.{arith}
use lib.Dec.{T, leb, leb→le, nleb→lt}
use lib.Pow.{pow-add, pow_pos, pow_mono, shl_lt}
use lib.Ieee.{Float, binary64, size, nearest, units}
use lib.Ieee.Digits.{size-lt, size-le}
use Rattle.scalar.specs.Sqrt.{extend, root, rounded}
use Rattle.scalar.proofs.Squares.{square_next}

-- ---- the whole root
abbrev pub IsRoot : ℕ → ℕ → Type 0
IsRoot n r = (r * r ≤ n) × (n < (r + 1) * (r + 1))

extend_root : (n r : ℕ) → IsRoot (n / 4) r → IsRoot n (extend n (2 * r))
extend_root n r h = go (leb (suc (2 * r) * suc (2 * r)) n) (leb→le (suc (2 * r) * suc (2 * r)) n) (nleb→lt (suc (2 * r) * suc (2 * r)) n)
  where
    go : (b : Bool) → (T b → suc (2 * r) * suc (2 * r) ≤ n) → (T (not b) → n < suc (2 * r) * suc (2 * r)) → IsRoot n (cond b (suc (2 * r)) (2 * r))
    go true y z = (y tt, grind (arith, h.1))
    go false y z = (grind (arith, h.0), grind (arith, z tt))

pub root_is_root : (d n : ℕ) → n < 4 ^ d → IsRoot n (root d n)
unfolding root
root_is_root zero n h = omega arith
root_is_root (suc d) n h = extend_root n (root d (n / 4)) (root_is_root d (n / 4) (omega (arith, pow-suc 4 d)))

pub square_lt : (a b : ℕ) → a * a < b * b → a < b
square_lt a b h = grind arith

pub root_unique : (n r s : ℕ) → IsRoot n r → IsRoot n s → r ≡ s
root_unique n r s h k = grind arith

-- ---- what `compare` says
pub compare_lt : (a b : ℕ) → a < b → compare a b ≡ Ordering.lt
compare_lt a b h = grind arith

pub compare_gt : (a b : ℕ) → b < a → compare a b ≡ Ordering.gt
compare_gt a b h = grind arith

-- ---- `rounded` at M * 4 ^ k
dropped : (z k : ℕ) → 104 + 2 * k < z → z ≤ 106 + 2 * k → suc z / 2 - 53 ≡ k
dropped z k a b = omega arith

module _ (M k : ℕ) (lo : 2 ^ 104 ≤ M) (hi : M < 2 ^ 106) where
  drop-is : suc (size (M * 2 ^ (2 * k))) / 2 - 53 ≡ k
  drop-is =
      let n = M * 2 ^ (2 * k) in
      dropped (size n) k
      (lt_of_not-le (λ (g : size n ≤ 104 + 2 * k).
      lt_irrefl n (lt_of_lt_of_le (size-lt n) (le_trans (pow_mono g) (le_trans (le_of_eq (pow-add 2 104 (2 * k))) (mul-le-mul_right (2 ^ (2 * k)) lo))))))
      (size-le n (106 + 2 * k) (shl_lt 106 (2 * k) hi))

  rounded_is : (q : ℕ) (o : Ordering) → IsRoot M q → compare (4 * (M * 2 ^ (2 * k))) ((2 * q + 1) * (2 * q + 1) * 2 ^ (2 * k)) ≡ o
      → rounded (M * 2 ^ (2 * k)) ≡ units binary64 false (nearest q o) k
  unfolding rounded
  rounded_is q o h c =
      let n = M * 2 ^ (2 * k) in
      let at : ℕ → ℕ → Float = λ j r. units binary64 false (nearest r (compare (4 * n) ((2 * r + 1) * (2 * r + 1) * 2 ^ (2 * j)))) j in
      let r : root 53 (n / 2 ^ (2 * k)) ≡ q =
      ap (λ (x : ℕ). root 53 x) (mul-div_cancel M (pow_pos (2 * k))) ∙ root_unique M (root 53 M) q (root_is_root 53 M hi) h in
      ap (λ (j : ℕ). at j (root 53 (n / 2 ^ (2 * j)))) drop-is ∙ ap (at k) r ∙ ap (λ (x : Ordering). units binary64 false (nearest q x) k) c

  pub rounded_down : (q : ℕ) → q * q ≤ M → M ≤ q * q + q → rounded (M * 2 ^ (2 * k)) ≡ units binary64 false q k
  rounded_down q a b =
      rounded_is q Ordering.lt (a, grind arith)
      (compare_lt (4 * (M * 2 ^ (2 * k))) ((2 * q + 1) * (2 * q + 1) * 2 ^ (2 * k))
      (lt_of_le_of_lt (le_of_eq (sym (mul_assoc 4 M (2 ^ (2 * k))))) (mul-lt-mul_of_pos_right (grind arith) (pow_pos (2 * k)))))

  pub rounded_up : (q : ℕ) → q * q + q < M → M < (q + 1) * (q + 1) → rounded (M * 2 ^ (2 * k)) ≡ units binary64 false (q + 1) k
  rounded_up q a b =
      rounded_is q Ordering.gt (omega arith, b)
      (compare_gt (4 * (M * 2 ^ (2 * k))) ((2 * q + 1) * (2 * q + 1) * 2 ^ (2 * k))
      (lt_of_lt_of_le (mul-lt-mul_of_pos_right (grind arith) (pow_pos (2 * k))) (le_of_eq (mul_assoc 4 M (2 ^ (2 * k))))))
      ∙ ap (λ (x : ℕ). units binary64 false x k) (sym (add-one q))

-- ---- the 53 digits of the result, from the whole root q of m * 2 ^ 52 and the remainder e
abbrev pub Digits : ℕ → ℕ → Type 0
Digits m r = (2 ^ 52 ≤ r) × (r < 2 ^ 53) × ((k : ℕ) → rounded (m * 2 ^ 52 * 2 ^ (2 * k)) ≡ units binary64 false r k)

module _ (m q e : ℕ) (lo : 2 ^ 52 ≤ m) (hi : m ≤ 2 ^ 54 - 2) (is : q * q + e ≡ m * 2 ^ 52) (rest : e ≤ 2 * q) where
  at_least : 2 ^ 52 ≤ q
  at_least = grind arith

  at_most : q < 2 ^ 53
  at_most = grind arith

  pub digits_down : e ≤ q → Digits m q
  digits_down h = grind (arith, at_least, at_most, rounded_down)

  pub digits_up : q < e → Digits m (q + 1)
  digits_up h = grind (arith, at_least, rounded_up, lt_of_not-le, mul-le-mul, at_most)

-- ---- the nearest whole number to the root of m * 2 ^ 52
pred_square : (r : ℕ) → 0 < r → r * r ≡ (r - 1) * (r - 1) + 2 * (r - 1) + 1
pred_square r h = grind (arith, square_next)

pub nearest_is : (m r : ℕ) → 2 ^ 52 ≤ m → m ≤ 2 ^ 54 - 2 → m * 2 ^ 52 ≤ r * r + r → r * r < m * 2 ^ 52 + r → Digits m r
nearest_is m r lo hi a b = elim (eq-zero-or-pos (r * r - m * 2 ^ 52)) [
  | inl z ↦ digits_down m r (m * 2 ^ 52 - r * r) lo hi (omega arith) (omega arith) (omega arith)
  | inr z ↦
      let p : r - 1 + 1 ≡ r = omega arith in
      let e = pred_square r (omega arith) in
      subst (Digits m) p (digits_up m (r - 1) (m * 2 ^ 52 - (r - 1) * (r - 1)) lo hi (omega arith) (omega arith) (omega arith))
]
