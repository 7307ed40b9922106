-- Squares of whole numbers. Assumes nothing.
use Rattle.std.proofs.Common.{◌≡◌, ap, sym, ◌∙◌, ℕ, suc, ◌+◌, ◌-◌, ◌*◌, ◌/◌, ◌%◌, ◌^◌, ◌≤◌, arith}
use native.Mathlib.Nat.{mul_assoc, pow-succ'}
use lib.Pow.{pow-add}

pub square_even : (r : ℕ) → 2 * r * (2 * r) ≡ 4 * (r * r)
square_even r = grind arith

pub square_next : (n : ℕ) → (n + 1) * (n + 1) ≡ n * n + 2 * n + 1
square_next n = grind arith

-- ---- a power of two as one of four, with a factor 2 left over where its exponent is odd
pub even_power : (s e : ℕ) → e % 2 ≡ 0 → s * 2 ^ (2 * (e / 2)) ≡ s * 2 ^ e
even_power s e h = grind arith

pub odd_power : (s e : ℕ) → (e % 2 ≡ 0 → ⊥) → 2 * s * 2 ^ (2 * (e / 2)) ≡ s * 2 ^ e
odd_power s e h =
    let next : suc (2 * (e / 2)) ≡ e = omega arith in
    let p : 2 ^ e ≡ 2 * 2 ^ (2 * (e / 2)) = ap (λ (i : ℕ). 2 ^ i) (sym next) ∙ pow-succ' 2 (2 * (e / 2)) in
    grind arith

-- 52 factors 2 out of the power
pub shifted : (s e : ℕ) → 52 ≤ e → s * 2 ^ 52 * 2 ^ (e - 52) ≡ s * 2 ^ e
shifted s e h = grind (arith, mul_assoc, pow-add)
