use Rattle.std.proofs.Common.{◌≡◌, ◌∙◌, sym, ap, ℕ, suc, ◌+◌, ◌-◌, ◌*◌, ◌/◌, ◌%◌, ◌^◌, ◌<◌, ◌≤◌, arith}
use native.Mathlib.Nat.{lt_of_not-le, not-le_of_lt, le_trans, le_of_eq, lt_of_lt_of_le, mul-le-mul_right, mul_assoc}
use lib.Count.{count_leading_zeros}
use lib.Pow.{pow-add, pow_mono, shl_lt}
use Rattle.std.proofs.lemmas.Nat.{leading_top}
use Rattle.scalar.specs.Sqrt.{rounded}
use Rattle.scalar.proofs.Squares.{shifted}
use Rattle.scalar.proofs.Patterns.{sqrt_low, sqrt_normal}
use Rattle.scalar.proofs.Normal.scaled.Goals as goal

abbrev zeros : ℕ → ℕ
zeros b = count_leading_zeros 64 b - 11

-- a subnormal number's digits are below 2 ^ 52, and from there on once the zeros before them are gone
record Shifted (b : ℕ) : Type 0 where
  some : 11 ≤ count_leading_zeros 64 b
  few : zeros b ≤ 52
  low : 2 ^ 52 ≤ b * 2 ^ zeros b
  high : b * 2 ^ zeros b < 2 ^ 53

shift : (b : ℕ) → 0 < b → b < 2 ^ 52 → Shifted b
shift b p h =
    let t = leading_top 64 b p (omega arith) in
    let j = t.0 in
    let small : j < 52 = lt_of_not-le (λ (g : 52 ≤ j). not-le_of_lt h (le_trans (pow_mono g) t.2)) in
    let all : j + zeros b ≡ 52 = omega (arith, t.1) in
    let next : suc j + zeros b ≡ 53 = omega (arith, t.1) in
    record {
      some = omega (arith, t.1);
      few = omega (arith, t.1);
      low = le_trans (le_of_eq (ap (λ (x : ℕ). 2 ^ x) (sym all) ∙ pow-add 2 j (zeros b))) (mul-le-mul_right (2 ^ zeros b) t.2);
      high = lt_of_lt_of_le (shl_lt (suc j) (zeros b) t.3) (le_of_eq (ap (λ (x : ℕ). 2 ^ x) next));
    }

pub returns-then-bits-ge4503599627370496 : goal.returns-then-bits-ge4503599627370496
returns-then-bits-ge4503599627370496 c =
    let b = c.args.bits in
    let x = b / 2 ^ 52 - 1 in
    let same : x + 1074 - 52 ≡ b / 2 ^ 52 + 1021 - 0 = omega (arith, c.if-bits-ge4503599627370496.true) in
    let above : b / 2 ^ 52 ≡ suc x = omega (arith, c.if-bits-ge4503599627370496.true) in
    sqrt_normal b x above (omega arith)
    ∙ ap rounded (sym (shifted (2 ^ 52 + b % 2 ^ 52) (x + 1074) (omega arith)))
    ∙ ap (λ (j : ℕ). rounded ((2 ^ 52 + b % 2 ^ 52) * 2 ^ 52 * 2 ^ j)) same

pub overflow_sub-zeros : goal.overflow_sub-zeros
overflow_sub-zeros c = (shift c.args.bits (omega arith) (omega arith)).some

pub overflow_add-result : goal.overflow_add-result
overflow_add-result c = omega (arith, shift c.args.bits (omega arith) (omega arith))

pub invariant_of-result-2 : goal.invariant_of-result-2
invariant_of-result-2 c =
    let s = shift c.args.bits (omega arith) (omega arith) in
    (omega (arith, s), omega (arith, s), omega (arith, s))

pub returns : goal.returns
returns c =
    let b = c.args.bits in
    let s = shift b (omega arith) (omega arith) in
    let z = zeros b in
    let y = b * 2 ^ z % 2 ^ 64 + z % 2 * 2 ^ 52 in
    let digits : b * 2 ^ z ≡ 2 ^ 52 + y % 2 ^ 52 = omega (arith, s) in
    let place : 1074 - z - 52 ≡ y / 2 ^ 52 + 1021 - 2 * ((z + 1) / 2) = omega (arith, s) in
    let back : z + (1074 - z) ≡ 1074 = omega (arith, s) in
    sqrt_low b (omega arith) (omega arith)
    ∙ ap (λ (e : ℕ). rounded (b * 2 ^ e)) (sym back)
    ∙ ap (λ (p : ℕ). rounded (b * p)) (pow-add 2 z (1074 - z))
    ∙ ap rounded (sym (mul_assoc b (2 ^ z) (2 ^ (1074 - z))) ∙ sym (shifted (b * 2 ^ z) (1074 - z) (omega (arith, s))))
    ∙ ap (λ (m : ℕ). rounded (m * 2 ^ 52 * 2 ^ (1074 - z - 52))) digits
    ∙ ap (λ (e : ℕ). rounded ((2 ^ 52 + y % 2 ^ 52) * 2 ^ 52 * 2 ^ e)) place
