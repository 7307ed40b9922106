-- Outcomes, and the conditions before them. Assumes nothing.
use Prim.Native.Nat.{ℕ, ◌<◌}
use mathlib.Core.Path.{◌≡◌, refl, sym, ap, ◌∙◌}
use mathlib.Core.Bool.{Bool, true, false, cond, true≢false}
use mathlib.Core.List.{List}
use native.Mathlib.Omega.{arith}
use borrow.Author.Tests.{eq-eqb, ne_eqb, eqb-true}
use lib.Dec.{eqb}
use lib.Ieee.{Float}
use Rattle.std.specs.Prelude.{Option, Some, None, Result, Ok, Err}
use Rattle.laws.specs.Outcome.{Outcome, found, refused, option_outcome, result_outcome, when, answered}

pub answered_found : {n : ℕ} (values : List Float) → n ≡ 0 → answered n values ≡ found values
unfolding answered
answered_found values e = rw e

pub answered_refused : {n : ℕ} (values : List Float) → 0 < n → answered n values ≡ refused n
unfolding answered
answered_refused {n} values h = rw (ne_eqb n 0 (λ (e : n ≡ 0). omega arith))

-- a number above 0 was not given: its test failed, and those behind it decide
pub when_passed : (test : Bool) (n : ℕ) {otherwise : ℕ} → 0 < n → when test n otherwise ≡ 0 → (test ≡ false) × (otherwise ≡ 0)
when_passed true n p h = absurd (omega arith)
when_passed false n p h = (refl, h)

-- ---- an outcome is known by its parts
pub found_values : {a b : List Float} → found a ≡ found b → a ≡ b
found_values h = ap (λ (o : Outcome). o.values) h

pub apart : {o p : Outcome} → o ≡ p → o.number < p.number → ⊥
apart {o} {p} h l = let e : o.number ≡ p.number = ap (λ (o : Outcome). o.number) h in omega arith

-- An option is known by its outcome, where its value is and is not 100.
module _ {A : Type 0} (f : A → Outcome) (known : (x y : A) → f x ≡ f y → x ≡ y) (some : (x : A) → (f x).number ≡ 100 → ⊥) where
  pub option_known : (p q : Option A) → option_outcome f p ≡ option_outcome f q → p ≡ q
  option_known (Some x) (Some y) h = ap Some (known x y h)
  option_known (Some x) None h = absurd (some x (ap (λ (o : Outcome). o.number) h))
  option_known None (Some y) h = absurd (some y (ap (λ (o : Outcome). o.number) (sym h)))
  option_known None None h = refl

-- A result is known by its outcome, where its value and its refusal are and have no number in common.
module _ {A E : Type 0} (number : E → ℕ) (number-known : (d e : E) → number d ≡ number e → d ≡ e) (f : A → Outcome) (known : (x y : A) → f x ≡ f y → x ≡ y)
    (some : (x : A) (e : E) → (f x).number ≡ number e → ⊥) where
  pub result_known : (p q : Result A E) → result_outcome number f p ≡ result_outcome number f q → p ≡ q
  result_known (Ok x) (Ok y) h = ap Ok (known x y h)
  result_known (Ok x) (Err e) h = absurd (some x e (ap (λ (o : Outcome). o.number) h))
  result_known (Err e) (Ok y) h = absurd (some y e (ap (λ (o : Outcome). o.number) (sym h)))
  result_known (Err d) (Err e) h = ap Err (number-known d e (ap (λ (o : Outcome). o.number) h))

-- what an answered call's outcome says of its conditions
pub passed_from : {n : ℕ} {a b : List Float} → found a ≡ answered n b → (n ≡ 0) × (a ≡ b)
unfolding answered
passed_from {n} {a} {b} h = go (eqb n 0) refl h
  where
    go : (t : Bool) → eqb n 0 ≡ t → found a ≡ cond t (found b) (refused n) → (n ≡ 0) × (a ≡ b)
    go true e h = (eqb-true n 0 e, found_values h)
    go false e h = let z : 0 ≡ n = ap (λ (o : Outcome). o.number) h in let k : true ≡ false = sym (eq-eqb n 0 (sym z)) ∙ e in absurd (true≢false k)

pub refused_from : {m n : ℕ} (b : List Float) → 0 < m → refused m ≡ answered n b → m ≡ n
unfolding answered
refused_from {m} {n} b p h = go (eqb n 0) h
  where
    go : (t : Bool) → refused m ≡ cond t (found b) (refused n) → m ≡ n
    go true h = absurd (apart (sym h) p)
    go false h = ap (λ (o : Outcome). o.number) h
