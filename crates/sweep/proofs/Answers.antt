-- An answer is known by its outcome, and a scan's outcome by its conditions. Assumes nothing.
use Prim.Native.Nat.{ℕ, ◌<◌}
use mathlib.Core.Path.{◌≡◌, refl, sym}
use mathlib.Core.List.{List, [], ◌∷◌}
use native.Mathlib.Omega.{arith}
use borrow.Author.Tests.{ne_eqb}
use lib.Ieee.{Float}
use Rattle.std.specs.Prelude.{Option, Some, None, Result, Ok, Err}
use Rattle.laws.specs.Outcome.{found, none, refused, answered, Answers}
use Rattle.laws.proofs.Outcome.{found_values, option_known, result_known}
use Rattle.sweep.specs.Refusal.{number_of}
use Rattle.sweep.specs.Answer.{outcome_of, crossing_outcome, kept_outcome, scanned, outcome_of_grid, gridded}
use Rattle.sweep.specs.declared.FreqError.{FreqError}
use Rattle.sweep.specs.declared.NotKept.{NotKept}
use Rattle.sweep.proofs.Numbers.{number_known, number_above, number_below}

pub crossing_known : (p q : Option Float) → crossing_outcome p ≡ crossing_outcome q → p ≡ q
unfolding crossing_outcome
crossing_known p q h = option_known (λ x. found (x ∷ [])) (λ x y e. let l = found_values e in cc) (λ x e. omega arith) p q h

-- a crossing's number is none of those
crossing_numbers : (c : Option Float) (n : ℕ) → 0 < n → (n ≡ 100 → ⊥) → (crossing_outcome c).number ≡ n → ⊥
unfolding crossing_outcome
crossing_numbers (Some x) n h k e = omega arith
crossing_numbers None n h k e = k (sym e)

pub outcome_known : (p q : Result (Option Float) FreqError) → outcome_of p ≡ outcome_of q → p ≡ q
unfolding outcome_of
outcome_known p q h =
    result_known number_of number_known crossing_outcome crossing_known
    (λ c e. crossing_numbers c (number_of e) (number_above e) (λ i. let b = number_below e in omega arith)) p q h

pub kept_known : (p q : Result (Option Float) NotKept) → kept_outcome p ≡ kept_outcome q → p ≡ q
unfolding kept_outcome
kept_known p q h =
    result_known (λ e. 101) (λ d e i. refl) crossing_outcome crossing_known (λ c e. crossing_numbers c 101 (omega arith) (λ i. omega arith)) p q h

pub grid_known : (p q : Result (Unit {0}) FreqError) → outcome_of_grid p ≡ outcome_of_grid q → p ≡ q
unfolding outcome_of_grid
grid_known p q h = result_known number_of number_known (λ x. found []) (λ x y e. refl) (λ x e i. let a = number_above e in omega arith) p q h

-- ---- crossings as a host has them: a number that is returned, and a place

-- every crossing has such an answer
pub crossing_there : (c : Option Float) (before : Float) → (r : ℕ) × ((after : Float) × Answers (crossing_outcome c) r (before ∷ []) (after ∷ []))
unfolding crossing_outcome
crossing_there (Some x) before = (0, (x, record { number = refl; place = refl }))
crossing_there None before = (100, (before, record { number = refl; place = refl }))

pub kept_there : (k : Result (Option Float) NotKept) (before : Float) → (r : ℕ) × ((after : Float) × Answers (kept_outcome k) r (before ∷ []) (after ∷ []))
unfolding kept_outcome
kept_there (Ok c) before = crossing_there c before
kept_there (Err e) before = (101, (before, record { number = refl; place = refl }))

-- 100 is "none", and no crossing is 101
pub crossing_none : (c : Option Float) → (crossing_outcome c).number ≡ 100 → crossing_outcome c ≡ none
unfolding crossing_outcome
crossing_none (Some x) h = absurd (omega arith)
crossing_none None h = refl

pub crossing_kept : (c : Option Float) → (crossing_outcome c).number ≡ 101 → ⊥
unfolding crossing_outcome
crossing_kept (Some x) h = omega arith
crossing_kept None h = omega arith

pub not_zero : (e : FreqError) → number_of e ≡ 0 → ⊥
not_zero e h =
    let p = number_above e in omega arith

-- ---- what a call comes to that hands a refusal on, or that was let through; n is what its conditions gave

module _ {n : ℕ} (e : FreqError) (h : number_of e ≡ n) where
  pub refusal_handed_on : (values : List Float) → refused (number_of e) ≡ answered n values
  unfolding answered
  refusal_handed_on values = rw (← h) (rw (ne_eqb (number_of e) 0 (not_zero e)))

  pub scan_turned_away : (c : Option Float) → outcome_of (Err e) ≡ scanned n c
  unfolding outcome_of scanned
  scan_turned_away c = rw (← h) (rw (ne_eqb (number_of e) 0 (not_zero e)))

  -- a filler's answer, and the lent list
  pub grid_turned_away : (g : ℕ → Float) (count : ℕ) (l : List Float) → (outcome_of_grid (Err e) ≡ answered n []) × (l ≡ gridded n g count l)
  unfolding outcome_of_grid gridded
  grid_turned_away g count l = (refusal_handed_on [], rw (← h) (rw (ne_eqb (number_of e) 0 (not_zero e))))

module _ {n : ℕ} (h : 0 ≡ n) where
  pub values_found : (values : List Float) → found values ≡ answered n values
  unfolding answered
  values_found values = rw (← h)

  pub scan_let_through : (c : Option Float) → outcome_of (Ok c) ≡ scanned n c
  unfolding outcome_of scanned
  scan_let_through c = rw (← h)

  pub grid_let_through : outcome_of_grid (Ok tt) ≡ answered n []
  unfolding outcome_of_grid
  grid_let_through = values_found []
