-- What conditions that are passed mean. Assumes nothing.
use Prim.Native.Nat.{ℕ, ◌≤◌}
use mathlib.Core.Path.{◌≡◌, refl, sym, ◌∙◌}
use mathlib.Core.Bool.{Bool, true, false}
use mathlib.Core.List.{List}
use native.Mathlib.Omega.{arith}
use borrow.Author.Tests.{eqb-true, ltb-false}
use lib.Dec.{eqb, ltb}
use lib.ListN.{length}
use lib.Ieee.{Float}
use Rattle.std.specs.Prelude.{Result, Ok, Err}
use Rattle.std.proofs.lemmas.Bool.{and_parts}
use Rattle.laws.specs.Outcome.{when}
use Rattle.laws.proofs.Outcome.{when_passed}
use Rattle.sweep.specs.Refusal.{refusal_of, scan_refusal, lists_refusal, SameLength}
use Rattle.sweep.specs.declared.FreqError.{FreqError}
use Rattle.sweep.specs.declared.FreqError.TheVariants.{LengthsDiffer, TooMany}

-- lists that a scan takes
pub scan_taken : (same : Bool) (n : ℕ) → scan_refusal same n ≡ 0 → (same ≡ true) × (n ≤ 4096)
unfolding scan_refusal
scan_taken false n h = absurd (omega arith)
scan_taken true n h = (refl, ltb-false 4096 n (when_passed (ltb 4096 n) 15 (omega arith) h).0)

pub same_length : (xs ys zs : List Float) → lists_refusal xs ys zs ≡ 0 → SameLength xs ys zs
unfolding lists_refusal
same_length xs ys zs h =
    let b = and_parts (eqb (length xs) (length ys)) (eqb (length ys) (length zs)) (scan_taken _ _ h).0 in
    let first : length xs ≡ length ys = eqb-true (length xs) (length ys) b.0 in
    let second : length ys ≡ length zs = eqb-true (length ys) (length zs) b.1 in
    record { second = sym first; third = sym (first ∙ second) }

-- ---- the number that the conditions give is that of some check
abbrev pub Checked : ℕ → Type 0
Checked n = (k : Result (Unit {0}) FreqError) × (refusal_of k ≡ n)

pub scan_checked : (same : Bool) (n : ℕ) → Checked (scan_refusal same n)
unfolding scan_refusal
scan_checked false n = (Err LengthsDiffer, refl)
scan_checked true n = go (ltb 4096 n)
  where
    go : (b : Bool) → Checked (when b 15 0)
    go true = (Err TooMany, refl)
    go false = (Ok tt, refl)

pub lists_checked : (xs ys zs : List Float) → Checked (lists_refusal xs ys zs)
unfolding lists_refusal
lists_checked xs ys zs = scan_checked _ _
