-- Laws of the evaluation that a reader will look for. Assumes nothing.
use Prim.Native.Nat.{ℕ, ◌+◌, ◌≤◌, ◌<◌}
use mathlib.Core.Path.{◌≡◌, refl, sym, ap, ◌∙◌}
use mathlib.Core.List.{List, ◌++◌}
use native.Mathlib.Omega.{arith}
use lib.ListN.{length, get_or-append}
use Rattle.std.specs.Prelude.{Result, Ok, Err}
use lib.Ieee.{Float, nan, add, sub, mul, div, lt, of_bits}
use Rattle.laws.specs.Outcome.{found, answered}
use Rattle.laws.proofs.Outcome.{answered_found, answered_refused, found_values, result_known, passed_from, refused_from}
use Rattle.scalar.specs.Scalar.{f0, f1}
use Rattle.complex.specs.Complex.{from_real, small, ratio, magnitude_sq, values_of, quotient_or_zero}
use Rattle.complex.specs.declared.Complex.{Complex}
use Rattle.complex.proofs.Quotients.{values_known}
use Rattle.sweep.specs.declared.FreqError.{FreqError}
use Rattle.sweep.specs.Refusal.{number_of}
use Rattle.sweep.proofs.Numbers.{number_known, number_above}
use Rattle.transfer_fn.specs.Evaluation.{sum_up, term_of, pair_sum, numerator, denominator, value_at, outcome_of, outcome_of_both}
use Rattle.transfer_fn.specs.declared.TransferFn.{TransferFn}
use Rattle.transfer_fn.proofs.Sums.{sum_same}

-- order 0 has the value (0, 0) on every list
pub order_zero : (b a cosines sines : List Float) → value_at (record { b = b; a = a; order = 0 }) cosines sines ≡ from_real f0
unfolding value_at numerator denominator quotient_or_zero ratio small magnitude_sq pair_sum sum_up from_real add sub mul div lt of_bits
order_zero b a cosines sines = refl

-- pairs past the first order + 1 are ignored
module _ (tf : TransferFn) (cosines sines more others : List Float) (c : tf.order < length cosines) (s : tf.order < length sines) where
  same_sum : (start : Float) (coefficients turns extra : List Float) (first : ℕ) → tf.order + first ≤ length turns →
      sum_up start (term_of coefficients (turns ++ extra) first) tf.order ≡ sum_up start (term_of coefficients turns first) tf.order
  unfolding term_of
  same_sum start coefficients turns extra first h =
      sum_same start _ _ tf.order (λ k l. rw (get_or-append turns extra nan (k + first) (omega arith)))

  pub more_ignored : value_at tf (cosines ++ more) (sines ++ others) ≡ value_at tf cosines sines
  unfolding value_at numerator denominator pair_sum
  more_ignored =
      rw
      (same_sum f0 tf.b cosines more 0 (omega arith), same_sum f0 tf.b sines others 0 (omega arith), same_sum f1 tf.a cosines more 1 (omega arith), same_sum f0 tf.a sines others 1 (omega arith))

-- ---- an answer is known by its outcome
pub outcome_known : (p q : Result Complex FreqError) → outcome_of p ≡ outcome_of q → p ≡ q
unfolding outcome_of
outcome_known p q h =
    result_known number_of number_known (λ z. found (values_of z)) (λ x y e. values_known x y (found_values e)) (λ x e i. let a = number_above e in omega arith) p q h

both_values : (v w : Complex × Complex) → values_of v.0 ++ values_of v.1 ≡ values_of w.0 ++ values_of w.1 → v ≡ w
both_values v w h =
    let first : v.0 ≡ w.0 = values_known v.0 w.0 (cc) in
    let second : v.1 ≡ w.1 = values_known v.1 w.1 (cc) in
    ap (λ (x : Complex). (x, v.1)) first ∙ ap (λ (y : Complex). (w.0, y)) second

pub both_known : (p q : Result (Complex × Complex) FreqError) → outcome_of_both p ≡ outcome_of_both q → p ≡ q
unfolding outcome_of_both
both_known p q h =
    result_known number_of number_known (λ v. found (values_of v.0 ++ values_of v.1)) (λ v w e. both_values v w (found_values e))
    (λ v e i. let a = number_above e in omega arith) p q h

-- ---- a function f of the values of both, which r answered
module _ (f : Complex → Complex → Complex) (n : ℕ) (P C : Complex) {r : Result (Complex × Complex) FreqError} (given : outcome_of_both r ≡ answered n (values_of P ++ values_of C)) where
  pub of_values : {p c v : Complex} → r ≡ Ok (p, c) → v ≡ f p c → outcome_of (Ok v) ≡ answered n (values_of (f P C))
  unfolding outcome_of outcome_of_both
  of_values {p} {c} {v} h e =
      let k = passed_from (sym (ap outcome_of_both h) ∙ given) in
      let l = k.1 in
      let ep : p ≡ P = values_known p P (cc) in
      let ec : c ≡ C = values_known c C (cc) in
      rw (e, ep, ec) (sym (answered_found (values_of (f P C)) k.0))

  pub of_refused : {e : FreqError} → r ≡ Err e → outcome_of (Err e) ≡ answered n (values_of (f P C))
  unfolding outcome_of outcome_of_both
  of_refused {e} h =
      let is : number_of e ≡ n = refused_from (values_of P ++ values_of C) (number_above e) (sym (ap outcome_of_both h) ∙ given) in
      rw is (sym (answered_refused (values_of (f P C)) (rw is at (number_above e))))
