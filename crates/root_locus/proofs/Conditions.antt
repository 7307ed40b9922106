-- The conditions of a locus point: those that are known before its polynomial, and the last one, on the degree that is left. Assumes nothing.
use Rattle.std.proofs.Common.{◌≡◌, ℕ, ◌<◌, ◌≤◌, eqb, List, sym, arith, ne_eqb}
use lib.Ieee.{Float}
use Rattle.laws.specs.Outcome.{when}
use Rattle.std.specs.Prelude.{Ok, Err}
use Rattle.sweep.specs.Refusal.{number_of}
use Rattle.sweep.specs.declared.FreqError.{FreqError}
use Rattle.sweep.proofs.Numbers.{number_above}
use Rattle.sweep.proofs.Answers.{not_zero}
use Rattle.root_locus.specs.declared.Roots.{Roots}
use Rattle.root_locus.specs.Roots.{degree_cases}
use Rattle.transfer_fn.specs.declared.TransferFn.{TransferFn}
use Rattle.root_locus.specs.Gain.{gain_at}
use Rattle.root_locus.specs.Polynomial.{loop_polynomial, counting, degree_of}
use Rattle.root_locus.specs.Locus.{locus_refusal, found_point, point_of, point_at, locus_point_at}

module _ (order : ℕ) (k-max : Float) (n i : ℕ) where
  pub refused_before : {m : ℕ} → locus_refusal order k-max n i 0 ≡ m → 0 < m → (degree : ℕ) → locus_refusal order k-max n i degree ≡ m
  unfolding locus_refusal
  refused_before h p degree = grind arith

  -- what passing the first conditions means
  pub record Passing : Type 0 where
    pub two : 2 ≤ n
    pub least : 1 ≤ order
    pub most : order ≤ 8
    pub few : n ≤ 4096
    pub index : i < n
    pub rest : (degree : ℕ) → locus_refusal order k-max n i degree ≡ when (eqb degree 3) 12 0

  pub passing : locus_refusal order k-max n i 0 ≡ 0 → Passing
  unfolding locus_refusal
  passing h =
      record {
        two = grind arith;
        least = grind arith;
        most = grind arith;
        few = grind arith;
        index = grind arith;
        rest = λ degree. grind arith;
      }

  -- a degree that is not turned away is not 3
  pub not_cubic : {degree : ℕ} → locus_refusal order k-max n i degree ≡ 0 → degree ≡ 3 → ⊥
  unfolding locus_refusal
  not_cubic {degree} h e = grind arith

-- ---- the point by its conditions
module _ (tf : TransferFn) (k-max : Float) (n i : ℕ) where
  abbrev left : List Float
  left = counting (loop_polynomial tf (gain_at k-max n i))

  -- turned away by the first ones
  pub point_turned_away : (e : FreqError) → number_of e ≡ locus_refusal tf.order k-max n i 0 → point_of (Err e) ≡ locus_point_at tf k-max n i
  unfolding locus_point_at point_at point_of
  point_turned_away e given = rw (refused_before tf.order k-max n i (sym given) (number_above e) (degree_of left)) (rw (ne_eqb (number_of e) 0 (not_zero e)))

  -- let through by them: what the degree cases gave says the rest
  module _ (h : 0 ≡ locus_refusal tf.order k-max n i 0) where
    pub point_cubic : (e : FreqError) → Err e ≡ degree_cases left → point_of (Err e) ≡ locus_point_at tf k-max n i
    unfolding locus_point_at point_at point_of degree_cases
    point_cubic e given = rw (passing tf.order k-max n i (sym h)).rest (grind (arith, given))

    pub point_let_through : (r : Roots) → Ok r ≡ degree_cases left
        → point_of (Ok (record { gain = gain_at k-max n i; poles = r.z; count = r.count; ending = r.ending })) ≡ locus_point_at tf k-max n i
    unfolding locus_point_at point_at point_of degree_cases found_point
    point_let_through r given = rw (passing tf.order k-max n i (sym h)).rest (grind (arith, given))
