-- The degree cases, by how many coefficients there are. Assumes nothing.
use Rattle.std.proofs.Common.{◌≡◌, ◌<◌, ◌≤◌, List, [], ◌∷◌, Result, Ok, Err, length, get_or, take, drop, ◌-◌, ap, take_all, refl, arith, le-ltb, ne_eqb}
use lib.Ieee.{Float, nan}
use Rattle.sweep.specs.declared.FreqError.{FreqError}
use Rattle.sweep.specs.declared.FreqError.TheVariants.{CubicLeftOut}
use Rattle.root_locus.specs.declared.Roots.{Roots}
use Rattle.root_locus.specs.declared.ending.Ending.TheVariants.{Settled}
use Rattle.root_locus.specs.Polynomial.{degree_of}
use Rattle.root_locus.specs.Roots.{linear, quadratic, searched, search_end, by_degree, ending_by_degree, as_roots, degree_cases}

pub case_none : (p : List Float) → length p < 2 → ◌≡◌ {A = Result Roots FreqError} (Ok (as_roots [] (Settled 0))) (degree_cases p)
unfolding as_roots degree_cases by_degree ending_by_degree
case_none [] h = refl
case_none (c ∷ []) h = refl
case_none (c ∷ d ∷ p) h = absurd (omega arith)

pub case_linear : (p : List Float) → 2 ≤ length p → length p < 3 → ◌≡◌ {A = Result Roots FreqError} (Ok (as_roots (linear (get_or p 0 nan) (get_or p 1 nan)) (Settled 0))) (degree_cases p)
unfolding as_roots degree_cases by_degree ending_by_degree
case_linear [] h l = absurd (omega arith)
case_linear (c ∷ []) h l = absurd (omega arith)
case_linear (c ∷ d ∷ []) h l = refl
case_linear (c ∷ d ∷ e ∷ p) h l = absurd (omega arith)

pub case_quadratic : (p : List Float) → 3 ≤ length p → length p < 4
    → ◌≡◌ {A = Result Roots FreqError} (Ok (as_roots (quadratic (get_or p 0 nan) (get_or p 1 nan) (get_or p 2 nan)) (Settled 0))) (degree_cases p)
unfolding as_roots degree_cases by_degree ending_by_degree
case_quadratic [] h l = absurd (omega arith)
case_quadratic (c ∷ []) h l = absurd (omega arith)
case_quadratic (c ∷ d ∷ []) h l = absurd (omega arith)
case_quadratic (c ∷ d ∷ e ∷ []) h l = refl
case_quadratic (c ∷ d ∷ e ∷ f ∷ p) h l = absurd (omega arith)

pub case_cubic : (p : List Float) → 4 ≤ length p → length p < 5 → ◌≡◌ {A = Result Roots FreqError} (Err CubicLeftOut) (degree_cases p)
unfolding degree_cases
case_cubic p h l = let e : degree_of p ≡ 3 = omega arith in rw e

-- from degree 4 on the roots are the search's
pub by_search : (p : List Float) → 5 ≤ length p → by_degree p ≡ searched p
unfolding by_degree
by_search [] h = absurd (omega arith)
by_search (c ∷ []) h = absurd (omega arith)
by_search (c ∷ d ∷ []) h = absurd (omega arith)
by_search (c ∷ d ∷ e ∷ []) h = absurd (omega arith)
by_search (c ∷ d ∷ e ∷ f ∷ []) h = absurd (omega arith)
by_search (c ∷ d ∷ e ∷ f ∷ g ∷ p) h = refl

pub case_searched : (p : List Float) → 5 ≤ length p → ◌≡◌ {A = Result Roots FreqError} (Ok (as_roots (searched p) (search_end p))) (degree_cases p)
unfolding as_roots degree_cases ending_by_degree
case_searched p h = rw (by_search p h, ne_eqb (degree_of p) 3 (λ (k : degree_of p ≡ 3). omega arith), le-ltb (degree_of p) 4 (omega arith))

-- a polynomial by its leading coefficient and the rest
pub taken_apart : (p : List Float) → 1 ≤ length p → get_or p 0 nan ∷ take (length p - 1) (drop 1 p) ≡ p
taken_apart [] h = absurd (omega arith)
taken_apart (c ∷ p) h = let e : length (c ∷ p) - 1 ≡ length p = omega arith in rw e (ap (λ (q : List Float). c ∷ q) (take_all (length p) p (omega arith)))
