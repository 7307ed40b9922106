-- A test whether a row is right, and a test over a table. Floats are compared as data: a NaN equals a NaN, and 0 is not -0. Assumes nothing.
use Prim.Native.Nat.{ℕ, ◌<◌}
use mathlib.Core.Path.{◌≡◌, refl, ap}
use mathlib.Core.Bool.{Bool, true, false, beq, ◌&&◌}
use mathlib.Core.List.{List, [], ◌∷◌, ◌++◌}
use lib.Dec.{T, eqb, eqb→eq}
use lib.IntN.{ℤ, pos, negsuc}
use lib.ListN.{length, get_or}
use lib.Ieee.{Float, nan, inf, fin}
use lib.Ieee.Fits.{and_l, and_r}
use Rattle.laws.specs.Outcome.{Outcome}
use Rattle.laws.specs.Tables.{every}
use Rattle.laws.proofs.Tables.{every_at, every_append}
use lib.Ieee as ieee
use Rattle.laws.specs.Loops as loops
use Rattle.laws.specs.Choice as choice
use Rattle.laws.specs.Outcome as outcomes
use Rattle.scalar.specs.Scalar as scalar
use Rattle.scalar.specs.Sqrt as square_root
use Rattle.complex.specs.Complex as complex
use Rattle.sweep.specs.Refusal as refusals
use Rattle.sweep.specs.Answer as answers
use Rattle.sweep.specs.Scan as scans
use Rattle.sweep.specs.Runs as runs
use Rattle.transfer_fn.specs.Evaluation as evaluation
use Rattle.sensitivity.specs.Responses as responses
use Rattle.sensitivity.specs.Scans as sensitivity
use Rattle.sensitivity.specs.Summary as sensitivity_summary
use Rattle.bode.specs.Bode as bode
use Rattle.bode.specs.Summary as bode_summary
use Rattle.nyquist.specs.Curve as curve
use Rattle.nyquist.specs.Frequency as frequency
use Rattle.nyquist.specs.Summary as curve_summary
use Rattle.root_locus.specs.Gain as gain
use Rattle.root_locus.specs.Polynomial as polynomial
use Rattle.root_locus.specs.StartingPoints as starting
use Rattle.root_locus.specs.Search as search
use Rattle.root_locus.specs.Ending as ending
use Rattle.root_locus.specs.Roots as roots
use Rattle.root_locus.specs.Stability as stability
use Rattle.root_locus.specs.Locus as locus
use Rattle.worked_cases.specs.Cases.{Row, ◌gives◌, Right, outcome}

-- ---- whole numbers and signs
same_int : ℤ → ℤ → Bool
same_int (pos m) (pos n) = eqb m n
same_int (pos m) (negsuc n) = false
same_int (negsuc m) (pos n) = false
same_int (negsuc m) (negsuc n) = eqb m n

same_int_lem : (x y : ℤ) → T (same_int x y) → x ≡ y
unfolding same_int
same_int_lem (pos m) (pos n) t = ap pos (eqb→eq m n t)
same_int_lem (pos m) (negsuc n) t = absurd t
same_int_lem (negsuc m) (pos n) t = absurd t
same_int_lem (negsuc m) (negsuc n) t = ap negsuc (eqb→eq m n t)

same_sign : (s t : Bool) → T (beq s t) → s ≡ t
same_sign true true h = refl
same_sign true false h = absurd h
same_sign false true h = absurd h
same_sign false false h = refl

-- ---- floats, lists of them, outcomes
same : Float → Float → Bool
unfolding same_int
same nan nan = true
same nan (inf t) = false
same nan (fin t n d) = false
same (inf s) nan = false
same (inf s) (inf t) = beq s t
same (inf s) (fin t n d) = false
same (fin s m e) nan = false
same (fin s m e) (inf t) = false
same (fin s m e) (fin t n d) = beq s t && (eqb m n && same_int e d)

same_float : (x y : Float) → T (same x y) → x ≡ y
unfolding same
same_float nan nan h = refl
same_float nan (inf t) h = absurd h
same_float nan (fin t n d) h = absurd h
same_float (inf s) nan h = absurd h
same_float (inf s) (inf t) h = ap inf (same_sign s t h)
same_float (inf s) (fin t n d) h = absurd h
same_float (fin s m e) nan h = absurd h
same_float (fin s m e) (inf t) h = absurd h
same_float (fin s m e) (fin t n d) h =
    let r = and_r (beq s t) (eqb m n && same_int e d) h in
    rw (
      same_sign s t (and_l (beq s t) (eqb m n && same_int e d) h),
      eqb→eq m n (and_l (eqb m n) (same_int e d) r),
      same_int_lem e d (and_r (eqb m n) (same_int e d) r),
    ) refl

same_all : List Float → List Float → Bool
unfolding same
same_all [] [] = true
same_all [] (y ∷ ys) = false
same_all (x ∷ xs) [] = false
same_all (x ∷ xs) (y ∷ ys) = same x y && same_all xs ys

same_all_lem : (xs ys : List Float) → T (same_all xs ys) → xs ≡ ys
unfolding same_all
same_all_lem [] [] h = refl
same_all_lem [] (y ∷ ys) h = absurd h
same_all_lem (x ∷ xs) [] h = absurd h
same_all_lem (x ∷ xs) (y ∷ ys) h = rw (same_float x y (and_l (same x y) (same_all xs ys) h), same_all_lem xs ys (and_r (same x y) (same_all xs ys) h)) refl

same_outcome : Outcome → Outcome → Bool
unfolding same_all
same_outcome o p = eqb o.number p.number && same_all o.values p.values

same_outcome_lem : (o p : Outcome) → T (same_outcome o p) → o ≡ p
unfolding same_outcome
same_outcome_lem o p h =
    let number = eqb→eq o.number p.number (and_l (eqb o.number p.number) (same_all o.values p.values) h) in
    let values = same_all_lem o.values p.values (and_r (eqb o.number p.number) (same_all o.values p.values) h) in
    λ i. record { number = number i; values = values i }

-- ---- a row
unfoldable pub right : Row → Bool
unfolding same_outcome outcome
    ieee.round ieee.neg ieee.add ieee.sub ieee.mul ieee.div ieee.lt ieee.le ieee.is_nan ieee.of_int ieee.of_bits
    loops.count_up loops.up_to loops.filled
    choice.lesser choice.greater
    outcomes.answered
    scalar.abs_of
    square_root.sqrt_of
    complex.new_of complex.from_real complex.product complex.difference complex.magnitude_sq complex.magnitude_of complex.small complex.inverse complex.ratio complex.reciprocal_of complex.quotient complex.quotient_or_zero
    refusals.scan_refusal refusals.lists_refusal refusals.grid_refusal
    answers.crossing_outcome answers.kept_outcome answers.or_kept answers.scanned answers.gridded
    scans.between scans.scanned_by
    runs.left_after
    evaluation.sum_up evaluation.term_of evaluation.pair_sum evaluation.numerator evaluation.denominator evaluation.value_at evaluation.evaluation_refusal evaluation.evaluation
    responses.response_by
    sensitivity.difference sensitivity.equal_between sensitivity.equal_pair sensitivity.sensitivity_crossover sensitivity.level_of sensitivity.drop_between sensitivity.drop_pair sensitivity.bandwidth_of
    sensitivity_summary.bandwidth_under sensitivity_summary.summary_of sensitivity_summary.drop_behind sensitivity_summary.fed_by sensitivity_summary.join_of sensitivity_summary.crossover_answer sensitivity_summary.bandwidth_answer sensitivity_summary.part_readings
    bode.gain_between bode.phase_between bode.gain_pair bode.phase_pair bode.gain_crossover bode.phase_crossover bode.part_of_way bode.value_at bode.gain_margin_between bode.phase_margin_between bode.gain_margin_pair bode.phase_margin_pair bode.margin_at bode.gain_margin bode.phase_margin
    bode_summary.summary_of bode_summary.behind bode_summary.fed_by bode_summary.join_of bode_summary.gain_answer bode_summary.phase_answer bode_summary.part_readings
    curve.points curve.from_critical curve.point_distance curve.least_distance curve.or_zero curve.distance_of curve.distance_outcome curve.point_square
    frequency.frequency_at frequency.frequency_outcome frequency.frequency_grid
    curve_summary.key_of curve_summary.nearest_of curve_summary.summary_of curve_summary.behind curve_summary.fed_by curve_summary.join_of curve_summary.approach_answer
    curve.curve_refusal
    curve_summary.part_points
    gain.gain_at gain.gain_outcome gain.gain_grid
    polynomial.coefficient polynomial.loop_polynomial polynomial.counting
    starting.start_table starting.as_complex starting.first_point starting.starting_point starting.starting_points
    search.horner search.eval_poly search.factor search.differences search.moved search.move_root search.one_round search.rounds search.further search.run
    ending.some_nan ending.unless_nan ending.end_of
    roots.linear roots.discriminant roots.real_pair roots.complex_pair roots.quadratic roots.quotient_at roots.monic roots.searched roots.search_run roots.search_end roots.by_degree roots.ending_by_degree roots.padded
    stability.outside stability.none_outside stability.stable
    locus.locus_refusal locus.found_point locus.no_point locus.point_at locus.locus_point_at
right (c gives o) = same_outcome (outcome c) o

pub right_means : (r : Row) → T (right r) → Right r
unfolding right Right
right_means (c gives o) h = same_outcome_lem (outcome c) o h

-- ---- a table

-- the one fact about a table: all its rows pass the test
pub record AllRight (rows : List Row) : Type 0 where
  pub test : T (every right rows)

-- what it says of each row
pub row_at : {rows : List Row} → AllRight rows → (k : ℕ) (d : Row) → k < length rows → Right (get_or rows k d)
row_at {rows} s k d h = right_means (get_or rows k d) (every_at right d rows s.test k h)

-- two tables as one
infixl 65 ◌and◌
pub ◌and◌ : {rows more : List Row} → AllRight rows → AllRight more → AllRight (rows ++ more)
◌and◌ {rows} {more} s t = record { test = every_append right rows more s.test t.test }
