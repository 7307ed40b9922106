-- Cases for a table: a function of the port with what it is given, and what the definition that its contract cites gives there. Definitions only.
use Rattle.std.specs.Prelude.{ℕ, ◌≡◌, Bool, false, cond, List, [], ◌∷◌, ◌++◌, map, length, take, replicate, pos, Float}
use Rattle.std.specs.Float.{binary64}
use Rattle.std.specs.Float.Ieee.{of_int}
use Rattle.laws.specs.Outcome.{Outcome, found, answered}
use Rattle.scalar.specs.Scalar.{f0, f1}
use Rattle.scalar.specs.Sqrt.{sqrt_of}
use Rattle.complex.specs.declared.Complex.{Complex}
use Rattle.complex.specs.Complex.{new_of, values_of, product, quotient, reciprocal_of, magnitude_of}
use Rattle.sweep.specs.Refusal.{lists_refusal}
use Rattle.sweep.specs.Runs.{Calls, left_after, run_of}
use Rattle.sweep.specs.Scan.{scanned_by}
use Rattle.transfer_fn.specs.declared.TransferFn.{TransferFn}
use Rattle.transfer_fn.specs.Evaluation.{evaluation}
use Rattle.sensitivity.specs.declared.LoopShaping.{LoopShaping}
use Rattle.sensitivity.specs.Responses.{response_by, loop_gain, sensitivity, comp_sensitivity, control_sensitivity}
use Rattle.sensitivity.specs.Scans as sensitivity_scans
use Rattle.sensitivity.specs.Summary as sensitivity_summary
use Rattle.sensitivity.specs.declared.summary.SensitivitySummary.{SensitivitySummary}
use Rattle.bode.specs.Bode as bode
use Rattle.bode.specs.Summary as bode_summary
use Rattle.bode.specs.declared.summary.BodeSummary.{BodeSummary}
use Rattle.nyquist.specs.Curve as curve
use Rattle.nyquist.specs.Frequency as frequency
use Rattle.nyquist.specs.Summary as curve_summary
use Rattle.nyquist.specs.declared.summary.CurveSummary.{CurveSummary}
use Rattle.root_locus.specs.Gain as gain
use Rattle.root_locus.specs.Polynomial.{loop_polynomial}
use Rattle.root_locus.specs.StartingPoints.{starting_point}
use Rattle.root_locus.specs.Ending.{ending_number, ending_value}
use Rattle.root_locus.specs.Stability.{stable}
use Rattle.root_locus.specs.Locus.{Point, locus_point_at}

-- ---- what a function is given

-- a complex number by its parts
abbrev pub Pair : Type 0
Pair = Float × Float

-- a transfer function by its b and a, as many of each as its order
abbrev pub tf : List Float → List Float → TransferFn
tf b a = record { b = take 8 (b ++ replicate 8 f0); a = take 8 (a ++ replicate 8 f0); order = length b }

-- a sweep of ω, dB and phase; a sweep of ω, S and T; a curve's real and imaginary parts
abbrev pub Bode : Type 0
Bode = bode_summary.Part

abbrev pub Sensitivity : Type 0
Sensitivity = sensitivity_summary.Part

abbrev pub Curve : Type 0
Curve = curve_summary.Part

-- The functions by their names in the Rust. A locus point is point i of n up to k_max, `stability_at` is the stability of its poles, `locus_ending` how the search
-- for them ended, and `start_at` is where the search of a degree starts for root i; a grid has its top, its n and the lent list. The last five are answers of a summary after a list of calls.
pub data Case : Type 0 where
  sqrt : Float → Case
  multiply divide : Pair → Pair → Case
  reciprocal magnitude : Pair → Case
  eval_tf_complex : TransferFn → List Float → List Float → Case
  loop_gain_at sensitivity_at comp_sensitivity_at control_sensitivity_at : LoopShaping → List Float → List Float → Case
  polynomial : TransferFn → Float → Case
  locus_point stability_at locus_ending : TransferFn → Float → ℕ → ℕ → Case
  start_at : ℕ → ℕ → Case
  stability_region : List Pair → ℕ → Case
  gain_crossover phase_crossover gain_margin phase_margin : Bode → Case
  sensitivity_crossover bandwidth : Sensitivity → Case
  distance_to_critical : Curve → Case
  gain_grid frequency_grid : Float → ℕ → List Float → Case
  gain_of_summary phase_of_summary : Calls Bode → Case
  crossover_of_summary bandwidth_of_summary : Calls Sensitivity → Case
  approach_of_summary : Calls Curve → Case

-- ---- what the definitions give

abbrev complex_of : Pair → Complex
complex_of z = new_of z.0 z.1

abbrev parts : List Complex → List Float
parts [] = []
parts (z ∷ zs) = z.re ∷ z.im ∷ parts zs

-- the gain and the poles that count, or the refusal
abbrev point_outcome : Point → Outcome
point_outcome p = answered p.number (p.gain ∷ parts (take p.count p.poles))

-- its ending's number and value, or the refusal
abbrev ending_outcome : Point → Outcome
ending_outcome p = answered p.number (of_int binary64 (pos (ending_number p.ending)) ∷ ending_value p.ending ∷ [])

-- a truth as a value: 1 or 0
abbrev truth : Bool → Outcome
truth b = found (cond b f1 f0 ∷ [])

-- the number of a call, and a lent list as the call leaves it
abbrev with_list : Outcome → List Float → Outcome
with_list o l = record { number = o.number; values = l }

-- what a list of calls leaves of each kind of sweep, by the definitions of its summary
abbrev bode_fed : BodeSummary → Bode → BodeSummary
bode_fed s p = left_after (lists_refusal p.omega p.db p.phase) s (bode_summary.fed_by s (bode_summary.part_readings p))

abbrev bode_left : Calls Bode → BodeSummary
bode_left c = run_of (bode_summary.summary_of [] false) bode_fed bode_summary.join_of c

abbrev sensitivity_fed : SensitivitySummary → Sensitivity → SensitivitySummary
sensitivity_fed s p = left_after (lists_refusal p.omega p.s p.t) s (sensitivity_summary.fed_by s (sensitivity_summary.part_readings p))

abbrev sensitivity_left : Calls Sensitivity → SensitivitySummary
sensitivity_left c = run_of (sensitivity_summary.summary_of [] false) sensitivity_fed sensitivity_summary.join_of c

abbrev curve_fed : CurveSummary → Curve → CurveSummary
curve_fed s p = left_after (curve.curve_refusal p.re p.im) s (curve_summary.fed_by s (curve_summary.part_points p))

abbrev curve_left : Calls Curve → CurveSummary
curve_left c = run_of (curve_summary.summary_of [] false) curve_fed curve_summary.join_of c

-- by the definition that the function's contract cites
unfoldable pub outcome : Case → Outcome
outcome (sqrt x) = found (sqrt_of x ∷ [])
outcome (multiply x y) = found (values_of (product (complex_of x) (complex_of y)))
outcome (divide x y) = quotient (complex_of x) (complex_of y)
outcome (reciprocal z) = reciprocal_of (complex_of z)
outcome (magnitude z) = found (magnitude_of (complex_of z) ∷ [])
outcome (eval_tf_complex f cosines sines) = evaluation f cosines sines
outcome (loop_gain_at l cosines sines) = response_by loop_gain l cosines sines
outcome (sensitivity_at l cosines sines) = response_by sensitivity l cosines sines
outcome (comp_sensitivity_at l cosines sines) = response_by comp_sensitivity l cosines sines
outcome (control_sensitivity_at l cosines sines) = response_by control_sensitivity l cosines sines
outcome (polynomial f k) = found (loop_polynomial f k)
outcome (locus_point f k-max n i) = point_outcome (locus_point_at f k-max n i)
outcome (stability_at f k-max n i) = let p = locus_point_at f k-max n i in truth (stable p.poles p.count)
outcome (locus_ending f k-max n i) = ending_outcome (locus_point_at f k-max n i)
outcome (start_at degree i) = found (values_of (starting_point degree i))
outcome (stability_region poles count) = truth (stable (map complex_of poles) count)
outcome (gain_crossover p) = scanned_by bode.reading bode.gain_crossover p.omega p.db p.phase
outcome (phase_crossover p) = scanned_by bode.reading bode.phase_crossover p.omega p.db p.phase
outcome (gain_margin p) = scanned_by bode.reading bode.gain_margin p.omega p.db p.phase
outcome (phase_margin p) = scanned_by bode.reading bode.phase_margin p.omega p.db p.phase
outcome (sensitivity_crossover p) = scanned_by sensitivity_scans.reading sensitivity_scans.sensitivity_crossover p.omega p.s p.t
outcome (bandwidth p) = scanned_by sensitivity_scans.reading sensitivity_scans.bandwidth_of p.omega p.s p.t
outcome (distance_to_critical p) = curve.distance_outcome p.re p.im
outcome (gain_grid top n l) = with_list (gain.gain_outcome top n l) (gain.gain_grid top n l)
outcome (frequency_grid top n l) = with_list (frequency.frequency_outcome top n l) (frequency.frequency_grid top n l)
outcome (gain_of_summary c) = bode_summary.gain_answer (bode_left c)
outcome (phase_of_summary c) = bode_summary.phase_answer (bode_left c)
outcome (crossover_of_summary c) = sensitivity_summary.crossover_answer (sensitivity_left c)
outcome (bandwidth_of_summary c) = sensitivity_summary.bandwidth_answer (sensitivity_left c)
outcome (approach_of_summary c) = found (curve_summary.approach_answer (curve_left c) ∷ [])

-- ---- a table

-- A row: a case, and what it should give.
infix 20 ◌gives◌
pub data Row : Type 0 where
  ◌gives◌ : Case → Outcome → Row

-- the row is right: the definition gives that
unfoldable pub Right : Row → Type 0
Right (c gives o) = outcome c ≡ o
