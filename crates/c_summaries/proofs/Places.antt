-- Where a feed's number and its summary stand in what a host gets, the fields one after another: `as_values` is generated from the struct as it is declared. Assumes nothing.
use Prim.Native.Nat.{ℕ}
use mathlib.Core.Path.{◌≡◌, refl}
use Rattle.sweep.specs.Runs.{left_after}
use Rattle.bode.specs.Plain as bode
use Rattle.bode.specs.declared.summary.BodeSummary.{BodeSummary}
use Rattle.bode.specs.declared.summary.BodePlain.{BodePlain}
use Rattle.sensitivity.specs.Plain as sensitivity
use Rattle.sensitivity.specs.declared.summary.SensitivitySummary.{SensitivitySummary}
use Rattle.sensitivity.specs.declared.summary.SensitivityPlain.{SensitivityPlain}
use Rattle.nyquist.specs.Plain as curve
use Rattle.nyquist.specs.declared.summary.CurveSummary.{CurveSummary}
use Rattle.nyquist.specs.declared.summary.CurvePlain.{CurvePlain}
use Rattle.c_summaries.specs.Fed.{fed_bode, fed_sensitivity, fed_curve}
use Rattle.c_summaries.specs.contracts.bode_summary.BodePlainFed as bode_type
use Rattle.c_summaries.specs.contracts.sensitivity_summary.SensitivityPlainFed as sensitivity_type
use Rattle.c_summaries.specs.contracts.curve_summary.CurvePlainFed as curve_type

pub bode_places : (n : ℕ) (t : BodeSummary) (s : BodePlain) → (bode_type.struct).as_values (fed_bode n t s) ≡ (n, (0, (left_after n s (bode.plain_of t), tt)))
unfolding fed_bode
bode_places n t s = refl

pub sensitivity_places : (n : ℕ) (t : SensitivitySummary) (s : SensitivityPlain)
    → (sensitivity_type.struct).as_values (fed_sensitivity n t s) ≡ (n, (0, (left_after n s (sensitivity.plain_of t), tt)))
unfolding fed_sensitivity
sensitivity_places n t s = refl

pub curve_places : (n : ℕ) (t : CurveSummary) (s : CurvePlain) → (curve_type.struct).as_values (fed_curve n t s) ≡ (n, (0, (left_after n s (curve.plain_of t), tt)))
unfolding fed_curve
curve_places n t s = refl
