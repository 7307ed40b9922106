-- What a feed gives to a host: the number n of its conditions, and the summary with the part behind it, or as it came where the part is refused. Definitions only.
use Rattle.std.specs.Prelude.{ℕ}
use Rattle.sweep.specs.Runs.{left_after}
use Rattle.bode.specs.Plain as bode
use Rattle.bode.specs.declared.summary.BodeSummary.{BodeSummary}
use Rattle.bode.specs.declared.summary.BodePlain.{BodePlain}
use Rattle.c_summaries.specs.declared.bode_summary.BodePlainFed.{BodePlainFed}
use Rattle.sensitivity.specs.Plain as sensitivity
use Rattle.sensitivity.specs.declared.summary.SensitivitySummary.{SensitivitySummary}
use Rattle.sensitivity.specs.declared.summary.SensitivityPlain.{SensitivityPlain}
use Rattle.c_summaries.specs.declared.sensitivity_summary.SensitivityPlainFed.{SensitivityPlainFed}
use Rattle.nyquist.specs.Plain as curve
use Rattle.nyquist.specs.declared.summary.CurveSummary.{CurveSummary}
use Rattle.nyquist.specs.declared.summary.CurvePlain.{CurvePlain}
use Rattle.c_summaries.specs.declared.curve_summary.CurvePlainFed.{CurvePlainFed}

unfoldable pub fed_bode : ℕ → BodeSummary → BodePlain → BodePlainFed
fed_bode n fed s = record { number = n; reserved = 0; summary = left_after n s (bode.plain_of fed) }

unfoldable pub fed_sensitivity : ℕ → SensitivitySummary → SensitivityPlain → SensitivityPlainFed
fed_sensitivity n fed s = record { number = n; reserved = 0; summary = left_after n s (sensitivity.plain_of fed) }

unfoldable pub fed_curve : ℕ → CurveSummary → CurvePlain → CurvePlainFed
fed_curve n fed s = record { number = n; reserved = 0; summary = left_after n s (curve.plain_of fed) }
