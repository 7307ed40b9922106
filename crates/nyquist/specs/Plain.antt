-- The summary as plain numbers, for a host to keep between calls, and back. Definitions only.
use Rattle.std.specs.Prelude.{ℕ, cond, Option, Some, None, eqb}
use Rattle.scalar.specs.Scalar.{f0}
use Rattle.complex.specs.declared.Complex.{Complex}
use Rattle.complex.specs.Complex.{new_of, from_real}
use Rattle.nyquist.specs.declared.summary.CurveSummary.{CurveSummary}
use Rattle.nyquist.specs.declared.summary.CurvePlain.{CurvePlain}

-- ---- the nearest point: 1 and its parts, or 0 and (0, 0)

abbrev pub point_mark : Option Complex → ℕ
point_mark None = 0
point_mark (Some z) = 1

abbrev pub point_value : Option Complex → Complex
point_value None = from_real f0
point_value (Some z) = z

-- any mark but 0 says that the point counts
abbrev pub marked_point : ℕ → Complex → Option Complex
marked_point mark z = cond (eqb mark 0) None (Some z)

-- ---- the summary

unfoldable pub plain_of : CurveSummary → CurvePlain
plain_of s = record { found = point_mark s.nearest; reserved = 0; re = (point_value s.nearest).re; im = (point_value s.nearest).im }

-- the summary of any such numbers, made by a call or not; the reserved one is not read
unfoldable pub from_plain : CurvePlain → CurveSummary
from_plain p = record { nearest = marked_point p.found (new_of p.re p.im) }
