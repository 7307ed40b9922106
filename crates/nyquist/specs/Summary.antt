-- The summary of a curve, and what feeds and joins make of it. Definitions only.
use Rattle.std.specs.Prelude.{ℕ, Bool, false, List, Option, Some, None, Float}
use Rattle.std.specs.List.{find}
use Rattle.std.specs.Float.Ieee.{le}
use Rattle.laws.specs.Loops.{push_all}
use Rattle.laws.specs.Choice.{lesser}
use Rattle.scalar.specs.Sqrt.{sqrt_of}
use Rattle.complex.specs.declared.Complex.{Complex}
use Rattle.sweep.specs.Runs.{Calls, book, is_taken}
use Rattle.nyquist.specs.Curve.{points, curve_refusal, point_square, infinity, or_zero}
use Rattle.nyquist.specs.declared.summary.CurveSummary.{CurveSummary}

-- ---- the nearest point

-- the square of its distance from (-1, 0), and infinity where there is none
unfoldable pub key_of : Option Complex → Float
key_of None = infinity
key_of (Some z) = point_square z

-- The nearest of a list's points: it begins with none and goes over to each point that is nearer. A point whose square is a NaN or an infinity never is.
unfoldable pub nearest_of : List Complex → Option Complex
nearest_of l = push_all (λ (n : Option Complex) (z : Complex). lesser key_of n (Some z)) None l

-- the first point whose square is at most m
unfoldable pub first_within : Float → List Complex → Option Complex
first_within m l = find (λ (z : Complex). le (point_square z) m) l

-- ---- the summary

-- the summary of a list of points. The mark, whether a join is among the calls, does not show in it.
unfoldable pub summary_of : List Complex → Bool → CurveSummary
summary_of l m = record { nearest = nearest_of l }

-- the points of t behind those of s: the nearer of both nearest points
unfoldable pub behind : CurveSummary → CurveSummary → CurveSummary
behind s t = record { nearest = lesser key_of s.nearest t.nearest }

-- a feed puts the summary of the part's points behind s
unfoldable pub fed_by : CurveSummary → List Complex → CurveSummary
fed_by s l = behind s (summary_of l false)

-- a join puts t behind s
unfoldable pub join_of : CurveSummary → CurveSummary → CurveSummary
join_of s t = behind s t

-- the answer: the root of the least square, and 0 where no point counted
unfoldable pub approach_answer : CurveSummary → Float
approach_answer s = or_zero (sqrt_of (key_of s.nearest))

-- ---- the book of a run of calls

-- what a feed is handed: two lists, of any lengths
pub record Part : Type 0 where
  pub re : List Float
  pub im : List Float

-- the number that the conditions of a feed give, whatever was fed before
unfoldable pub part_refusal : List Complex → Bool → Part → ℕ
part_refusal l m p = curve_refusal p.re p.im

-- the points of a part
unfoldable pub part_points : Part → List Complex
part_points p = points p.re p.im

-- the book's list: the points of the parts not refused, one part after another
unfoldable pub book_of : Calls Part → List Complex
book_of c = book (λ l m p. is_taken (part_refusal l m p)) part_points c
