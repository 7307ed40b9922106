-- Feeding and joining summaries of curves: one law each, from which the others follow. A part that is fed, or a summary that is joined, leaves the summary of
-- the one list behind the other; so it does not matter where a curve is cut, nor in which bracketing the parts are joined. Assumes nothing.
use mathlib.Core.Path.{◌≡◌, refl}
use mathlib.Core.Bool.{Bool, true, false}
use mathlib.Core.List.{List, [], ◌++◌}
use Rattle.complex.specs.declared.Complex.{Complex}
use Rattle.sweep.specs.Runs.{Cuts, list_of, joined_up}
use Rattle.sweep.proofs.Runs.{Kind, join_assoc, neutral_before, neutral_behind, fed_uncut, joined_uncut}
use Rattle.nyquist.specs.Curve.{distance_of}
use Rattle.nyquist.specs.declared.summary.CurveSummary.{CurveSummary}
use Rattle.nyquist.specs.Summary.{summary_of, behind, fed_by, join_of, approach_answer, Part, part_refusal, part_points}
use Rattle.nyquist.proofs.Nearing.{nearest_append, nearest_distance}

-- ---- the two laws

pub fed_append : (l : List Complex) (m : Bool) (k : List Complex) → fed_by (summary_of l m) k ≡ summary_of (l ++ k) m
unfolding fed_by behind summary_of
fed_append l m k = rw (nearest_append l k)

pub join_append : (l : List Complex) (m : Bool) (k : List Complex) (n : Bool) → join_of (summary_of l m) (summary_of k n) ≡ summary_of (l ++ k) true
unfolding join_of behind summary_of
join_append l m k n = rw (nearest_append l k)

-- so the summary of a curve is a kind of summary
abbrev pub kind : Kind Part Complex CurveSummary
kind = record { at = summary_of; fed_by = fed_by; join_of = join_of; number = part_refusal; part = part_points; fed-law = fed_append; join-law = join_append }

-- ---- the answer of a list's summary is the distance of the list, under either mark

pub approach_answer_lem : (l : List Complex) (m : Bool) → approach_answer (summary_of l m) ≡ distance_of l
unfolding approach_answer summary_of
approach_answer_lem l m = nearest_distance l

blind_approach : (l : List Complex) (m n : Bool) → approach_answer (summary_of l m) ≡ approach_answer (summary_of l n)
unfolding approach_answer summary_of
blind_approach l m n = refl

-- ---- joining is associative, and the empty summary neutral

pub join_associates : (l : List Complex) (m : Bool) (k : List Complex) (n : Bool) (j : List Complex) (o : Bool)
    → join_of (join_of (summary_of l m) (summary_of k n)) (summary_of j o) ≡ join_of (summary_of l m) (join_of (summary_of k n) (summary_of j o))
join_associates = join_assoc kind

pub approach_neutral : (l : List Complex) (m n : Bool)
    → (approach_answer (join_of (summary_of [] n) (summary_of l m)) ≡ approach_answer (summary_of l m)) × (approach_answer (join_of (summary_of l m) (summary_of [] n)) ≡ approach_answer (summary_of l m))
approach_neutral l m n = (
  neutral_before kind approach_answer blind_approach n l m,
  neutral_behind kind approach_answer blind_approach l m n,
)

-- ---- a curve that is cut anywhere and fed, or cut into any parts that are joined in any bracketing, answers what it answers uncut

pub approach_fed : (l k : List Complex) (m : Bool) → approach_answer (fed_by (summary_of l m) k) ≡ approach_answer (summary_of (l ++ k) false)
approach_fed = fed_uncut kind approach_answer blind_approach

pub approach_joined : (c : Cuts Complex) → approach_answer (joined_up summary_of join_of c) ≡ approach_answer (summary_of (list_of c) false)
approach_joined = joined_uncut kind approach_answer blind_approach
