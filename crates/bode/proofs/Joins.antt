-- Feeding and joining summaries of lists: one law each, from which the others follow. A part that is fed, or a summary that is joined, leaves the summary of
-- the one list behind the other; so it does not matter where a sweep is cut, nor in which bracketing the parts are joined. Assumes nothing.
use mathlib.Core.Path.{◌≡◌, refl, sym, ◌∙◌}
use mathlib.Core.Bool.{Bool, true, false}
use mathlib.Core.List.{List, [], ◌++◌}
use lib.Ieee.{Float}
use Rattle.sweep.specs.Answer.{crossing_outcome}
use Rattle.sweep.specs.Runs.{Cuts, list_of, joined_up}
use Rattle.std.specs.Prelude.{Some, None}
use Rattle.sweep.proofs.Behind.{ends-append, crossing-append}
use Rattle.sweep.proofs.Runs.{Kind, join_assoc, neutral_before, neutral_behind, fed_uncut, joined_uncut}
use Rattle.bode.specs.Bode.{gain_pair, phase_pair, gain_crossover, phase_crossover, Crossover, Gain, Phase, crossover_of}
use Rattle.bode.specs.Summary.{zero_reading, summary_of, behind, fed_by, join_of, gain_answer, phase_answer, answer_of, Part, part_refusal, part_readings}
use Rattle.bode.specs.declared.Reading.{Reading}
use Rattle.bode.specs.declared.summary.BodeSummary.{BodeSummary}

-- ---- the two laws

behind_append : (l : List Reading) (m : Bool) (k : List Reading) (n o : Bool) → behind (summary_of l m) (summary_of k n) ≡ summary_of (l ++ k) o
unfolding behind summary_of gain_crossover phase_crossover
behind_append l m k n o = λ i. record {
  ends = ends-append zero_reading l k i;
  gain = crossing-append zero_reading gain_pair l k i;
  phase = crossing-append zero_reading phase_pair l k i;
}

pub fed_append : (l : List Reading) (m : Bool) (k : List Reading) → fed_by (summary_of l m) k ≡ summary_of (l ++ k) m
unfolding fed_by
fed_append l m k = behind_append l m k false m

pub join_append : (l : List Reading) (m : Bool) (k : List Reading) (n : Bool) → join_of (summary_of l m) (summary_of k n) ≡ summary_of (l ++ k) true
unfolding join_of
join_append l m k n = behind_append l m k n true

-- so the Bode summary is a kind of summary
abbrev pub kind : Kind Part Reading BodeSummary
kind = record { at = summary_of; fed_by = fed_by; join_of = join_of; number = part_refusal; part = part_readings; fed-law = fed_append; join-law = join_append }

-- ---- the answers of a list's summary are the scans of the list, under either mark

pub answer_is : (which : Crossover) (l : List Reading) (m : Bool) → answer_of which (summary_of l m) ≡ crossing_outcome (crossover_of which l)
unfolding gain_answer phase_answer summary_of
answer_is Gain l m = refl
answer_is Phase l m = refl

blind : (which : Crossover) (l : List Reading) (m n : Bool) → answer_of which (summary_of l m) ≡ answer_of which (summary_of l n)
blind which l m n = answer_is which l m ∙ sym (answer_is which l n)

-- ---- of any two summaries, those too that no call made: what has no readings has no part in the ends, and a crossing that is there stays
module _ (s t : BodeSummary) where
  pub first_of_later : s.ends.read ≡ false → (join_of s t).ends.first ≡ t.ends.first
  unfolding join_of behind
  first_of_later h = rw h

  pub last_of_earlier : t.ends.read ≡ false → (join_of s t).ends.last ≡ s.ends.last
  unfolding join_of behind
  last_of_earlier h = rw h

  pub gain_stays : {w : Float} → s.gain ≡ Some w → (join_of s t).gain ≡ Some w
  unfolding join_of behind
  gain_stays h = rw h

  pub phase_stays : {w : Float} → s.phase ≡ Some w → (join_of s t).phase ≡ Some w
  unfolding join_of behind
  phase_stays h = rw h

  pub gain_of_later : s.ends.read ≡ false → s.gain ≡ None → (join_of s t).gain ≡ t.gain
  unfolding join_of behind
  gain_of_later h e = rw (h, e)

  pub phase_of_later : s.ends.read ≡ false → s.phase ≡ None → (join_of s t).phase ≡ t.phase
  unfolding join_of behind
  phase_of_later h e = rw (h, e)

-- ---- joining is associative, and the empty summary neutral

pub join_associates : (l : List Reading) (m : Bool) (k : List Reading) (n : Bool) (j : List Reading) (o : Bool)
    → join_of (join_of (summary_of l m) (summary_of k n)) (summary_of j o) ≡ join_of (summary_of l m) (join_of (summary_of k n) (summary_of j o))
join_associates = join_assoc kind

module _ (which : Crossover) where
  pub crossover_neutral : (l : List Reading) (m n : Bool)
      → (answer_of which (join_of (summary_of [] n) (summary_of l m)) ≡ answer_of which (summary_of l m)) × (answer_of which (join_of (summary_of l m) (summary_of [] n)) ≡ answer_of which (summary_of l m))
  crossover_neutral l m n = (
    neutral_before kind (answer_of which) (blind which) n l m,
    neutral_behind kind (answer_of which) (blind which) l m n,
  )

  -- a sweep that is cut anywhere and fed, or cut into any parts that are joined in any bracketing, answers what it answers uncut
  pub crossover_fed : (l k : List Reading) (m : Bool) → answer_of which (fed_by (summary_of l m) k) ≡ answer_of which (summary_of (l ++ k) false)
  crossover_fed = fed_uncut kind (answer_of which) (blind which)

  pub crossover_joined : (c : Cuts Reading) → answer_of which (joined_up summary_of join_of c) ≡ answer_of which (summary_of (list_of c) false)
  crossover_joined = joined_uncut kind (answer_of which) (blind which)
