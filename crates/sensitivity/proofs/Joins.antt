-- Feeding and joining summaries of lists: one law each, from which the others follow. A part that is fed, or a summary that is joined, leaves the summary of
-- the one list behind the other; so it does not matter where a sweep is cut, nor in which bracketing the parts are joined. Assumes nothing.
use mathlib.Core.Path.{◌≡◌, refl, sym, ◌∙◌, ap}
use mathlib.Core.Bool.{Bool, true, false}
use mathlib.Core.List.{List, [], ◌∷◌, ◌++◌}
use lib.Ieee.{Float}
use Rattle.std.specs.Prelude.{Option, Some, None, Ok, Err}
use Rattle.sweep.specs.Answer.{crossing_outcome, kept_outcome, or_kept}
use Rattle.sweep.specs.Ends.{ends_of, crossing_between}
use Rattle.sweep.specs.Runs.{Cuts, list_of, joined_up}
use Rattle.sweep.specs.Scan.{or_else, first_pair}
use Rattle.sweep.proofs.Scans.{or_else_assoc, kept_or}
use Rattle.sweep.proofs.Behind.{ends-append, crossing-append}
use Rattle.sweep.proofs.Runs.{Kind, join_assoc, neutral_before, neutral_behind, fed_uncut, joined_uncut}
use Rattle.sensitivity.specs.Scans.{zero_reading, equal_pair, drop_pair, level_of, sensitivity_crossover, bandwidth_of}
use Rattle.sensitivity.specs.Summary.{bandwidth_under, summary_of, join_of, drop_behind, fed_by, crossover_answer, bandwidth_answer, bandwidth_outcome, Part, part_refusal, part_readings}
use Rattle.sensitivity.specs.declared.Reading.{Reading}
use Rattle.sensitivity.specs.declared.summary.SensitivitySummary.{SensitivitySummary}

-- ---- the bandwidth of one list behind another

-- the level is that of the first list, where it has a reading; and where it has none, it has no drop at any level
same_level : (l k : List Reading) → bandwidth_of l ≡ first_pair (drop_pair (level_of (l ++ k))) l
unfolding bandwidth_of level_of
same_level [] k = refl
same_level (x ∷ l) k = refl

kept_append : (l k : List Reading) (m : Bool) → or_kept (Ok (bandwidth_of l)) (drop_behind (level_of (l ++ k)) (summary_of l m) k) ≡ Ok (bandwidth_of (l ++ k))
unfolding drop_behind summary_of
kept_append l k m =
    let p = drop_pair (level_of (l ++ k)) in
    let cut = crossing_between p (ends_of zero_reading l) (ends_of zero_reading k) in
    let whole : first_pair p (l ++ k) ≡ bandwidth_of (l ++ k) = unfold bandwidth_of in refl in
    kept_or (bandwidth_of l) (or_else cut (first_pair p k))
    ∙ ap Ok (ap (λ (a : Option Float). or_else a (or_else cut (first_pair p k))) (same_level l k) ∙ sym (or_else_assoc (first_pair p l) cut (first_pair p k)) ∙ crossing-append zero_reading p l k ∙ whole)

bandwidth_append : (l : List Reading) (m : Bool) (k : List Reading)
    → or_kept (bandwidth_under m l) (drop_behind (level_of (l ++ k)) (summary_of l m) k) ≡ bandwidth_under m (l ++ k)
unfolding bandwidth_under
bandwidth_append l true k = unfold or_kept in refl
bandwidth_append l false k = kept_append l k false

-- ---- the two laws

pub join_append : (l : List Reading) (m : Bool) (k : List Reading) (n : Bool) → join_of (summary_of l m) (summary_of k n) ≡ summary_of (l ++ k) true
unfolding join_of summary_of sensitivity_crossover bandwidth_under
join_append l m k n =
    λ i. record {
      ends = ends-append zero_reading l k i;
      crossover = crossing-append zero_reading equal_pair l k i;
      bandwidth = Err (record {});
    }

-- what a feed takes over from a join is that of the whole list, and so is the level
pub fed_append : (l : List Reading) (m : Bool) (k : List Reading) → fed_by (summary_of l m) k ≡ summary_of (l ++ k) m
unfolding fed_by summary_of level_of
fed_append l m k =
    rw (join_append l m k false)
    (λ i. record {
      ends = ends_of zero_reading (l ++ k);
      crossover = sensitivity_crossover (l ++ k);
      bandwidth = bandwidth_append l m k i;
    })

-- so the summary of S and T is a kind of summary
abbrev pub kind : Kind Part Reading SensitivitySummary
kind = record { at = summary_of; fed_by = fed_by; join_of = join_of; number = part_refusal; part = part_readings; fed-law = fed_append; join-law = join_append }

-- ---- the answers of a list's summary: the crossover is that of the list under either mark, the bandwidth only where the mark is not set

pub crossover_answer_lem : (l : List Reading) (m : Bool) → crossover_answer (summary_of l m) ≡ crossing_outcome (sensitivity_crossover l)
unfolding crossover_answer summary_of
crossover_answer_lem l m = refl

pub bandwidth_answer_lem : (l : List Reading) (m : Bool) → bandwidth_answer (summary_of l m) ≡ bandwidth_outcome m l
unfolding bandwidth_answer summary_of bandwidth_under bandwidth_outcome
bandwidth_answer_lem l true = unfold kept_outcome in refl
bandwidth_answer_lem l false = unfold kept_outcome in refl

blind_crossover : (l : List Reading) (m n : Bool) → crossover_answer (summary_of l m) ≡ crossover_answer (summary_of l n)
unfolding crossover_answer summary_of
blind_crossover l m n = refl

-- ---- of any two summaries, those too that no call made: what has no readings has no part in the ends, and a crossing that is there stays
module _ (s t : SensitivitySummary) where
  pub first_of_later : s.ends.read ≡ false → (join_of s t).ends.first ≡ t.ends.first
  unfolding join_of
  first_of_later h = rw h

  pub last_of_earlier : t.ends.read ≡ false → (join_of s t).ends.last ≡ s.ends.last
  unfolding join_of
  last_of_earlier h = rw h

  pub crossover_stays : {w : Float} → s.crossover ≡ Some w → (join_of s t).crossover ≡ Some w
  unfolding join_of
  crossover_stays h = rw h

  pub crossover_of_later : s.ends.read ≡ false → s.crossover ≡ None → (join_of s t).crossover ≡ t.crossover
  unfolding join_of
  crossover_of_later h e = rw (h, e)

-- ---- joining is associative, and the empty summary neutral for the crossover

pub join_associates : (l : List Reading) (m : Bool) (k : List Reading) (n : Bool) (j : List Reading) (o : Bool)
    → join_of (join_of (summary_of l m) (summary_of k n)) (summary_of j o) ≡ join_of (summary_of l m) (join_of (summary_of k n) (summary_of j o))
join_associates = join_assoc kind

pub crossover_neutral : (l : List Reading) (m n : Bool)
    → (crossover_answer (join_of (summary_of [] n) (summary_of l m)) ≡ crossover_answer (summary_of l m)) × (crossover_answer (join_of (summary_of l m) (summary_of [] n)) ≡ crossover_answer (summary_of l m))
crossover_neutral l m n = (
  neutral_before kind crossover_answer blind_crossover n l m,
  neutral_behind kind crossover_answer blind_crossover l m n,
)

-- ---- a sweep that is cut anywhere and fed, or cut into any parts that are joined in any bracketing, answers what it answers uncut

pub crossover_fed : (l k : List Reading) (m : Bool) → crossover_answer (fed_by (summary_of l m) k) ≡ crossover_answer (summary_of (l ++ k) false)
crossover_fed = fed_uncut kind crossover_answer blind_crossover

pub bandwidth_fed : (l k : List Reading) → bandwidth_answer (fed_by (summary_of l false) k) ≡ bandwidth_answer (summary_of (l ++ k) false)
bandwidth_fed l k = ap bandwidth_answer (fed_append l false k)

pub crossover_joined : (c : Cuts Reading) → crossover_answer (joined_up summary_of join_of c) ≡ crossover_answer (summary_of (list_of c) false)
crossover_joined = joined_uncut kind crossover_answer blind_crossover
