-- The summary of a Bode sweep, and what feeds and joins make of it. Definitions only.
use Rattle.std.specs.Prelude.{ℕ, Bool, false, List, Float}
use Rattle.laws.specs.Outcome.{Outcome}
use Rattle.scalar.specs.Scalar.{f0}
use Rattle.sweep.specs.Answer.{crossing_outcome}
use Rattle.sweep.specs.Refusal.{lists_refusal}
use Rattle.sweep.specs.Runs.{Calls, book, is_taken}
use Rattle.sweep.specs.Scan.{or_else}
use Rattle.sweep.specs.Ends.{ends_of, ends_behind, crossing_between}
use Rattle.bode.specs.Bode.{reading, readings, gain_pair, phase_pair, gain_crossover, phase_crossover, Crossover, Gain, Phase}
use Rattle.bode.specs.declared.Reading.{Reading}
use Rattle.bode.specs.declared.summary.BodeSummary.{BodeSummary}

-- ---- the summary

-- what stands in the places of the first and the last reading where there are none
abbrev pub zero_reading : Reading
zero_reading = reading f0 f0 f0

-- The summary of a list of readings: its ends, and the first crossings. The mark, whether a join is among the calls, does not show in it.
unfoldable pub summary_of : List Reading → Bool → BodeSummary
summary_of l m = record { ends = ends_of zero_reading l; gain = gain_crossover l; phase = phase_crossover l }

-- The readings of t behind those of s. The first crossing is that of s, else that of the two readings where they meet, else that of t.
unfoldable pub behind : BodeSummary → BodeSummary → BodeSummary
behind s t =
    record {
      ends = ends_behind s.ends t.ends;
      gain = or_else (or_else s.gain (crossing_between gain_pair s.ends t.ends)) t.gain;
      phase = or_else (or_else s.phase (crossing_between phase_pair s.ends t.ends)) t.phase;
    }

-- a feed puts the summary of the part's readings behind s
unfoldable pub fed_by : BodeSummary → List Reading → BodeSummary
fed_by s l = behind s (summary_of l false)

-- a join puts t behind s
unfoldable pub join_of : BodeSummary → BodeSummary → BodeSummary
join_of s t = behind s t

-- ---- in the numbers of document 01

-- the answers
unfoldable pub gain_answer : BodeSummary → Outcome
gain_answer s = crossing_outcome s.gain

unfoldable pub phase_answer : BodeSummary → Outcome
phase_answer s = crossing_outcome s.phase

abbrev pub answer_of : Crossover → BodeSummary → Outcome
answer_of Gain = gain_answer
answer_of Phase = phase_answer

-- ---- the book of a run of calls

-- what a feed is handed: three lists, of any lengths
pub record Part : Type 0 where
  pub omega : List Float
  pub db : List Float
  pub phase : List Float

-- the number that the conditions of a feed give, whatever was fed before
unfoldable pub part_refusal : List Reading → Bool → Part → ℕ
part_refusal l m p = lists_refusal p.omega p.db p.phase

-- the readings of a part
unfoldable pub part_readings : Part → List Reading
part_readings p = readings p.omega p.db p.phase

-- the book's list: the readings of the parts not refused, one part after another
unfoldable pub book_of : Calls Part → List Reading
book_of c = book (λ l m p. is_taken (part_refusal l m p)) part_readings c
