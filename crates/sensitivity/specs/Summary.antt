-- The summary of a sweep of S and T, and what feeds and joins make of it. Definitions only.
use Rattle.std.specs.Prelude.{ℕ, Bool, true, false, cond, List, Option, Result, Ok, Err, Float}
use Rattle.laws.specs.Outcome.{Outcome}
use Rattle.sweep.specs.Answer.{crossing_outcome, not_kept, kept_outcome, or_kept}
use Rattle.sweep.specs.Ends.{ends_of, ends_behind, crossing_between}
use Rattle.sweep.specs.Refusal.{lists_refusal}
use Rattle.sweep.specs.Runs.{Calls, book, is_taken}
use Rattle.sweep.specs.Scan.{or_else, first_pair, zip3}
use Rattle.sweep.specs.declared.NotKept.{NotKept}
use Rattle.sensitivity.specs.Scans.{reading, zero_reading, equal_pair, level_by, drop_pair, sensitivity_crossover, bandwidth_of}
use Rattle.sensitivity.specs.declared.Reading.{Reading}
use Rattle.sensitivity.specs.declared.summary.SensitivitySummary.{SensitivitySummary}

-- ---- the summary

-- the bandwidth of a list, which is not kept under the mark
unfoldable pub bandwidth_under : Bool → List Reading → Result (Option Float) NotKept
bandwidth_under true l = Err (record {})
bandwidth_under false l = Ok (bandwidth_of l)

-- The summary of a list of readings: its ends, the first crossing and the bandwidth. The mark says whether a join is among the calls.
unfoldable pub summary_of : List Reading → Bool → SensitivitySummary
summary_of l m =
    record {
      ends = ends_of zero_reading l;
      crossover = sensitivity_crossover l;
      bandwidth = bandwidth_under m l;
    }

-- A join puts the readings of t behind those of s. The first crossing is that of s, else that of the two readings where they meet, else that of t. The bandwidth
-- is not kept.
unfoldable pub join_of : SensitivitySummary → SensitivitySummary → SensitivitySummary
join_of s t =
    record {
      ends = ends_behind s.ends t.ends;
      crossover = or_else (or_else s.crossover (crossing_between equal_pair s.ends t.ends)) t.crossover;
      bandwidth = Err (record {});
    }

-- the first drop below a level in readings l that come behind those of s: that of the two where they meet, else that of l
unfoldable pub drop_behind : Float → SensitivitySummary → List Reading → Option Float
drop_behind level s l = or_else (crossing_between (drop_pair level) s.ends (ends_of zero_reading l)) (first_pair (drop_pair level) l)

-- A feed puts the part's readings behind s as a join does, but for the bandwidth: where none was found, the part may have it. Its level is that of the first
-- reading of all.
unfoldable pub fed_by : SensitivitySummary → List Reading → SensitivitySummary
fed_by s l =
    let t = join_of s (summary_of l false) in
    record {
      ends = t.ends;
      crossover = t.crossover;
      bandwidth = or_kept s.bandwidth (drop_behind (level_by t.ends.first) s l);
    }

-- ---- in the numbers of document 01

-- the answers
unfoldable pub crossover_answer : SensitivitySummary → Outcome
crossover_answer s = crossing_outcome s.crossover

unfoldable pub bandwidth_answer : SensitivitySummary → Outcome
bandwidth_answer s = kept_outcome s.bandwidth

-- the bandwidth of a book: not kept exactly under the mark, and else what the scan is defined to give
unfoldable pub bandwidth_outcome : Bool → List Reading → Outcome
bandwidth_outcome m l = cond m not_kept (crossing_outcome (bandwidth_of l))

-- ---- the book of a run of calls

-- what a feed is handed: three lists, of any lengths
pub record Part : Type 0 where
  pub omega : List Float
  pub s : List Float
  pub t : List Float

-- the number that the conditions of a feed give, whatever was fed before
unfoldable pub part_refusal : List Reading → Bool → Part → ℕ
part_refusal l m p = lists_refusal p.omega p.s p.t

-- the readings of a part
unfoldable pub part_readings : Part → List Reading
part_readings p = zip3 reading p.omega p.s p.t

-- the book's list: the readings of the parts not refused, one part after another
unfoldable pub book_of : Calls Part → List Reading
book_of c = book (λ l m p. is_taken (part_refusal l m p)) part_readings c
