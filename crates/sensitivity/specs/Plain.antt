-- The summary as plain numbers, for a host to keep between calls, and back. Definitions only.
use Rattle.sweep.specs.Plain.{read_mark, marked_read, crossing_mark, crossing_value, marked_crossing, kept_mark, kept_value, marked_kept}
use Rattle.sensitivity.specs.declared.summary.SensitivitySummary.{SensitivitySummary}
use Rattle.sensitivity.specs.declared.summary.SensitivityPlain.{SensitivityPlain}

unfoldable pub plain_of : SensitivitySummary → SensitivityPlain
plain_of s =
    record {
      read = read_mark s.ends.read;
      crossover_found = crossing_mark s.crossover;
      bandwidth_state = kept_mark s.bandwidth;
      reserved = 0;
      first = s.ends.first;
      last = s.ends.last;
      crossover = crossing_value s.crossover;
      bandwidth = kept_value s.bandwidth;
    }

-- the summary of any such numbers, made by a call or not; the reserved one is not read
unfoldable pub from_plain : SensitivityPlain → SensitivitySummary
from_plain p =
    record {
      ends = record { read = marked_read p.read; first = p.first; last = p.last };
      crossover = marked_crossing p.crossover_found p.crossover;
      bandwidth = marked_kept p.bandwidth_state p.bandwidth;
    }
