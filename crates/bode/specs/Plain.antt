-- The summary as plain numbers, for a host to keep between calls, and back. Definitions only.
use Rattle.sweep.specs.Plain.{read_mark, marked_read, crossing_mark, crossing_value, marked_crossing}
use Rattle.bode.specs.declared.summary.BodeSummary.{BodeSummary}
use Rattle.bode.specs.declared.summary.BodePlain.{BodePlain}

unfoldable pub plain_of : BodeSummary → BodePlain
plain_of s =
    record {
      read = read_mark s.ends.read;
      gain_found = crossing_mark s.gain;
      phase_found = crossing_mark s.phase;
      reserved = 0;
      first = s.ends.first;
      last = s.ends.last;
      gain = crossing_value s.gain;
      phase = crossing_value s.phase;
    }

-- the summary of any such numbers, made by a call or not; the reserved one is not read
unfoldable pub from_plain : BodePlain → BodeSummary
from_plain p =
    record {
      ends = record { read = marked_read p.read; first = p.first; last = p.last };
      gain = marked_crossing p.gain_found p.gain;
      phase = marked_crossing p.phase_found p.phase;
    }
