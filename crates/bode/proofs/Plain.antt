-- The plain numbers of a summary: they give it back, and where each of them stands. Assumes nothing.
use Prim.Native.Nat.{ℕ}
use mathlib.Core.Path.{◌≡◌, refl}
use mathlib.Core.Bool.{true, false}
use mathlib.Core.List.{[]}
use lib.Ieee.{Float}
use Rattle.scalar.specs.Scalar.{f0}
use Rattle.sweep.specs.Plain.{read_mark, marked_read, crossing_mark, crossing_value, marked_crossing}
use Rattle.std.specs.Prelude.{Some}
use Rattle.sweep.proofs.Plain.{read_back, crossing_back}
use Rattle.bode.specs.Bode.{reading, gain_crossover, phase_crossover}
use Rattle.bode.specs.Summary.{summary_of}
use Rattle.bode.specs.Plain.{plain_of, from_plain}
use Rattle.bode.specs.declared.Reading.{Reading}
use Rattle.bode.specs.declared.summary.BodeSummary.{BodeSummary}
use Rattle.bode.specs.contracts.Reading as reading_type
use Rattle.bode.specs.contracts.summary.BodePlain as plain_type

pub plain_back : (s : BodeSummary) → from_plain (plain_of s) ≡ s
unfolding plain_of from_plain
plain_back s = λ i. record { ends = record { read = read_back s.ends.read i; first = s.ends.first; last = s.ends.last }; gain = crossing_back s.gain i; phase = crossing_back s.phase i }

-- ---- The fields in memory, one after another. `as_values` and `make` are generated from the struct as it is declared.

pub reading_places : (omega db phase : Float) → (reading_type.struct).as_values (reading omega db phase) ≡ (omega, (db, (phase, tt)))
reading_places omega db phase = refl

pub plain_places : (s : BodeSummary)
    → (plain_type.struct).as_values (plain_of s)
    ≡ (read_mark s.ends.read, (crossing_mark s.gain, (crossing_mark s.phase, (0, (s.ends.first, (s.ends.last, (crossing_value s.gain, (crossing_value s.phase, tt))))))))
unfolding plain_of
plain_places s = refl

-- the marks of readings and of crossings that were found
pub found_marks : (first last : Reading) (gain phase : Float)
    → (plain_type.struct).as_values (plain_of (record { ends = record { read = true; first = first; last = last }; gain = Some gain; phase = Some phase }))
    ≡ (1, (1, (1, (0, (first, (last, (gain, (phase, tt))))))))
unfolding plain_of
found_marks first last gain phase = refl

-- all zeros are the summary of no readings
pub empty_zeros : (plain_type.struct).as_values (plain_of (summary_of [] false)) ≡ (0, (0, (0, (0, (reading f0 f0 f0, (reading f0 f0 f0, (f0, (f0, tt))))))))
unfolding plain_of summary_of gain_crossover phase_crossover
empty_zeros = refl

-- what any numbers in these places mean
pub places_mean : (read gain-found phase-found reserved : ℕ) (first last : Reading) (gain phase : Float)
    → from_plain ((plain_type.struct).make (read, (gain-found, (phase-found, (reserved, (first, (last, (gain, (phase, tt)))))))) tt)
    ≡ record { ends = record { read = marked_read read; first = first; last = last }; gain = marked_crossing gain-found gain; phase = marked_crossing phase-found phase }
unfolding from_plain
places_mean read gain-found phase-found reserved first last gain phase = refl
