-- The plain numbers of a summary: they give it back, and where each of them stands. Assumes nothing.
use Prim.Native.Nat.{ℕ}
use mathlib.Core.Path.{◌≡◌, refl}
use mathlib.Core.Bool.{true, false}
use mathlib.Core.List.{[]}
use lib.Ieee.{Float}
use Rattle.std.specs.Prelude.{Some, Ok, Err}
use Rattle.scalar.specs.Scalar.{f0}
use Rattle.sweep.specs.Plain.{read_mark, marked_read, crossing_mark, crossing_value, marked_crossing, kept_mark, kept_value, marked_kept}
use Rattle.sweep.proofs.Plain.{read_back, crossing_back, kept_back}
use Rattle.sensitivity.specs.Scans.{reading, sensitivity_crossover, bandwidth_of}
use Rattle.sensitivity.specs.Summary.{bandwidth_under, summary_of}
use Rattle.sensitivity.specs.Plain.{plain_of, from_plain}
use Rattle.sensitivity.specs.declared.Reading.{Reading}
use Rattle.sensitivity.specs.declared.summary.SensitivitySummary.{SensitivitySummary}
use Rattle.sensitivity.specs.contracts.Reading as reading_type
use Rattle.sensitivity.specs.contracts.summary.SensitivityPlain as plain_type

pub plain_back : (s : SensitivitySummary) → from_plain (plain_of s) ≡ s
unfolding plain_of from_plain
plain_back s =
    λ i. record { ends = record { read = read_back s.ends.read i; first = s.ends.first; last = s.ends.last }; crossover = crossing_back s.crossover i; bandwidth = kept_back s.bandwidth i }

-- ---- The fields in memory, one after another. `as_values` and `make` are generated from the struct as it is declared.

pub reading_places : (omega s t : Float) → (reading_type.struct).as_values (reading omega s t) ≡ (omega, (s, (t, tt)))
reading_places omega s t = refl

pub plain_places : (s : SensitivitySummary)
    → (plain_type.struct).as_values (plain_of s)
    ≡ (read_mark s.ends.read, (crossing_mark s.crossover, (kept_mark s.bandwidth, (0, (s.ends.first, (s.ends.last, (crossing_value s.crossover, (kept_value s.bandwidth, tt))))))))
unfolding plain_of
plain_places s = refl

-- the marks of readings, and of answers that were found or are not kept
pub found_marks : (first last : Reading) (crossover bandwidth : Float)
    → (plain_type.struct).as_values (plain_of (record { ends = record { read = true; first = first; last = last }; crossover = Some crossover; bandwidth = Ok (Some bandwidth) }))
    ≡ (1, (1, (1, (0, (first, (last, (crossover, (bandwidth, tt))))))))
unfolding plain_of
found_marks first last crossover bandwidth = refl

pub joined_marks : (first last : Reading) (crossover : Float)
    → (plain_type.struct).as_values (plain_of (record { ends = record { read = true; first = first; last = last }; crossover = Some crossover; bandwidth = Err (record {}) }))
    ≡ (1, (1, (2, (0, (first, (last, (crossover, (f0, tt))))))))
unfolding plain_of
joined_marks first last crossover = refl

-- all zeros are the summary of no readings
pub empty_zeros : (plain_type.struct).as_values (plain_of (summary_of [] false)) ≡ (0, (0, (0, (0, (reading f0 f0 f0, (reading f0 f0 f0, (f0, (f0, tt))))))))
unfolding plain_of summary_of sensitivity_crossover bandwidth_under bandwidth_of
empty_zeros = refl

-- what any numbers in these places mean
pub places_mean : (read crossover-found bandwidth-state reserved : ℕ) (first last : Reading) (crossover bandwidth : Float)
    → from_plain ((plain_type.struct).make (read, (crossover-found, (bandwidth-state, (reserved, (first, (last, (crossover, (bandwidth, tt)))))))) tt)
    ≡ record {
      ends = record { read = marked_read read; first = first; last = last };
      crossover = marked_crossing crossover-found crossover;
      bandwidth = marked_kept bandwidth-state bandwidth;
    }
unfolding from_plain
places_mean read crossover-found bandwidth-state reserved first last crossover bandwidth = refl
