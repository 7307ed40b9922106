-- The place of the first two readings in bytes that cross, whichever crossover is which for. No proof here needs it: the scan looks for no place. Assumes nothing.
use Rattle.std.proofs.Common.{ℕ, ◌+◌, ◌*◌, ◌-◌, ◌/◌, ◌<◌, ◌≡◌, refl, Bool, List, Float, ltb, length, arith}
use lib.Ieee.{nan}
use Rattle.wire.specs.Bytes.{f64_at}
use Rattle.sweep.specs.Scan.{first_pair, cross_if}
use Rattle.sweep.proofs.Place.{first_where, pair_place}
use Rattle.bode.specs.Bode.{reading, gain_pair, phase_pair, Crossover, Gain, Phase, cross_of, between_of, pair_of}
use Rattle.panel.specs.Panel.{reading_at, decoded}
use Rattle.panel.specs.Scanning.{place_of}
use Rattle.panel.proofs.Decoded.{decoded_length, decoded_at}

-- whether readings k and k + 1 have what is sought, by the values that tell
unfoldable pub cross_at : Crossover → List ℕ → ℕ → Bool
cross_at which b k = cross_of which (f64_at b (24 * k + place_of which)) (f64_at b (24 * (k + 1) + place_of which))

-- the first that has it with the one behind it; the last where none has
unfoldable pub first_of : Crossover → List ℕ → ℕ
first_of which b = first_where (cross_at which b) (length b / 24 - 1) 0

unfoldable pub between_at : Crossover → List ℕ → ℕ → Float
between_at which b k = between_of which (reading_at b k) (reading_at b (k + 1))

pub pair_said : (which : Crossover) (b : List ℕ) (k : ℕ) → pair_of which (reading_at b k) (reading_at b (k + 1)) ≡ cross_if (cross_at which b k) (between_at which b k)
unfolding between_at cross_at reading_at gain_pair phase_pair
pair_said Gain b k = refl
pair_said Phase b k = refl

pub scan_is : (which : Crossover) (b : List ℕ) → first_pair (pair_of which) (decoded b) ≡ cross_if (ltb (first_of which b + 1) (length b / 24)) (between_at which b (first_of which b))
unfolding first_of
scan_is which b =
    let other = reading nan nan nan in
    rw (decoded_length b) at
    (pair_place (pair_of which) other (cross_at which b) (between_at which b) (decoded b)
    (λ k h. let l : k + 1 < length b / 24 = rw (decoded_length b) at h in rw (decoded_at b k other (omega arith), decoded_at b (k + 1) other l) (pair_said which b k)))
