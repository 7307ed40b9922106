-- Bytes worked by hand: the least comes first, eight that are not all there are 0, and bytes are written only where they fit. Assumes nothing.
use mathlib.Core.Path.{◌≡◌, refl}
use mathlib.Core.Bool.{false}
use mathlib.Core.List.{[], ◌∷◌}
use lib.Ieee.{binary64, round, of_bits, to_bits}
use Rattle.wire.specs.Bytes.{little_endian, le_bytes, u64_at, f64_at, f64_bytes, overwritten}

pub least_first : le_bytes 2 0x0102 ≡ 2 ∷ 1 ∷ []
unfolding le_bytes
least_first = refl

pub least_read_first : little_endian 2 1 (9 ∷ 2 ∷ 1 ∷ []) ≡ 0x0102
unfolding little_endian
least_read_first = refl

-- 1.0 is 3FF0000000000000
pub one_written : f64_bytes (round binary64 false 1 1) ≡ 0 ∷ 0 ∷ 0 ∷ 0 ∷ 0 ∷ 0 ∷ 0xf0 ∷ 0x3f ∷ []
unfolding f64_bytes le_bytes to_bits round
one_written = refl

pub one_read : f64_at (9 ∷ 0 ∷ 0 ∷ 0 ∷ 0 ∷ 0 ∷ 0 ∷ 0xf0 ∷ 0x3f ∷ []) 1 ≡ round binary64 false 1 1
unfolding f64_at u64_at little_endian of_bits round
one_read = refl

-- a byte too few
pub not_all_there : f64_at (9 ∷ 0 ∷ 0 ∷ 0 ∷ 0 ∷ 0 ∷ 0 ∷ 0xf0 ∷ 0x3f ∷ []) 2 ≡ round binary64 false 0 1
unfolding f64_at u64_at little_endian of_bits round
not_all_there = refl

pub first_places : overwritten (1 ∷ 2 ∷ []) (7 ∷ 8 ∷ 9 ∷ []) ≡ 1 ∷ 2 ∷ 9 ∷ []
unfolding overwritten
first_places = refl

pub no_room : overwritten (1 ∷ 2 ∷ []) (7 ∷ []) ≡ 7 ∷ []
unfolding overwritten
no_room = refl
