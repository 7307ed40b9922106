-- Calls of the panel worked by hand: the numbers in their order, the 24 bytes of a reading, and the eight of an answer. Assumes nothing.
use Prim.Native.Nat.{ℕ}
use mathlib.Core.Path.{◌≡◌, refl}
use mathlib.Core.Bool.{true, false}
use mathlib.Core.List.{[], ◌∷◌}
use lib.Ieee.{Float, binary64, round, of_bits, to_bits}
use Rattle.laws.specs.Loops.{up_to}
use Rattle.wire.specs.Bytes.{little_endian, le_bytes, u64_at, f64_at, f64_bytes}
use Rattle.panel.specs.Panel.{reading_at, decoded, panel_refusal, written}

-- ---- bytes of readings, and bytes for the answer

-- no multiple of 24 is 19, whatever else is wrong
pub odd_length : panel_refusal 25 8 ≡ 19
unfolding panel_refusal
odd_length = refl

pub odd_before_room : panel_refusal 25 7 ≡ 19
unfolding panel_refusal
odd_before_room = refl

pub odd_before_many : panel_refusal 98329 7 ≡ 19
unfolding panel_refusal
odd_before_many = refl

-- 4,097 readings
pub many_before_room : panel_refusal 98328 7 ≡ 15
unfolding panel_refusal
many_before_room = refl

-- 4,096 readings
pub no_room : panel_refusal 98304 7 ≡ 14
unfolding panel_refusal
no_room = refl

pub passed_most : panel_refusal 98304 8 ≡ 0
unfolding panel_refusal
passed_most = refl

pub passed_none : panel_refusal 0 8 ≡ 0
unfolding panel_refusal
passed_none = refl

-- ---- a reading: 1 is 3FF0000000000000, 2 is 4000000000000000 and -180 is C066800000000000

abbrev whole : ℕ → Float
whole n = round binary64 false n 1

pub one_reading : decoded (0 ∷ 0 ∷ 0 ∷ 0 ∷ 0 ∷ 0 ∷ 0xf0 ∷ 0x3f ∷ 0 ∷ 0 ∷ 0 ∷ 0 ∷ 0 ∷ 0 ∷ 0 ∷ 0x40 ∷ 0 ∷ 0 ∷ 0 ∷ 0 ∷ 0 ∷ 0x80 ∷ 0x66 ∷ 0xc0 ∷ [])
    ≡ record { omega = whole 1; db = whole 2; phase = round binary64 true 180 1 } ∷ []
unfolding decoded up_to reading_at f64_at u64_at little_endian of_bits round
one_reading = refl

-- ---- an answer of nine bytes: 3 is 4008000000000000, and the ninth byte stays

pub three_written : written (whole 3 ∷ []) (9 ∷ 9 ∷ 9 ∷ 9 ∷ 9 ∷ 9 ∷ 9 ∷ 9 ∷ 9 ∷ []) ≡ 0 ∷ 0 ∷ 0 ∷ 0 ∷ 0 ∷ 0 ∷ 0x08 ∷ 0x40 ∷ 9 ∷ []
unfolding f64_bytes le_bytes to_bits round
three_written = refl
