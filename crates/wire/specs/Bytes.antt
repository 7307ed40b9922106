-- Numbers in bytes, the least byte first. Definitions only. (The bit patterns of floats are `of_bits` and `to_bits` of lib.Ieee: every NaN pattern is the one
-- NaN, and that is written as 7FF8000000000000.)
use Rattle.std.specs.Prelude.{ℕ, zero, suc, ◌+◌, ◌*◌, ◌/◌, ◌%◌, ◌<◌, cond, List, [], ◌∷◌, ◌++◌, leb, length, get_or, drop, Float}
use Rattle.std.specs.Float.{binary64}
use Rattle.std.specs.Float.Ieee.{of_bits, to_bits}

-- the number in n bytes from a place on
unfoldable pub little_endian : ℕ → ℕ → List ℕ → ℕ
little_endian zero at b = 0
little_endian (suc n) at b = get_or b at 0 + 256 * little_endian n (suc at) b

-- the n bytes of a number
unfoldable pub le_bytes : ℕ → ℕ → List ℕ
le_bytes zero x = []
le_bytes (suc n) x = x % 256 ∷ le_bytes n (x / 256)

-- what a list of bytes is known by
abbrev pub AreBytes : List ℕ → Type 0
AreBytes b = (i : ℕ) → get_or b i 0 < 256

-- the u64, and the f64, in the eight bytes from a place on: 0 where they are not all there
unfoldable pub u64_at : List ℕ → ℕ → ℕ
u64_at b at = cond (leb (at + 8) (length b)) (little_endian 8 at b) 0

unfoldable pub f64_at : List ℕ → ℕ → Float
f64_at b at = of_bits binary64 (u64_at b at)

-- the eight bytes of an f64
unfoldable pub f64_bytes : Float → List ℕ
f64_bytes x = le_bytes 8 (to_bits binary64 x)

-- a list with other bytes in its first places: as it was where they do not fit
unfoldable pub overwritten : List ℕ → List ℕ → List ℕ
overwritten bytes l = cond (leb (length bytes) (length l)) (bytes ++ drop (length bytes) l) l
