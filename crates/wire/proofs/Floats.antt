-- The f64 in eight bytes, at any place: what was written is read back, and what was read is written back unless it is a NaN. Assumes nothing.
use Prim.Native.Nat.{ℕ, ◌+◌, ◌%◌, ◌^◌, ◌<◌, ◌≤◌}
use mathlib.Core.Path.{◌≡◌, refl, sym, ◌∙◌, ap}
use mathlib.Core.Bool.{true, not}
use mathlib.Core.List.{List, [], ◌∷◌, ◌++◌}
use lib.Dec.{T}
use lib.ListN.{length, take, drop}
use borrow.Author.Tests.{lt-ltb}
use lib.Ieee.{Float, nan, inf, fin, binary64, fits, is_nan, of_bits, to_bits}
use lib.Ieee.Bits.{nan_bits_is, nan_bits_above, of_bits-to_bits, to_bits-of_bits, to_bits-lt}
use Rattle.wire.specs.Bytes.{le_bytes, AreBytes, u64_at, f64_at, f64_bytes}
use Rattle.wire.proofs.Bytes.{below, u64_there, u64_read_back, u64_written_back}

pub f64_read_back : (x : Float) (before after : List ℕ) → T (fits binary64 x) → f64_at (before ++ (f64_bytes x ++ after)) (length before) ≡ x
unfolding f64_at f64_bytes
f64_read_back x before after h = ap (of_bits binary64) (u64_read_back (to_bits binary64 x) before after (to_bits-lt binary64 x h)) ∙ of_bits-to_bits binary64 x h

pub f64_written_back : (b : List ℕ) (at : ℕ) → AreBytes b → at + 8 ≤ length b → T (not (is_nan (f64_at b at))) → f64_bytes (f64_at b at) ≡ take 8 (drop at b)
unfolding f64_at f64_bytes
f64_written_back b at bytes h n =
    let small : u64_at b at < 2 ^ 64 = rw (u64_there b at h) (below 8 at b bytes) in
    ap (le_bytes 8) (to_bits-of_bits binary64 (u64_at b at) small n) ∙ u64_written_back b at bytes h

-- ---- the one NaN
-- it is what 7FF8000000000000 is read as
is_the_nan : (x : Float) → is_nan x ≡ true → x ≡ of_bits binary64 0x7ff8_0000_0000_0000
unfolding is_nan of_bits
is_the_nan nan e = refl
is_the_nan (inf s) e = cc
is_the_nan (fin s m x) e = cc

-- so is every pattern above infinity's
pub nan_read : (n : ℕ) → 0x7ff0_0000_0000_0000 < n % 0x8000_0000_0000_0000 → of_bits binary64 0x7ff8_0000_0000_0000 ≡ of_bits binary64 n
nan_read n h = sym (is_the_nan (of_bits binary64 n) (sym (nan_bits_is binary64 n) ∙ nan_bits_above binary64 n ∙ lt-ltb _ _ h))

-- and that is the one pattern in which it is written
pub nan_written : (x : Float) → is_nan x ≡ true → to_bits binary64 x ≡ 0x7ff8_0000_0000_0000
unfolding to_bits is_nan
nan_written nan e = refl
nan_written (inf s) e = cc
nan_written (fin s m x) e = cc

-- in bytes
pub nan_bytes : f64_bytes nan ≡ 0 ∷ 0 ∷ 0 ∷ 0 ∷ 0 ∷ 0 ∷ 0xf8 ∷ 0x7f ∷ []
unfolding f64_bytes le_bytes to_bits
nan_bytes = refl
