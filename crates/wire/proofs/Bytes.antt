-- Numbers in bytes: as std writes and reads them, and that what was written is read back, and what was read is written back. One law each, for every width and
-- place. Assumes nothing.
use Rattle.std.proofs.Common.{◌≡◌, ℕ, zero, suc, ◌+◌, ◌-◌, ◌*◌, ◌/◌, ◌%◌, ◌^◌, ◌<◌, ◌≤◌, List, [], ◌∷◌, ◌++◌, length, get_or, take, drop, slice_range, refl, ◌∙◌, ap, add-zero, arith, w64, lit<, length-append, drop-cons}
use Rattle.std.proofs.Math.Nat.{pow-succ', add-suc, mod-add-div, div-lt_iff_lt-mul, div-div-eq-div-mul}
use Rattle.std.proofs.lemmas.List.{get_or-drop, get_or-take}
use Rattle.std.specs.Int.{to_le_bytes, from_le_bytes}
use borrow.Author.Tests.{le-leb, lt-leb}
use lib.Seq.{get_or-append_seam, append_snoc}
use Rattle.wire.specs.Bytes.{little_endian, le_bytes, AreBytes, u64_at, overwritten}

pub length-le_bytes : (n x : ℕ) → length (le_bytes n x) ≡ n
unfolding le_bytes
length-le_bytes zero x = refl
length-le_bytes (suc n) x = ap suc (length-le_bytes n (x / 256))

pub below : (n at : ℕ) (b : List ℕ) → AreBytes b → little_endian n at b < 256 ^ n
unfolding little_endian
below zero at b bytes = omega arith
below (suc n) at b bytes = let low = bytes at in let high = below n (suc at) b bytes in omega (arith, pow-succ' 256 n)

-- ---- eight bytes as std writes and reads them

pub eight_written : (x : ℕ) → to_le_bytes w64 x ≡ le_bytes 8 x
unfolding le_bytes
eight_written x = simp div-div-eq-div-mul

from_there : (n at i : ℕ) (b : List ℕ) → little_endian n i (drop at b) ≡ little_endian n (at + i) b
unfolding little_endian
from_there zero at i b = refl
from_there (suc n) at i b = rw (get_or-drop at b i 0, from_there n at (suc i) b, add-suc at i) refl

pub eight_read : (b : List ℕ) (at : ℕ) → from_le_bytes w64 (take 8 (slice_range b at (at + 8))) ≡ little_endian 8 at b
unfolding little_endian
eight_read b at =
    let eight : at + 8 - at ≡ 8 = omega arith in
    let l = drop at b in
    let byte = λ (k : ℕ) (h : k < 8). get_or-take 8 (take 8 l) k 0 h ∙ get_or-take 8 l k 0 h in
    rw eight (omega (arith, byte 0 (lit< tt), byte 1 (lit< tt), byte 2 (lit< tt), byte 3 (lit< tt), byte 4 (lit< tt), byte 5 (lit< tt), byte 6 (lit< tt), byte 7 (lit< tt)))
    ∙ rw (add-zero at) at (from_there 8 at 0 b)

-- the bytes of a number in the first places of a list
module _ (n x : ℕ) (l : List ℕ) where
  pub overwritten_is : n ≤ length l → overwritten (le_bytes n x) l ≡ le_bytes n x ++ drop n l
  unfolding overwritten
  overwritten_is h = rw length-le_bytes (rw (le-leb n (length l) h))

  pub overwritten_not : length l < n → overwritten (le_bytes n x) l ≡ l
  unfolding overwritten
  overwritten_not h = rw length-le_bytes (rw (lt-leb n (length l) h))

-- ---- what was written is read back

pub read_back : (n x : ℕ) (before after : List ℕ) → x < 256 ^ n → little_endian n (length before) (before ++ (le_bytes n x ++ after)) ≡ x
unfolding little_endian le_bytes
read_back zero x before after h = omega arith
read_back (suc n) x before after h =
    let low = x % 256 in
    let rest = le_bytes n (x / 256) ++ after in
    let small : x / 256 < 256 ^ n = (div-lt_iff_lt-mul {k = 256} (omega arith)).1 (omega (arith, pow-succ' 256 n)) in
    let e : length (before ++ (low ∷ [])) ≡ suc (length before) = simp length-append (omega arith) in
    rw (get_or-append_seam before low rest 0, rw (e, append_snoc before low rest) at (read_back n (x / 256) (before ++ (low ∷ [])) after small)) (mod-add-div x 256)

-- ---- what was read is written back

pub written_back : (n at : ℕ) (b : List ℕ) → AreBytes b → at + n ≤ length b → le_bytes n (little_endian n at b) ≡ take n (drop at b)
unfolding little_endian le_bytes
written_back zero at b bytes h = refl
written_back (suc n) at b bytes h =
    let low = get_or b at 0 in
    let high = little_endian n (suc at) b in
    let small = bytes at in
    let l : (low + 256 * high) % 256 ≡ low = omega arith in
    let r : (low + 256 * high) / 256 ≡ high = omega arith in
    rw (l, r, drop-cons b at 0 (omega arith)) (ap (λ (k : List ℕ). low ∷ k) (written_back n (suc at) b bytes (omega arith)))

-- ---- the u64 in eight bytes

module _ (b : List ℕ) (at : ℕ) where
  pub u64_there : at + 8 ≤ length b → u64_at b at ≡ little_endian 8 at b
  unfolding u64_at
  u64_there h = rw (le-leb (at + 8) (length b) h)

  pub u64_not_there : length b < at + 8 → u64_at b at ≡ 0
  unfolding u64_at
  u64_not_there h = rw (lt-leb (at + 8) (length b) h)

pub u64_read_back : (x : ℕ) (before after : List ℕ) → x < 2 ^ 64 → u64_at (before ++ (le_bytes 8 x ++ after)) (length before) ≡ x
u64_read_back x before after h =
    u64_there (before ++ (le_bytes 8 x ++ after)) (length before) (simp (length-append, length-le_bytes) (omega arith)) ∙ read_back 8 x before after h

pub u64_written_back : (b : List ℕ) (at : ℕ) → AreBytes b → at + 8 ≤ length b → le_bytes 8 (u64_at b at) ≡ take 8 (drop at b)
u64_written_back b at bytes h = rw (u64_there b at h) (written_back 8 at b bytes h)
