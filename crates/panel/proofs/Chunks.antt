-- The readings of the chunks of bytes are those of the bytes. Assumes nothing.
use Rattle.std.proofs.Common.{ℕ, zero, suc, ◌≡◌, ◌+◌, ◌*◌, ◌/◌, ◌<◌, ◌≤◌, refl, List, [], length, get_or, take, drop, arith}
use Rattle.std.proofs.lemmas.List.{get_or-drop, get_or-take, length-take, length-drop, drop-drop, ext_get_or}
use Rattle.std.specs.Float.{nan}
use Rattle.std.specs.Simd.{first_chunks}
use borrow.Author.Tests.{le-leb}
use Rattle.wire.specs.Bytes.{little_endian, u64_at, f64_at}
use Rattle.bode.specs.Bode.{reading}
use Rattle.panel.specs.Panel.{reading_at, decoded}
use Rattle.panel.specs.Scanning.{read}
use Rattle.panel.proofs.Decoded.{decoded_length, decoded_at, read_length, read_at}

-- a number in the bytes of one reading is that in all the bytes
low : (b : List ℕ) (k n m at : ℕ) → at + m ≤ n → little_endian m at (take n (drop k b)) ≡ little_endian m (k + at) b
unfolding little_endian
low b k n zero at h = refl
low b k n (suc m) at h =
    let e : k + suc at ≡ suc (k + at) = omega arith in
    let f = low b k n m (suc at) (omega arith) in
    rw (get_or-take n (drop k b) at 0 (omega arith), get_or-drop k b at 0) (rw f (rw e))

u64_within : (b : List ℕ) (k n at : ℕ) → at + 8 ≤ n → k + n ≤ length b → u64_at (take n (drop k b)) at ≡ u64_at b (k + at)
unfolding u64_at
u64_within b k n at h fits =
    let l : n ≤ length (take n (drop k b)) = simp (length-take, length-drop) (omega arith) in
    rw (le-leb (at + 8) (length (take n (drop k b))) (omega arith), le-leb (k + at + 8) (length b) (omega arith)) (low b k n 8 at h)

-- the chunk at a place
chunk_at : (k : ℕ) (b : List ℕ) (i : ℕ) → i < k → get_or (first_chunks 24 k b) i [] ≡ take 24 (drop (24 * i) b)
chunk_at zero b i h = absurd (omega arith)
chunk_at (suc k) b zero h = refl
chunk_at (suc k) b (suc i) h =
    let e : 24 + 24 * i ≡ 24 * suc i = omega arith in
    rw (chunk_at k (drop 24 b) i (omega arith), drop-drop (24 * i) 24 b) (rw e)

chunk_count : (k : ℕ) (b : List ℕ) → length (first_chunks 24 k b) ≡ k
chunk_count zero b = refl
chunk_count (suc k) b = rw (chunk_count k (drop 24 b))

chunk_reading : (b : List ℕ) (i : ℕ) → i < length b / 24 → reading_at (take 24 (drop (24 * i) b)) 0 ≡ reading_at b i
unfolding reading_at f64_at
chunk_reading b i h =
    let e : 24 * i + 0 ≡ 24 * i = omega arith in
    rw (u64_within b (24 * i) 24 0 (omega arith) (omega arith), u64_within b (24 * i) 24 8 (omega arith) (omega arith), u64_within b (24 * i) 24 16 (omega arith) (omega arith)) (rw e)

-- the whole readings of bytes, chunk by chunk
pub chunks_read : (b : List ℕ) {l : List (List ℕ)} → l ≡ first_chunks 24 (length b / 24) b → read l ≡ decoded b
chunks_read b {l} e =
    let other = reading nan nan nan in
    let n : length l ≡ length b / 24 = rw e (chunk_count (length b / 24) b) in
    let m = read_length l in
    let d = decoded_length b in
    ext_get_or other (read l) (decoded b) (omega arith) (λ i h.
    let fits : i < length b / 24 = omega arith in
    rw (read_at l i other (omega arith), decoded_at b i other fits) (rw e (rw (chunk_at (length b / 24) b i fits) (chunk_reading b i fits))))
