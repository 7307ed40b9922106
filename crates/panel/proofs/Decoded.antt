-- The readings of bytes. (`read_length`, `read_at` and `read_past` are std's laws of `map`, said of `read` for the attributes that name them.) Assumes nothing.
use Rattle.std.proofs.Common.{ℕ, ◌≡◌, ◌/◌, ◌<◌, ◌≤◌, List, [], length, get_or, arith}
use Rattle.std.proofs.lemmas.List.{get_or-map, length-map}
use lib.ListN.{get_or-eq_default}
use Rattle.laws.proofs.Loops.{length-up_to, up_to_at}
use Rattle.bode.specs.declared.Reading.{Reading}
use Rattle.panel.specs.Panel.{reading_at, decoded}
use Rattle.panel.specs.Scanning.{read}

-- as many readings as the bytes have room for, and each by its place
pub decoded_length : (b : List ℕ) → length (decoded b) ≡ length b / 24
unfolding decoded
decoded_length b = length-up_to (reading_at b) (length b / 24)

pub decoded_at : (b : List ℕ) (k : ℕ) (other : Reading) → k < length b / 24 → get_or (decoded b) k other ≡ reading_at b k
unfolding decoded
decoded_at b k other h = up_to_at (reading_at b) (length b / 24) k other h

-- readings of 24 bytes each, by their place
pub read_length : (l : List (List ℕ)) → length (read l) ≡ length l
read_length l = length-map l (λ r. reading_at r 0)

pub read_at : (l : List (List ℕ)) (k : ℕ) (other : Reading) → k < length l → get_or (read l) k other ≡ reading_at (get_or l k []) 0
read_at l k other h = get_or-map (λ r. reading_at r 0) l k [] other h

pub read_past : (l : List (List ℕ)) (k : ℕ) (other : Reading) → length l ≤ k → get_or (read l) k other ≡ other
read_past l k other h = let n = read_length l in get_or-eq_default (read l) other (omega arith)
