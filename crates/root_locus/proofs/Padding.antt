-- Roots in an array of eight, whose places past the roots hold (0, 0). Assumes nothing.
use Rattle.std.proofs.Common.{◌≡◌, ℕ, ◌-◌, refl, List, ◌++◌, length, drop, take, replicate, take_at, drop_at}
use Rattle.std.proofs.lemmas.List.{drop-replicate}
use Rattle.laws.specs.Loops.{up_to, filled}
use Rattle.laws.proofs.Loops.{length-up_to}
use Rattle.scalar.specs.Scalar.{f0}
use Rattle.complex.specs.declared.Complex.{Complex}
use Rattle.complex.specs.Complex.{from_real}
use Rattle.root_locus.specs.Roots.{padded}

-- the array before any root is in it
abbrev pub eight_zeros : List Complex
eight_zeros = replicate 8 (from_real f0)

pub filled_padded : (g : ℕ → Complex) (n : ℕ) → filled g eight_zeros n ≡ padded (up_to g n)
unfolding filled padded
filled_padded g n = rw (drop-replicate n 8 (from_real f0), length-up_to g n)

-- the roots written over its first places, and read there
pub eight_padded : (zs : List Complex) → zs ++ drop (length zs) eight_zeros ≡ padded zs
unfolding padded
eight_padded zs = rw (drop-replicate (length zs) 8 (from_real f0))

pub take_padded : (zs : List Complex) (n : ℕ) → length zs ≡ n → take n (padded zs) ≡ zs
unfolding padded
take_padded zs n h = take_at zs (replicate (8 - length zs) (from_real f0)) n h

-- what is behind them
pub drop_padded : (zs : List Complex) (n : ℕ) → length zs ≡ n → drop n (padded zs) ≡ replicate (8 - n) (from_real f0)
unfolding padded
drop_padded zs n h = rw (← h) (drop_at zs (replicate (8 - length zs) (from_real f0)) (length zs) refl)
