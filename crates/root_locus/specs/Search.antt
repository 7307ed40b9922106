-- The root search of `companion_matrix_roots`, after Durand and Kerner. A monic polynomial is the list `norm` of its coefficients after the leading 1, so that
-- the list's length is the degree. Definitions only.
use Rattle.std.specs.Prelude.{ℕ, zero, suc, ◌+◌, cond, List, length, ◌==◌, from_bits, slice_index_or, slice_set, Float}
use Rattle.std.specs.Float.{nan, binary64}
use Rattle.std.specs.Float.Ieee.{add, lt}
use Rattle.laws.specs.Loops.{count_up, push_all}
use Rattle.laws.specs.Choice.{greater}
use Rattle.scalar.specs.Scalar.{f0, f1}
use Rattle.complex.specs.declared.Complex.{Complex}
use Rattle.complex.specs.Complex.{from_real, product, difference, ratio, small, magnitude_of}

-- 1e-12
abbrev pub tolerance : Float
tolerance = from_bits binary64 0x3d71_9799_812d_ea11

-- what a definition reads past a list's end, where the program reads nothing
abbrev pub nowhere : Complex
nowhere = record { re = nan; im = nan }

-- Horner's step: acc · z, and the coefficient c added to the real part
unfoldable pub horner : Complex → Complex → Float → Complex
horner z acc c = record { re = add binary64 (product acc z).re c; im = (product acc z).im }

-- the polynomial at z: ((1·z + norm[0])·z + norm[1])·z + ..
unfoldable pub eval_poly : List Float → Complex → Complex
eval_poly norm z = push_all (horner z) (from_real f1) norm

-- acc times z[i] - z[j], for every j but i
unfoldable pub factor : List Complex → ℕ → ℕ → Complex → Complex
factor z i j acc = cond (j == i) acc (product acc (difference (slice_index_or z i nowhere) (slice_index_or z j nowhere)))

-- 1 times the differences of root i to the others of `degree` roots, in rising j
unfoldable pub differences : ℕ → List Complex → ℕ → Complex
differences degree z i = count_up (factor z i) degree 0 (from_real f1)

-- the roots as a round has left them so far, and the largest change in it
pub record Round : Type 0 where
  pub roots : List Complex
  pub largest : Float

-- root i less the update u, whose magnitude is the change. A change that is a NaN is not above the largest.
unfoldable pub moved : ℕ → Complex → Round → Round
moved i u s =
    record {
      roots = slice_set s.roots i (difference (slice_index_or s.roots i nowhere) u);
      largest = greater (λ (x : Float). x) s.largest (magnitude_of u);
    }

-- One root's move: by the polynomial's value at the root over the product of its differences. It is skipped where that product is below eps in square.
unfoldable pub move_root : List Float → ℕ → Round → Round
move_root norm i s =
    let denom = differences (length norm) s.roots i in
    cond (small denom) s (moved i (ratio (eval_poly norm (slice_index_or s.roots i nowhere)) denom) s)

-- one round: each root in its turn, moved at once and used by the next
unfoldable pub one_round : List Float → List Complex → Round
one_round norm z = count_up (move_root norm) (length norm) 0 (record { roots = z; largest = f0 })

-- up to n rounds, ended by the first whose largest change is below the tolerance
unfoldable pub rounds : List Float → ℕ → List Complex → List Complex
rounds norm zero z = z
rounds norm (suc n) z =
    let s = one_round norm z in
    cond (lt s.largest tolerance) s.roots (rounds norm n s.roots)

-- ---- what the rounds leave beside the roots

-- the roots as the rounds that ran have left them, how many ran, and the largest change of the last one
pub record Run : Type 0 where
  pub roots : List Complex
  pub used : ℕ
  pub last : Float

-- before the first round, where there is no change yet
abbrev pub begun : List Complex → Run
begun z = record { roots = z; used = 0; last = f0 }

-- one round more
unfoldable pub further : List Float → Run → Run
further norm s =
    let t = one_round norm s.roots in
    record { roots = t.roots; used = s.used + 1; last = t.largest }

-- up to n rounds more, ended as in `rounds`
unfoldable pub run : List Float → ℕ → Run → Run
run norm zero s = s
run norm (suc n) s =
    let t = further norm s in
    cond (lt t.last tolerance) t (run norm n t)

-- ---- rounds that are not ended, to say what a run is

-- the roots after k rounds
unfoldable pub after : List Float → ℕ → List Complex → List Complex
after norm zero z = z
after norm (suc k) z = after norm k (one_round norm z).roots

-- the largest change of the round that follows these k
unfoldable pub change_after : List Float → ℕ → List Complex → Float
change_after norm k z = (one_round norm (after norm k z)).largest
