-- The rule of the table of starting points, by one test that is computed over the whole table. Assumes nothing.
use Rattle.std.proofs.Common.{◌≡◌, ℕ, ◌+◌, ◌^◌, ◌<◌, ◌≤◌, Bool, ◌&&◌, T, leb, List, [], length, get_or, take, drop, arith, leb→le, length-take, length-drop, get_or-take}
use Rattle.std.proofs.lemmas.List.{get_or-drop}
use lib.Ieee.{Float, of_bits}
use lib.Ieee.Fits.{and_l, and_r}
use lib.Ieee.Scale.{finite}
use Rattle.laws.specs.Tables.{every}
use Rattle.laws.proofs.Tables.{every_at}
use Rattle.scalar.specs.Sqrt.{in_units}
use Rattle.complex.specs.declared.Complex.{Complex}
use Rattle.complex.specs.Complex.{new_of}
use Rattle.root_locus.specs.StartingPoints.{pair, start_table, as_complex, first_point, starting_point, squares, NearUnit}

-- ---- the rule as a test
close : Complex → Bool
close z = leb (2 ^ 2148) (squares z + 2 ^ 2098) && leb (squares z) (2 ^ 2148 + 2 ^ 2098)

near : Complex → Bool
near z = finite z.re && (finite z.im && close z)

near_means : (z : Complex) → T (near z) → NearUnit z
unfolding near close
near_means z t =
    let u : T (finite z.im && close z) = and_r (finite z.re) (finite z.im && close z) t in
    let v : T (close z) = and_r (finite z.im) (close z) u in
    let least = leb (2 ^ 2148) (squares z + 2 ^ 2098) in
    let most = leb (squares z) (2 ^ 2148 + 2 ^ 2098) in
    record {
      finite_re = and_l (finite z.re) (finite z.im && close z) t;
      finite_im = and_l (finite z.im) (close z) u;
      least = leb→le (2 ^ 2148) (squares z + 2 ^ 2098) (and_l least most v);
      most = leb→le (squares z) (2 ^ 2148 + 2 ^ 2098) (and_r least most v);
    }

whole_table : T (every (λ (p : List Float). near (as_complex p)) start_table)
unfolding near close start_table pair as_complex new_of squares in_units of_bits
whole_table = tt

-- each of the 30 pairs: its squares sum to within 2 ^ -50 of 1
pub near_unit : (k : ℕ) → k < 30 → NearUnit (as_complex (get_or start_table k []))
unfolding start_table
near_unit k h = near_means (as_complex (get_or start_table k [])) (every_at (λ (p : List Float). near (as_complex p)) [] start_table whole_table k h)

-- a degree's pairs lie in the table
first_fits : (d : ℕ) → d ≤ 8 → first_point d + d ≤ 30
unfolding first_point
first_fits d h = grind arith

-- so does every point from which a search starts
pub starts_near_unit : (d i : ℕ) → d ≤ 8 → i < d → NearUnit (starting_point d i)
unfolding starting_point
starts_near_unit d i h k = let f = first_fits d h in near_unit (first_point d + i) (omega arith)

-- ---- a degree's pairs as a part of the table
pub degree_pairs : (d : ℕ) → d ≤ 8 → length (take d (drop (first_point d) start_table)) ≡ d
unfolding start_table
degree_pairs d h = let f = first_fits d h in simp (length-take, length-drop) (omega arith)

pub degree_pair : (d i : ℕ) → i < d → get_or (take d (drop (first_point d) start_table)) i [] ≡ get_or start_table (first_point d + i) []
degree_pair d i k = rw (get_or-take d (drop (first_point d) start_table) i [] k) (get_or-drop (first_point d) start_table i [])
