-- The steps of the root search as the program takes them: what it has computed is the definition's next state. Assumes nothing.
use Rattle.std.proofs.Common.{◌≡◌, ℕ, zero, suc, ◌+◌, ◌-◌, ◌<◌, ◌≤◌, true, false, List, ◌++◌, length, get_or, set, take, drop, take_at, replicate, lit≤, add-one, drop-cons, refl, ◌∙◌, arith, eq-eqb, ne_eqb, length-set}
use lib.Ieee.{Float, nan, binary64, add, lt, of_bits}
use lib.Ieee.Bits.{of_bits-fits}
use Rattle.laws.specs.Loops.{count_up, push_all}
use Rattle.laws.specs.Choice.{greater}
use Rattle.laws.proofs.Choice.{itself}
use Rattle.laws.proofs.Loops.{length-up_to}
use Rattle.scalar.specs.Scalar.{f0, eps}
use Rattle.scalar.specs.Sqrt.{sqrt_of}
use Rattle.scalar.proofs.Neighbours.{root_below}
use Rattle.complex.specs.declared.Complex.{Complex}
use Rattle.complex.specs.Complex.{from_real, product, difference, magnitude_sq, small, quotient_or_zero}
use Rattle.complex.proofs.Squares.{Square, root_greater}
use Rattle.root_locus.specs.Polynomial.{degree_of}
use Rattle.root_locus.specs.StartingPoints.{starting_point, starting_points}
use Rattle.root_locus.specs.Search.{tolerance, nowhere, horner, eval_poly, factor, differences, Round, moved, move_root, one_round, rounds, Run, begun, further, run}
use Rattle.root_locus.specs.Ending.{unless_nan, end_of}
use Rattle.root_locus.specs.declared.Roots.{Roots}
use Rattle.root_locus.specs.Roots.{padded, monic, searched, search_run, search_end, as_roots}

-- Horner's rule, one coefficient on
pub horner_next : (norm : List Float) (z acc : Complex) (k : ℕ) {w : Complex} → push_all (horner z) acc (drop k norm) ≡ w → k < length norm
    → push_all (horner z) (record { re = add binary64 (product acc z).re (get_or norm k nan); im = (product acc z).im }) (drop (k + 1) norm) ≡ w
unfolding horner
horner_next norm z acc k inv h = rw add-one (rw (drop-cons norm k nan h) at inv)

-- the product of the differences, one factor on, or none where j is i
module _ (z : List Complex) (i j : ℕ) (acc : Complex) where
  pub factor_taken : {d p : Complex} → (j ≡ i → ⊥) → d ≡ difference (get_or z i nowhere) (get_or z j nowhere) → p ≡ product acc d → p ≡ factor z i j acc
  unfolding factor
  factor_taken h e f = rw (ne_eqb j i h, f, e)

  pub factor_left : {p : Complex} → j ≡ i → p ≡ acc → p ≡ factor z i j acc
  unfolding factor
  factor_left h e = rw (eq-eqb j i h, e)

-- a round so far, by the square of its largest change
abbrev pub by_square : List Complex → Float → Round
by_square z s = record { roots = z; largest = sqrt_of s }

-- root i, skipped or moved
module _ (norm : List Float) (z : List Complex) (s : Float) (i : ℕ) {p denom : Complex} {d : Float}
    (ep : p ≡ eval_poly norm (get_or z i nowhere)) (ed : denom ≡ differences (length norm) z i) (es : d ≡ magnitude_sq denom) where
  pub root_skipped : lt d eps ≡ true → by_square z s ≡ move_root norm i (by_square z s)
  unfolding move_root small
  root_skipped t = rw (← ed, ← es, t)

  pub root_moved : {u w : Complex} {s' : Float} → Square s → lt d eps ≡ false → u ≡ quotient_or_zero p denom → s' ≡ greater itself s (magnitude_sq u)
      → w ≡ difference (get_or z i nowhere) u → by_square (set z i w) s' ≡ move_root norm i (by_square z s)
  unfolding move_root moved small quotient_or_zero
  root_moved {u} sq t eu em ew =
      let eu' = rw (← es, t, ep) at eu in
      rw (← ed, ← es, t, em, ew, root_greater sq u, eu')

-- ---- A round's outcome by its largest square: the tolerance is the root of 1e-24, and the value below that has a root below the tolerance.

-- 1e-24, which is 0x13_57c2_99a8_8ea7 units of 2 ^ -132, and the value below it, which is one less
abbrev square_tolerance : Float
square_tolerance = of_bits binary64 0x3af3_57c2_99a8_8ea7

abbrev square_below : Float
square_below = of_bits binary64 0x3af3_57c2_99a8_8ea6

tolerance_root : sqrt_of square_tolerance ≡ tolerance
unfolding sqrt_of of_bits
tolerance_root = refl

root_less : lt (sqrt_of square_below) (sqrt_of square_tolerance) ≡ true
unfolding lt sqrt_of of_bits
root_less = refl

pub below_tolerance : {s : Float} → Square s → lt (sqrt_of s) tolerance ≡ lt s square_tolerance
unfolding of_bits
below_tolerance {s} sq =
    rw (← tolerance_root)
    (root_below square_below square_tolerance 0x13_57c2_99a8_8ea6 942 (lit≤ tt) (refl, refl) (refl, refl) (of_bits-fits binary64 0x3af3_57c2_99a8_8ea6)
    (of_bits-fits binary64 0x3af3_57c2_99a8_8ea7) root_less s sq.fit sq.not_below)

-- round k of n, which leaves the roots z' and the largest square s
module _ (norm : List Float) (n : ℕ) (z : List Complex) (last : Float) {k : ℕ} {z' : List Complex} {s : Float} {w : Run}
    (inv : run norm (n - k) (record { roots = z; used = k; last = sqrt_of last }) ≡ w) (h : k < n)
    (sq : Square s) (e : by_square z' s ≡ one_round norm z) where
  pub round_more : lt s square_tolerance ≡ false → run norm (n - (k + 1)) (record { roots = z'; used = k + 1; last = sqrt_of s }) ≡ w
  unfolding run further
  round_more t =
      let f : n - k ≡ suc (n - (k + 1)) = omega arith in
      let t' = below_tolerance sq ∙ t in
      rw (f, ← e, t') at inv

  pub round_last : lt s square_tolerance ≡ true → ◌≡◌ {A = Run} (record { roots = z'; used = k + 1; last = sqrt_of s }) w
  unfolding run further
  round_last t =
      let f : n - k ≡ suc (n - (k + 1)) = omega arith in
      let t' = below_tolerance sq ∙ t in
      rw (f, ← e, t') at inv

pub rounds_done : (norm : List Float) (n : ℕ) (s : Run) {k : ℕ} {w : Run} → run norm (n - k) s ≡ w → n ≤ k → s ≡ w
unfolding run
rounds_done norm n s {k} inv h = let f : n - k ≡ zero = omega arith in rw f at inv

-- ---- no round adds a root or drops one
module _ (norm : List Float) where
  move_long : (i : ℕ) (s : Round) → length (move_root norm i s).roots ≡ length s.roots
  unfolding move_root moved
  move_long i s = grind (arith, length-set)

  moves_long : (n i : ℕ) (s : Round) → length (count_up (move_root norm) n i s).roots ≡ length s.roots
  unfolding count_up
  moves_long zero i s = refl
  moves_long (suc n) i s = moves_long n (suc i) (move_root norm i s) ∙ move_long i s

  further_long : (s : Run) → length (further norm s).roots ≡ length s.roots
  unfolding further one_round
  further_long s = moves_long (length norm) 0 (record { roots = s.roots; largest = f0 })

  pub run_long : (n : ℕ) (s : Run) → length (run norm n s).roots ≡ length s.roots
  unfolding run
  run_long zero s = refl
  run_long (suc n) s = let next = run_long n (further norm s) in let here = further_long s in grind (arith, next, here)

-- The roots that a run leaves are those of `rounds`.
pub run_roots : (norm : List Float) (n : ℕ) (s : Run) → (run norm n s).roots ≡ rounds norm n s.roots
unfolding run further rounds
run_roots norm zero s = refl
run_roots norm (suc n) s = let next = run_roots norm n (further norm s) in grind (arith, next)

-- ---- the search by its run
module _ (p : List Float) where
  -- as many starting points as the degree
  pub as_many : length (starting_points (degree_of p)) ≡ degree_of p
  unfolding starting_points
  as_many = length-up_to (starting_point (degree_of p)) (degree_of p)

  -- the roots of the run are the search's
  pub search_roots : (search_run p).roots ≡ searched p
  unfolding search_run searched
  search_roots = run_roots (monic p) 200 (begun (starting_points (degree_of p)))

  pub search_long : length (searched p) ≡ degree_of p
  unfolding search_run
  search_long = rw (← search_roots) (run_long (monic p) 200 (begun (starting_points (degree_of p))) ∙ as_many)

  -- what the search leaves in an array of eight that held its starting points
  pub search_left : (n : ℕ) → degree_of p ≡ n → let r = run (monic p) 200 (begun (starting_points n)) in let z = r.roots ++ replicate (8 - n) (from_real f0) in
      ◌≡◌ {A = Roots} (record { z = z; count = n; ending = unless_nan (take n z) (end_of r.used r.last) }) (as_roots (searched p) (search_end p))
  unfolding as_roots padded search_run search_end
  search_left n h = rw (← h, search_roots, search_long, take_at (searched p) (replicate (8 - degree_of p) (from_real f0)) (degree_of p) search_long)
