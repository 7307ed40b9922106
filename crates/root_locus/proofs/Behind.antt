-- Roots with a tail behind them that the search leaves alone: what docs/requests/W1.md names, and no proof here needs. Assumes nothing.
use Rattle.std.proofs.Common.{◌≡◌, ℕ, zero, suc, ◌+◌, ◌<◌, ◌≤◌, Bool, true, false, cond, List, ◌++◌, length, get_or, refl, ◌∙◌, arith, length-set}
use lib.ListN.{get_or-append}
use lib.Seq.{set-append_left}
use lib.Ieee.{Float, lt}
use Rattle.laws.specs.Loops.{count_up}
use Rattle.scalar.specs.Scalar.{f0}
use Rattle.complex.specs.declared.Complex.{Complex}
use Rattle.complex.specs.Complex.{from_real, difference, small, ratio}
use Rattle.root_locus.specs.Search.{tolerance, nowhere, eval_poly, factor, differences, Round, moved, move_root, one_round, Run, further, run}

-- ---- a loop whose steps are the same in the range that it runs over
up_same : {A : Type 0} (f g : ℕ → A → A) (n i : ℕ) (a : A) → ((k : ℕ) (x : A) → k < i + n → f k x ≡ g k x) → count_up f n i a ≡ count_up g n i a
unfolding count_up
up_same f g zero i a h = refl
up_same f g (suc n) i a h = rw (h i a (omega arith)) (up_same f g n (suc i) (g i a) (λ k x l. h k x (omega arith)))

-- ---- roots with a tail behind them that the search leaves alone
module _ (norm : List Float) (tail : List Complex) where
  abbrev behind : Round → Round
  behind s = record { roots = s.roots ++ tail; largest = s.largest }

  differences_behind : (zs : List Complex) (d i : ℕ) → d ≤ length zs → i < length zs → differences d (zs ++ tail) i ≡ differences d zs i
  unfolding differences factor
  differences_behind zs d i h l =
      up_same (factor (zs ++ tail) i) (factor zs i) d 0 (from_real _)
      (λ k x m. rw (get_or-append zs tail nowhere i l, get_or-append zs tail nowhere k (omega arith)))

  module _ (i : ℕ) (s : Round) (long : length s.roots ≡ length norm) (h : i < length norm) where
    moved_behind : (u : Complex) → moved i u (behind s) ≡ behind (moved i u s)
    unfolding moved
    moved_behind u =
        rw (get_or-append s.roots tail nowhere i (omega arith), set-append_left s.roots tail i (difference (get_or s.roots i nowhere) u) (omega arith))

    move_behind : move_root norm i (behind s) ≡ behind (move_root norm i s)
    unfolding move_root
    move_behind =
        rw (differences_behind s.roots (length norm) i (omega arith) (omega arith), get_or-append s.roots tail nowhere i (omega arith))
        (go (small (differences (length norm) s.roots i)) (ratio (eval_poly norm (get_or s.roots i nowhere)) (differences (length norm) s.roots i)))
      where
        go : (b : Bool) (u : Complex) → cond b (behind s) (moved i u (behind s)) ≡ behind (cond b s (moved i u s))
        go true u = refl
        go false u = moved_behind u

    move_long : length (move_root norm i s).roots ≡ length norm
    unfolding move_root moved
    move_long =
        go (small (differences (length norm) s.roots i)) (ratio (eval_poly norm (get_or s.roots i nowhere)) (differences (length norm) s.roots i))
      where
        go : (b : Bool) (u : Complex) → length (cond b s (moved i u s)).roots ≡ length norm
        go true u = long
        go false u = length-set s.roots i _ ∙ long

  -- n moves from root i on
  moves_behind : (n i : ℕ) (s : Round) → length s.roots ≡ length norm → i + n ≤ length norm → count_up (move_root norm) n i (behind s) ≡ behind (count_up (move_root norm) n i s)
  unfolding count_up
  moves_behind zero i s e h = refl
  moves_behind (suc n) i s e h =
      rw (move_behind i s e (omega arith)) (moves_behind n (suc i) (move_root norm i s) (move_long i s e (omega arith)) (omega arith))

  moves_long : (n i : ℕ) (s : Round) → length s.roots ≡ length norm → i + n ≤ length norm → length (count_up (move_root norm) n i s).roots ≡ length norm
  unfolding count_up
  moves_long zero i s e h = e
  moves_long (suc n) i s e h = moves_long n (suc i) (move_root norm i s) (move_long i s e (omega arith)) (omega arith)

  -- a round, and up to n of them
  round_behind : (zs : List Complex) → length zs ≡ length norm → one_round norm (zs ++ tail) ≡ behind (one_round norm zs)
  unfolding one_round
  round_behind zs e = moves_behind (length norm) 0 (record { roots = zs; largest = f0 }) e (omega arith)

  round_long : (zs : List Complex) → length zs ≡ length norm → length (one_round norm zs).roots ≡ length norm
  unfolding one_round
  round_long zs e = moves_long (length norm) 0 (record { roots = zs; largest = f0 }) e (omega arith)

  pub run_long : (n : ℕ) (s : Run) → length s.roots ≡ length norm → length (run norm n s).roots ≡ length norm
  unfolding run further
  run_long zero s e = e
  run_long (suc n) s e =
      let t = further norm s in
      let e' = round_long s.roots e in
      go (lt t.last tolerance) t e' (run_long n t e')
    where
      go : (b : Bool) (t : Run) → length t.roots ≡ length norm → length (run norm n t).roots ≡ length norm → length (cond b t (run norm n t)).roots ≡ length norm
      go true t e f = e
      go false t e f = f

  abbrev run_behind : Run → Run
  run_behind s = record { roots = s.roots ++ tail; used = s.used; last = s.last }

  pub run_behind_lem : (n : ℕ) (s : Run) → length s.roots ≡ length norm → run norm n (run_behind s) ≡ run_behind (run norm n s)
  unfolding run further
  run_behind_lem zero s e = refl
  run_behind_lem (suc n) s e =
      let t = further norm s in
      rw (round_behind s.roots e) (go (lt t.last tolerance) t (run_behind_lem n t (round_long s.roots e)))
    where
      go : (b : Bool) (t : Run) → run norm n (run_behind t) ≡ run_behind (run norm n t) → cond b (run_behind t) (run norm n (run_behind t)) ≡ run_behind (cond b t (run norm n t))
      go true t e = refl
      go false t e = e
