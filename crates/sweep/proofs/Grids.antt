-- Filling a grid into a lent list, whatever the grid's points are: what conditions that are passed mean, and what the loop keeps. Assumes nothing.
use Prim.Native.Nat.{ℕ, ◌^◌, ◌≤◌, ◌<◌}
use mathlib.Core.Path.{◌≡◌, sym, ap, ◌∙◌}
use mathlib.Core.List.{List, [], ◌++◌, append-nil}
use native.Mathlib.Omega.{arith}
use borrow.Author.Tests.{ltb-false}
use lib.IntN.{pos}
use lib.Dec.{T, ltb, le→leb}
use lib.ListN.{length, take, drop}
use lib.Seq.{length-take-le}
use lib.Ieee.{Float, le, binary64, in_float}
use Rattle.std.proofs.lemmas.List.{drop_all}
use Rattle.laws.specs.Loops.{up_to, filled}
use Rattle.laws.proofs.Outcome.{when_passed}
use Rattle.laws.proofs.Loops.{arrived}
use Rattle.scalar.specs.Scalar.{f0}
use Rattle.sweep.specs.Refusal.{grid_refusal}
use Rattle.sweep.specs.Answer.{gridded}

-- a grid of n points, with so much room
record Roomy (n room : ℕ) : Type 0 where
  two : 2 ≤ n
  most : n ≤ 4096
  fit : n ≤ room

roomy : (range n : ℕ) (top : Float) (room : ℕ) → 0 < range → 0 ≡ grid_refusal range n top room → Roomy n room
unfolding grid_refusal
roomy range n top room p h =
    let few = when_passed (ltb n 2) 1 (omega arith) (sym h) in
    let low = when_passed (le top f0) range p few.1 in
    let many = when_passed (ltb 4096 n) 15 (omega arith) low.1 in
    let short = when_passed (ltb room n) 14 (omega arith) many.1 in
    record { two = ltb-false n 2 few.0; most = ltb-false 4096 n many.0; fit = ltb-false room n short.0 }

-- such a grid in the lent list l, whose first n places are filled by g
module _ (range n : ℕ) (top : Float) (l : List Float) (p : 0 < range) (h : 0 ≡ grid_refusal range n top (length l)) where
  pub grid_two : 2 ≤ n
  grid_two = (roomy range n top (length l) p h).two

  pub grid_most : n ≤ 4096
  grid_most = (roomy range n top (length l) p h).most

  pub grid_fits : n ≤ length l
  grid_fits = (roomy range n top (length l) p h).fit

  pub grid_places : n ≡ length (take n l)
  grid_places = sym (length-take-le n l grid_fits)

  pub grid_filled : (g : ℕ → Float) {k : List Float} {i : ℕ} → k ≡ filled g (take n l) i → i ≤ n → n ≤ i → k ++ drop n l ≡ gridded (grid_refusal range n top (length l)) g n l
  unfolding filled gridded
  grid_filled g {k} e most least =
      let none : drop n (take n l) ≡ [] = drop_all n (take n l) (omega (arith, grid_places)) in
      let is : k ≡ up_to g n ++ drop n (take n l) = arrived (filled g (take n l)) e most least in
      rw (← h) (ap (λ (m : List Float). m ++ drop n l) (is ∙ rw none (append-nil (up_to g n))))

-- a number of points is a whole number that the format has
pub exact : (n : ℕ) → n ≤ 4096 → T (in_float binary64 (pos n))
unfolding in_float
exact n h = le→leb n (2 ^ 53) (omega arith)
