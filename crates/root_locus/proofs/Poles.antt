-- The stability test over the first n poles, from pole i on. Assumes nothing.
use Rattle.std.proofs.Common.{◌≡◌, ℕ, ◌+◌, ◌<◌, ◌≤◌, Bool, true, false, List, length, get_or, take, drop}
use lib.Ieee.{Float, le}
use Rattle.scalar.specs.Scalar.{f1}
use Rattle.complex.specs.declared.Complex.{Complex}
use Rattle.complex.specs.Complex.{magnitude_sq}
use Rattle.root_locus.specs.Search.{nowhere}
use Rattle.root_locus.specs.Stability.{outside, none_outside}
use Rattle.root_locus.proofs.Lists.{first_next, first_end}

module _ (poles : List Complex) (n i : ℕ) {w : Bool} (h : n ≤ length poles) (inv : none_outside (drop i (take n poles)) ≡ w) where
  module _ {m : Float} (k : i < n) (e : m ≡ magnitude_sq (get_or poles i nowhere)) where
    pub pole_inside : le f1 m ≡ false → none_outside (drop (i + 1) (take n poles)) ≡ w
    unfolding none_outside outside
    pole_inside t = rw (← e, t) at (first_next none_outside poles n i h inv nowhere k)

    pub pole_outside : le f1 m ≡ true → false ≡ w
    unfolding none_outside outside
    pole_outside t = rw (← e, t) at (first_next none_outside poles n i h inv nowhere k)

  pub poles_done : n ≤ i → true ≡ w
  unfolding none_outside
  poles_done k = first_end none_outside poles n i h inv k
