-- A scan says "none" exactly when no two neighbours cross. Assumes nothing.
use mathlib.Core.Path.{◌≡◌}
use mathlib.Core.Bool.{false}
use mathlib.Core.List.{List}
use Rattle.laws.specs.Outcome.{none}
use Rattle.sweep.specs.Answer.{crossing_outcome}
use Rattle.sweep.specs.Scan.{Neighbours}
use Rattle.sweep.proofs.Scans.{none_crosses, crosses_none}
use Rattle.bode.specs.Bode.{Crossover, between_of, crosses_of, pair_of, crossover_of}
use Rattle.bode.specs.declared.Reading.{Reading}
use Rattle.bode.proofs.Crossovers.{pair_is, crossover_is}

module _ (which : Crossover) (l : List Reading) where
  pub no_crossover_in : crossing_outcome (crossover_of which l) ≡ none → (x y : Reading) → Neighbours l x y → crosses_of which x y ≡ false
  no_crossover_in h = none_crosses (crosses_of which) (between_of which) (pair_of which) (pair_is which) l (rw (crossover_is which l) at h)

  pub none_of_crossover : ((x y : Reading) → Neighbours l x y → crosses_of which x y ≡ false) → crossing_outcome (crossover_of which l) ≡ none
  none_of_crossover h = rw (crossover_is which l) (crosses_none (crosses_of which) (between_of which) (pair_of which) (pair_is which) l h)
