-- A scan says "none" exactly when no two neighbours cross, and a book's bandwidth is "not kept" exactly under the mark. Assumes nothing.
use mathlib.Core.Path.{◌≡◌, refl}
use mathlib.Core.Bool.{Bool, true, false}
use mathlib.Core.List.{List}
use native.Mathlib.Omega.{arith}
use Rattle.laws.specs.Outcome.{none}
use Rattle.sweep.specs.Answer.{crossing_outcome, not_kept}
use Rattle.sweep.specs.Scan.{Neighbours}
use Rattle.sweep.proofs.Answers.{crossing_none, crossing_kept}
use Rattle.sweep.proofs.Scans.{none_crosses, crosses_none}
use Rattle.sensitivity.specs.Scans.{equal_between, equal_crosses, equal_pair, sensitivity_crossover, level_of, drop_between, drops, drop_pair, bandwidth_of}
use Rattle.sensitivity.specs.Summary.{bandwidth_outcome}
use Rattle.sensitivity.specs.declared.Reading.{Reading}

module _ (l : List Reading) where
  pub no_crossover_in : crossing_outcome (sensitivity_crossover l) ≡ none → (x y : Reading) → Neighbours l x y → equal_crosses x y ≡ false
  unfolding sensitivity_crossover equal_pair
  no_crossover_in = none_crosses equal_crosses equal_between equal_pair (λ x y. refl) l

  pub none_of_crossover : ((x y : Reading) → Neighbours l x y → equal_crosses x y ≡ false) → crossing_outcome (sensitivity_crossover l) ≡ none
  unfolding sensitivity_crossover equal_pair
  none_of_crossover = crosses_none equal_crosses equal_between equal_pair (λ x y. refl) l

  pub no_bandwidth_in : crossing_outcome (bandwidth_of l) ≡ none → (x y : Reading) → Neighbours l x y → drops (level_of l) x y ≡ false
  unfolding bandwidth_of drop_pair
  no_bandwidth_in = none_crosses (drops (level_of l)) (drop_between (level_of l)) (drop_pair (level_of l)) (λ x y. refl) l

  pub none_of_bandwidth : ((x y : Reading) → Neighbours l x y → drops (level_of l) x y ≡ false) → crossing_outcome (bandwidth_of l) ≡ none
  unfolding bandwidth_of drop_pair
  none_of_bandwidth = crosses_none (drops (level_of l)) (drop_between (level_of l)) (drop_pair (level_of l)) (λ x y. refl) l

-- ---- the bandwidth of a book under a mark: 101 exactly under it, and 100 only without it

pub under_mark : (m : Bool) (l : List Reading) → m ≡ true → bandwidth_outcome m l ≡ not_kept
unfolding bandwidth_outcome
under_mark m l h = rw h

pub without_mark : (m : Bool) (l : List Reading) → m ≡ false → bandwidth_outcome m l ≡ crossing_outcome (bandwidth_of l)
unfolding bandwidth_outcome
without_mark m l h = rw h

pub only_under_mark : (m : Bool) (l : List Reading) → (bandwidth_outcome m l).number ≡ 101 → m ≡ true
unfolding bandwidth_outcome
only_under_mark true l h = refl
only_under_mark false l h = absurd (crossing_kept (bandwidth_of l) h)

pub none_unmarked : (m : Bool) (l : List Reading) → (bandwidth_outcome m l).number ≡ 100 → crossing_outcome (bandwidth_of l) ≡ none
unfolding bandwidth_outcome
none_unmarked true l h = absurd (omega arith)
none_unmarked false l h = crossing_none (bandwidth_of l) h
