-- The ends of one list behind another, and the first crossing. Assumes nothing.
use Rattle.std.proofs.Common.{◌≡◌, List, ◌++◌, Option, Float}
use Rattle.sweep.specs.Scan.{or_else, first_pair}
use Rattle.sweep.specs.Ends.{ends_of, ends_behind, crossing_between}
use Rattle.sweep.proofs.Scans.{some_append, first_behind, last_behind, crossing_behind}

module _ {R : Type 0} (other : R) where
  pub ends-append : (l k : List R) → ends_behind (ends_of other l) (ends_of other k) ≡ ends_of other (l ++ k)
  ends-append l k = λ i. record { read = some_append l k i; first = first_behind other l k i; last = last_behind other l k i }

  pub crossing-append : (p : R → R → Option Float) (l k : List R)
      → or_else (or_else (first_pair p l) (crossing_between p (ends_of other l) (ends_of other k))) (first_pair p k) ≡ first_pair p (l ++ k)
  crossing-append p l k = crossing_behind other p l k
