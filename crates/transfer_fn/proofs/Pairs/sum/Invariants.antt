use Prim.Native.Nat.{◌≤◌}
use mathlib.Core.Path.{◌≡◌}
use Rattle.scalar.specs.Scalar.{f0}
use Rattle.transfer_fn.specs.Evaluation.{sum_up, term_of}
use Rattle.transfer_fn.proofs.Pairs.sum.Given as goal

abbrev pub invariant-loop-k : goal.invariant-loop-k
invariant-loop-k l = (l.k ≤ l.n) × ((l.re ≡ sum_up l.start (term_of l.coefficients l.self.cosines.now l.first) l.k) × (l.im ≡ sum_up f0 (term_of l.coefficients l.self.sines.now l.first) l.k))
