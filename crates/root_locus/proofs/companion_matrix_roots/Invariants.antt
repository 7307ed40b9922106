use Rattle.std.proofs.Common.{◌≡◌, ◌≤◌, ◌∷◌, length}
use Rattle.laws.specs.Loops.{filled}
use Rattle.root_locus.specs.Roots.{quotient_at}
use Rattle.root_locus.proofs.companion_matrix_roots.Given as goal

abbrev pub invariant-loop-i : goal.invariant-loop-i
invariant-loop-i l = (l.i ≤ length l.rest) × (l.norm ≡ filled (quotient_at (l.lead ∷ l.rest)) l.initial.norm l.i)
