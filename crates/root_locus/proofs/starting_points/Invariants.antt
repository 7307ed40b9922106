use Rattle.std.proofs.Common.{◌≡◌, ◌≤◌}
use Rattle.laws.specs.Loops.{filled}
use Rattle.root_locus.specs.StartingPoints.{starting_point}
use Rattle.root_locus.proofs.Padding.{eight_zeros}
use Rattle.root_locus.proofs.starting_points.Given as goal

abbrev pub invariant-loop-i : goal.invariant-loop-i
invariant-loop-i l = (l.i ≤ l.degree) × (l.z ≡ filled (starting_point l.degree) eight_zeros l.i)
