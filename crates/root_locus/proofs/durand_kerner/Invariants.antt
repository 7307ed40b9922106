use Rattle.std.proofs.Common.{◌≡◌, ◌-◌}
use Rattle.laws.specs.Loops.{count_up}
use Rattle.root_locus.specs.Search.{factor, differences, move_root, one_round, begun, run}
use Rattle.scalar.specs.Sqrt.{sqrt_of}
use Rattle.complex.proofs.Squares.{Square}
use Rattle.root_locus.proofs.Rounds.{by_square}
use Rattle.root_locus.proofs.durand_kerner.Given as goal

abbrev pub invariant-loop-j : goal.invariant-loop-j
invariant-loop-j l = count_up (factor l.z l.i) (l.degree - l.j) l.j l.denom ≡ differences l.degree l.z l.i

abbrev pub invariant-roots : goal.invariant-roots
invariant-roots l =
    (count_up (move_root l.norm) (l.degree - l.i) l.i (by_square l.z l.max_square) ≡ one_round l.norm l.initial.z) × Square l.max_square

abbrev pub invariant-rounds : goal.invariant-rounds
invariant-rounds l = (l.used ≡ l.round) × (run l.norm (200 - l.round) (record { roots = l.z; used = l.round; last = sqrt_of l.last_square }) ≡ run l.norm 200 (begun l.initial.z))
