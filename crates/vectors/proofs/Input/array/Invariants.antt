use Rattle.vectors.proofs.Input.array.Given as goal
use Rattle.vectors.specs.Ended.{Ended}

abbrev pub invariant-loop-place : goal.invariant-loop-place
invariant-loop-place g l = Ended l.initial.self l.self
