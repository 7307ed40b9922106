use Rattle.vectors.proofs.Input.skip.Given as goal
use Rattle.vectors.specs.Ended.{Ended}

abbrev pub invariant-loop : goal.invariant-loop
invariant-loop l = Ended l.initial.self l.self
