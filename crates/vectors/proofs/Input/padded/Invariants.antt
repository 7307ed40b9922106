use Rattle.vectors.proofs.Input.padded.Given as goal
use Rattle.vectors.specs.Ended.{Ended}

abbrev pub invariant-loop-i : goal.invariant-loop-i
invariant-loop-i l = Ended l.fn.self l.self
