use Rattle.vectors.proofs.Input.next_are.Given as goal
use Rattle.vectors.specs.Ended.{Ended}

abbrev pub invariant-loop-word : goal.invariant-loop-word
invariant-loop-word l = Ended l.initial.self l.self
