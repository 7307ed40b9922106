use Rattle.std.proofs.Common.{◌≡◌, IsSome}
use Rattle.vectors.proofs.Replay.run.Given as goal

abbrev pub invariant-loop : goal.invariant-loop
invariant-loop g l = goal.F-IsAlwaysCallable g l.answer × (IsSome l.initial.self.input.failed → l.self ≡ l.initial.self)
