use Rattle.std.proofs.Common.{◌≡◌, min, take, drop}
use Rattle.root_locus.specs.Stability.{none_outside, stable}
use Rattle.root_locus.proofs.stability_region.Given as goal

-- no pole from place i on is outside exactly where none is at all
abbrev pub invariant-loop-i : goal.invariant-loop-i
invariant-loop-i l = none_outside (drop l.i (take (min l.count 8) l.poles)) ≡ stable l.poles l.count
