use Rattle.std.proofs.Common.{◌≡◌, ◌-◌, drop}
use Rattle.sweep.specs.Scan.{first_pair}
use Rattle.bode.specs.Bode.{pair_of, crossover_of}
use Rattle.panel.specs.Scanning.{read}
use Rattle.panel.proofs.Scanning.{Aside}
use Rattle.panel.proofs.first_crossing.Given as goal

-- the pairs from the last reading on say what all of them say, and it lies on the side
abbrev pub invariant-loop-i : goal.invariant-loop-i
invariant-loop-i g l =
    (first_pair (pair_of g.T.Told.which) (drop (l.i - 1) (read l.readings.readings.now)) ≡ crossover_of g.T.Told.which (read l.readings.readings.now))
    × Aside g.T.Told.which l.side l.readings.readings.now (l.i - 1)
