use Rattle.std.proofs.Common.{◌≡◌, ◌-◌, drop}
use Rattle.sweep.specs.Scan.{first_pair}
use Rattle.sweep.proofs.first_crossing.Given as goal

-- the pairs from the last reading on say what the whole sweep says
abbrev pub invariant-loop-i : goal.invariant-loop-i
invariant-loop-i g l =
    first_pair (g.C.Crossing.pair l.crossing) (drop (l.i - 1) (g.S.Readings.readings l.sweep))
    ≡ first_pair (g.C.Crossing.pair l.crossing) (g.S.Readings.readings l.sweep)
