use Rattle.std.proofs.Common.{take, ◌≡◌}
use Rattle.laws.specs.Loops.{filled}
use Rattle.root_locus.specs.Gain.{gain_at}
use Rattle.root_locus.proofs.fill_gain_grid.Given as goal

abbrev pub invariant-loop-i : goal.invariant-loop-i
invariant-loop-i l = l.place-items ≡ filled (gain_at l.k_max l.n) (take l.n l.fn.list) l.i
