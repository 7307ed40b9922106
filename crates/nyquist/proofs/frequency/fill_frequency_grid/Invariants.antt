use Rattle.std.proofs.Common.{take, ◌≡◌}
use Rattle.laws.specs.Loops.{filled}
use Rattle.nyquist.specs.Frequency.{frequency_at}
use Rattle.nyquist.proofs.frequency.fill_frequency_grid.Given as goal

abbrev pub invariant-loop-i : goal.invariant-loop-i
invariant-loop-i l = l.place-items ≡ filled (frequency_at l.omega_max l.n) (take l.n l.fn.list) l.i
