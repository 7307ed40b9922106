use Rattle.std.proofs.Common.{arith}
use Rattle.sweep.proofs.Answers.{grid_turned_away}
use Rattle.nyquist.specs.Frequency.{frequency_at, frequency_outcome, frequency_grid}
use Rattle.nyquist.proofs.frequency.fill_frequency_grid.Goals as goal

pub returns-in_err-check_grid : goal.returns-in_err-check_grid
unfolding frequency_outcome frequency_grid
returns-in_err-check_grid c =
    let h = grid_turned_away _ c.in_err-check_grid.ensures (frequency_at c.args.omega_max c.args.n) c.args.n c.args.list.now in
    grind (arith, h)
