use Rattle.std.proofs.Common.{arith}
use Rattle.sweep.proofs.Answers.{grid_turned_away}
use Rattle.root_locus.specs.Gain.{gain_at, gain_outcome, gain_grid}
use Rattle.root_locus.proofs.fill_gain_grid.Goals as goal

pub returns-in_err-check_grid : goal.returns-in_err-check_grid
unfolding gain_outcome gain_grid
returns-in_err-check_grid c =
    let h = grid_turned_away _ c.in_err-check_grid.ensures (gain_at c.args.k_max c.args.n) c.args.n c.args.list.now in
    grind (arith, h)
