use Rattle.std.proofs.Common.{◌≡◌, refl, ap, ◌∙◌}
use Rattle.laws.proofs.Loops.{up_begin, up_next, up_end}
use Rattle.root_locus.specs.Search.{Run, one_round, begun, run}
use Rattle.laws.specs.Choice.{greater}
use Rattle.laws.proofs.Choice.{itself, greater_taken, greater_left}
use Rattle.scalar.specs.Sqrt.{sqrt_of}
use Rattle.complex.proofs.Squares.{no_root, no_square, square_greater}
use Rattle.root_locus.proofs.Rounds.{factor_taken, factor_left, root_skipped, root_moved, round_more, round_last, rounds_done}
use Rattle.root_locus.proofs.durand_kerner.Goals as goal
use Rattle.root_locus.proofs.durand_kerner.Goals.{then-j-i, else-j-i, then-square-max_square, else-square-max_square, else-rounds-test, then-rounds-test+else-roots-test+then-max_square}

pub loop-j-preserved : goal.loop-j-preserved
loop-j-preserved c =
    up_next _ _ c.loop-j.invariant c.loop-j-test.true
    (elim c.if-j-i.branch [
      | then-j-i w ↦ factor_taken _ _ _ _ w.if-j-i.true w.sub.ensures (w.denom-is ∙ w.multiply-denom.ensures)
      | else-j-i w ↦ factor_left _ _ _ _ w.if-j-i.false w.denom-is
    ])

pub roots-init : goal.roots-init
unfolding one_round
roots-init c = (up_begin _ _ (rw (← no_root) refl), no_square)

pub roots-preserved-then-magnitude_sq : goal.roots-preserved-then-magnitude_sq
roots-preserved-then-magnitude_sq c = (
  up_next _ _ c.roots.invariant.0 c.roots-test.true
      (root_skipped _ _ _ _ c.eval_poly_complex-p_val.ensures (up_end _ _ c.loop-j.invariant c.loop-j-test.false) c.magnitude_sq.ensures c.if-magnitude_sq.true),
  c.roots.invariant.1,
)

pub roots-preserved : goal.roots-preserved
roots-preserved c =
    let sq = c.roots.invariant.1 in
    let larger : _ ≡ greater itself _ _ =
    elim c.if-square-max_square.branch [
      | then-square-max_square w ↦ w.max_square-is ∙ greater_taken itself _ _ w.if-square-max_square.true
      | else-square-max_square w ↦ w.max_square-is ∙ greater_left itself _ _ w.if-square-max_square.false
    ] in
    let larger' = rw c.magnitude_sq-square.ensures at larger in (
      up_next _ _ c.roots.invariant.0 c.roots-test.true
          (root_moved _ _ _ _ c.eval_poly_complex-p_val.ensures (up_end _ _ c.loop-j.invariant c.loop-j-test.false)
          c.magnitude_sq.ensures sq c.if-magnitude_sq.false c.divide_or_zero-update.ensures larger' c.sub-in-roots.ensures),
      rw larger' (square_greater sq _),
    )

pub rounds-init : goal.rounds-init
rounds-init c = (refl, rw (← no_root) refl)

pub rounds-preserved : goal.rounds-preserved
rounds-preserved c =
    let inv = c.rounds.invariant in
    let roots = c.roots.invariant in
    (refl, round_more _ 200 _ _ inv.1 c.rounds-test.true roots.1 (up_end _ _ roots.0 c.roots-test.false) c.if-max_square.false)

pub returns : goal.returns
returns c =
    let left = c.rounds-test in
    let inv = c.rounds.invariant in
    let args = c.args in
    let ran : ◌≡◌ {A = Run} (record { roots = left.z; used = left.used; last = sqrt_of left.last_square }) (run args.norm.now 200 (begun args.z.now)) =
    elim left.branch [
      | else-rounds-test w ↦ rw (w.z-is, w.used-is, w.last_square-is, inv.0) (rounds_done _ 200 _ inv.1 w.rounds-test.false)
      | then-rounds-test+else-roots-test+then-max_square w ↦
          let e = up_end _ _ w.roots.invariant.0 w.roots-test.false in
          rw (w.z-is, w.used-is, w.last_square-is) (round_last _ 200 _ _ inv.1 w.rounds-test.true w.roots.invariant.1 e w.if-max_square.true)
    ] in
    record { roots = ap (λ (r : Run). r.roots) ran; ending = rw (c.of_rounds.ensures, c.sqrt.ensures, ← ran) }
