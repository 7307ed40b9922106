use mathlib.Core.Path.{refl}
use borrow.Author.Rules.{rules}
use Rattle.laws.proofs.Loops.{arrived}
use Rattle.transfer_fn.specs.Evaluation.{sum_up, term_of, pair_sum}
use Rattle.transfer_fn.proofs.Sums.{sum_none, sum_more}
use Rattle.transfer_fn.proofs.Pairs.sum.Goals as goal

pub loop-k-init : goal.loop-k-init
loop-k-init c = (search rules, (sum_none _ _, sum_none _ _))

pub loop-k-preserved : goal.loop-k-preserved
unfolding term_of
loop-k-preserved c =
    let inv = c.loop-k.invariant in
    (search rules, (sum_more _ _ inv.1.0 refl, sum_more _ _ inv.1.1 refl))

pub returns : goal.returns
unfolding pair_sum
returns c =
    let inv = c.loop-k.invariant in
    rw (arrived (sum_up _ _) inv.1.0 inv.0 (search rules), arrived (sum_up _ _) inv.1.1 inv.0 (search rules))
