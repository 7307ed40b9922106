use Rattle.std.proofs.Common.{rules, ap, ◌∙◌}
use Rattle.std.proofs.lemmas.Slice.Zip.{Zip-more, either_empty_from_Zip}
use Rattle.laws.proofs.Choice.{itself, least_from}
use Rattle.nyquist.specs.Curve.{infinity, point_square, least_square}
use Rattle.nyquist.proofs.Scan.{least_taken, least_left, points_ended, points_as_long}
use Rattle.nyquist.proofs.curve.Curve.least_square.Goals as goal

pub loop-re-init : goal.loop-re-init
unfolding least_square
loop-re-init c = record { can = search rules; finite = tt; left = ap (least_from itself point_square infinity) (points_as_long _ _ _ _ (search rules) (search rules) c.args.self.now.same) }

pub loop-re-preserved-then-square-least : goal.loop-re-preserved-then-square-least
loop-re-preserved-then-square-least c =
    let m = Zip-more c.loop-re.re-iterator c.next.new.self c.next.result _ c.in-Some.is c.next.ensures.steps in
    record { can = search rules; finite = tt; left = least_taken _ _ _ _ _ c.point_square-square.ensures c.new.ensures c.if-square-least.true ∙ (rw (m.0, m.1) at c.loop-re.invariant.left) }

pub loop-re-preserved : goal.loop-re-preserved
loop-re-preserved c =
    let m = Zip-more c.loop-re.re-iterator c.next.new.self c.next.result _ c.in-Some.is c.next.ensures.steps in
    record { can = search rules; finite = tt; left = least_left _ _ _ _ _ c.point_square-square.ensures c.new.ensures c.if-square-least.false ∙ (rw (m.0, m.1) at c.loop-re.invariant.left) }

pub returns : goal.returns
returns c =
    let e = points_ended _ _ (either_empty_from_Zip c.loop-re.re-iterator c.next.new.self c.next.result c.in-None.is c.next.ensures.steps) in
    rw e at c.loop-re.invariant.left
