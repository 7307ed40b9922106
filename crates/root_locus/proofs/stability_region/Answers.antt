use Rattle.std.proofs.Common.{◌≡◌, ◌<◌, ◌≤◌, min, length, refl, arith, rules}
use Rattle.root_locus.specs.Stability.{stable}
use Rattle.root_locus.proofs.Poles.{pole_inside, pole_outside, poles_done}
use Rattle.root_locus.proofs.stability_region.Goals as goal

pub loop-i-init : goal.loop-i-init
unfolding stable
loop-i-init c = refl

pub returns-then-magnitude_sq : goal.returns-then-magnitude_sq
returns-then-magnitude_sq c =
    let long : length c.args.poles ≡ 8 = search rules in
    let here : c.loop-i.i < min c.args.count 8 = search rules in
    pole_outside _ (min c.args.count 8) _ (omega (arith, long)) c.loop-i.invariant here c.magnitude_sq.ensures c.if-magnitude_sq.true

pub loop-i-preserved : goal.loop-i-preserved
loop-i-preserved c =
    let long : length c.args.poles ≡ 8 = search rules in
    let here : c.loop-i.i < min c.args.count 8 = search rules in
    pole_inside _ (min c.args.count 8) _ (omega (arith, long)) c.loop-i.invariant here c.magnitude_sq.ensures c.if-magnitude_sq.false

pub returns : goal.returns
returns c =
    let long : length c.args.poles ≡ 8 = search rules in
    let past : min c.args.count 8 ≤ c.loop-i.i = search rules in
    poles_done _ (min c.args.count 8) _ (omega (arith, long)) c.loop-i.invariant past
