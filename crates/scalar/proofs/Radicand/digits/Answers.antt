use Rattle.std.proofs.Common.{arith}
use Rattle.scalar.proofs.WholeRoot.{nearest_is}
use Rattle.scalar.proofs.Radicand.digits.Goals as goal

pub returns-in-Some : goal.returns-in-Some
returns-in-Some c =
    let r = c.args.self in
    nearest_is r.significand r.guess r.digits.0 r.digits.1 (omega (arith, c.in-Some.ensures)) (omega (arith, c.in-Some.ensures, c.if-over-guess.true))

pub returns-in_default : goal.returns-in_default
returns-in_default c =
    let r = c.args.self in
    nearest_is r.significand c.nearest_beside.result r.digits.0 r.digits.1 c.nearest_beside.ensures.1 c.nearest_beside.ensures.0
