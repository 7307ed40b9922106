use Rattle.std.proofs.Common.{rules, arith, ◌∙◌, inl, inr}
use Rattle.nyquist.proofs.Blocks.{going_begin, going_taken, going_left, going_done}
use Rattle.nyquist.proofs.curve.Curve.nearest.Goals as goal

pub loop-re-init : goal.loop-re-init
loop-re-init c = record { can = search rules; finite = tt; going = going_begin (search rules) (cc) (cc) (cc) (cc) }

pub loop-re-preserved-then-square-lowest : goal.loop-re-preserved-then-square-lowest
loop-re-preserved-then-square-lowest c =
    let e = c.in-Some.ensures.steps in
    record {
      can = search rules;
      finite = tt;
      going = going_taken _ _ _ _ c.loop-re.invariant.going e.0.1.0 e.1.1.0 e.0.1.1 e.1.1.1 e.0.0 e.1.0 c.least_square-square.ensures c.if-square-lowest.true;
    }

pub loop-re-preserved : goal.loop-re-preserved
loop-re-preserved c =
    let e = c.in-Some.ensures.steps in
    record {
      can = search rules;
      finite = tt;
      going = going_left _ _ _ _ c.loop-re.invariant.going e.0.1.0 e.1.1.0 e.0.1.1 e.1.1.1 e.0.0 e.1.0 c.least_square-square.ensures c.if-square-lowest.false;
    }

pub returns : goal.returns
returns c =
    let s = c.loop-re.invariant.going in
    c.first_within.ensures
    ∙ elim c.in-None.ensures.steps [
      | inl u ↦ going_done s u.1.1.0
      | inr u ↦ let same = s.same in going_done s (omega (arith, u.1.1.0))
    ]
