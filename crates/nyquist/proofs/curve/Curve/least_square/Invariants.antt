use Rattle.std.proofs.Common.{◌≡◌}
use Rattle.std.specs.Iterator.Adapters.{zip_first, zip_second}
use Rattle.std.specs.Slice.Iter.{iter_rest}
use Rattle.laws.proofs.Choice.{itself, least_from}
use Rattle.nyquist.specs.Curve.{points, point_square, least_square}
use Rattle.nyquist.proofs.curve.Curve.least_square.Given as goal

-- the least of what was passed and what is left
abbrev pub invariant-loop-re : goal.invariant-loop-re
invariant-loop-re l = record {
  can : (goal.iterator-loop-re).can_next l.re-iterator;
  finite : (goal.iterator-loop-re).is_finite l.re-iterator;
  left : least_from itself point_square l.least (points (iter_rest (zip_first l.re-iterator)) (iter_rest (zip_second l.re-iterator)))
      ≡ least_square (points l.self.re.now l.self.im.now);
}
