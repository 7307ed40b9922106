use Rattle.std.specs.Iterator.Adapters.{zip_first, zip_second}
use Rattle.std.specs.Slice.Iter.{chunks_rest, chunks_size}
use Rattle.nyquist.proofs.Blocks.{Going}
use Rattle.nyquist.proofs.curve.Curve.nearest.Given as goal

abbrev pub invariant-loop-re : goal.invariant-loop-re
invariant-loop-re l = record {
  can : (goal.iterator-loop-re).can_next l.re-iterator;
  finite : (goal.iterator-loop-re).is_finite l.re-iterator;
  going : Going l.self.re.now l.self.im.now l.lowest l.deciding.0.now l.deciding.1.0.now
      (chunks_size (zip_first l.re-iterator)) (chunks_size (zip_second l.re-iterator))
      (chunks_rest (zip_first l.re-iterator)) (chunks_rest (zip_second l.re-iterator));
}
