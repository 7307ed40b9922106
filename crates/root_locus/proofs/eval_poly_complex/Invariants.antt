use Rattle.std.proofs.Common.{◌≡◌, drop}
use Rattle.laws.specs.Loops.{push_all}
use Rattle.root_locus.specs.Search.{horner, eval_poly}
use Rattle.root_locus.proofs.eval_poly_complex.Given as goal

abbrev pub invariant-loop-c : goal.invariant-loop-c
invariant-loop-c l = push_all (horner l.z) l.acc (drop l.c-index l.norm) ≡ eval_poly l.norm l.z
