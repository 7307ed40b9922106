use Rattle.std.proofs.Common.{◌≡◌, ◌∷◌, length, take, arith, rules}
use Rattle.laws.specs.Loops.{filled}
use Rattle.laws.proofs.Loops.{take-filled, arrived}
use Rattle.root_locus.specs.Polynomial.{degree_of}
use Rattle.root_locus.specs.Roots.{quotient_at, monic}
use Rattle.root_locus.proofs.Padding.{take_padded, drop_padded}
use Rattle.root_locus.proofs.Rounds.{as_many, search_left}
use Rattle.root_locus.proofs.companion_matrix_roots.Goals as goal

pub returns : goal.returns
unfolding monic
returns c =
    let p = c.args.lead ∷ c.args.rest.now in
    let n = length c.args.rest.now in
    let inv = c.loop-i.invariant in
    let degree : degree_of p ≡ n = omega arith in
    -- what is lent of the array once it is filled
    let lent : take n c.loop-i.norm ≡ monic p =
    rw (arrived (filled (quotient_at p) _) inv.1 inv.0 (search rules), degree) (take-filled (quotient_at p) _ n) in
    let ran = c.durand_kerner-ending.ensures in
    let many = rw degree at (as_many p) in
    rw (c.unless_nan.ensures, ran.roots, ran.ending, lent, c.starting_points-z.ensures, take_padded _ _ many, drop_padded _ _ many) (search_left p n degree)
