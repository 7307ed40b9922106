use Rattle.std.proofs.Common.{ap, ◌∙◌, rules}
use Rattle.std.proofs.lemmas.Iterator.{YieldsList-from_slice}
use Rattle.std.proofs.lemmas.Iterator.Search.{position_from_yields_List}
use borrow.Author.Tests.{tests}
use Rattle.root_locus.specs.Roots.{degree_cases}
use Rattle.root_locus.proofs.Coefficients.{counts, counting_lent}
use Rattle.root_locus.proofs.Polynomial.find_roots.Goals as goal

pub returns : goal.returns
returns c =
    let p = c.args.self.coeffs.now in
    let first = position_from_yields_List counts _ _ _ c.position.ensures.ran (YieldsList-from_slice p (cc)) (λ x b q k. search (rules, tests)) in
    c.degree_cases.ensures ∙ ap degree_cases (rw c.unwrap_or-start.ensures (counting_lent p _ first))
