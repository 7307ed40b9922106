use Rattle.std.proofs.Common.{rules, ◌∙◌}
use lib.Ieee.{nan}
use Rattle.laws.proofs.Made.{made_by}
use Rattle.root_locus.specs.Polynomial.{coefficient}
use Rattle.root_locus.proofs.Coefficients.{placed, coefficients_placed}
use Rattle.root_locus.proofs.OpenLoop.loop_polynomial.Goals as goal

pub returns : goal.returns
unfolding coefficient
returns c =
    let tf = c.args.self.now.tf in
    made_by _ (placed tf c.args.k) _ nan (λ i r f' p. search rules) c.from_fn.result 9 c.from_fn.ensures.items ∙ coefficients_placed tf c.args.k c.args.self.now.most
