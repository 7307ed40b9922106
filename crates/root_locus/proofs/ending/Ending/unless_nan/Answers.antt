use Rattle.std.proofs.Common.{◌||◌, rules}
use Rattle.std.specs.Prelude.{is_nan}
use Rattle.std.proofs.lemmas.Iterator.{YieldsList-from_slice}
use Rattle.std.proofs.lemmas.Iterator.Search.{any_from_yields_List}
use borrow.Author.Tests.{tests}
use Rattle.complex.specs.declared.Complex.{Complex}
use Rattle.root_locus.specs.Ending.{some_nan, unless_nan}
use Rattle.root_locus.proofs.ending.Ending.unless_nan.Goals as goal

pub returns-else-any : goal.returns-else-any
unfolding some_nan unless_nan
returns-else-any c =
    let any = any_from_yields_List (λ (z : Complex). is_nan z.re || is_nan z.im) _ _ _ c.any.ensures.ran (YieldsList-from_slice c.args.roots.now (cc)) (λ x b q k. search (rules, tests)) in
    rw (← any, c.if-any.false)
