use Rattle.std.proofs.Common.{rules, arith, refl, ◌∙◌, sym, ap, Float}
use borrow.Author.Tests.{tests}
use lib.Ieee.{le}
use Rattle.std.specs.List.{find}
use Rattle.std.proofs.lemmas.Iterator.Adapters.{option_map_id}
use Rattle.std.proofs.lemmas.Iterator.{YieldsList-from_slice, YieldsList-from_zip, YieldsList-from_map}
use Rattle.std.proofs.lemmas.Iterator.Search.{find_from_yields_List}
use Rattle.std.proofs.lemmas.Iterator.Consumers.{YieldsList-at}
use Rattle.complex.specs.Complex.{new_of}
use Rattle.complex.specs.declared.Complex.{Complex}
use Rattle.nyquist.specs.Curve.{point_square}
use Rattle.nyquist.specs.Summary.{first_within}
use Rattle.nyquist.proofs.Scan.{points_zip}
use Rattle.nyquist.proofs.curve.Curve.first_within.Goals as goal

pub returns : goal.returns
unfolding first_within
returns c =
    let pairs = YieldsList-from_zip (YieldsList-from_slice c.args.self.now.re.now (cc)) (YieldsList-from_slice c.args.self.now.im.now (cc)) in
    let chain = YieldsList-from_map _ (λ (p : Float × Float). new_of p.0 p.1) (YieldsList-at c.map.ensures.source pairs) c.map.ensures.closure (λ x r q k. (refl, grind (arith, k.met))) in
    let found = find_from_yields_List (λ (z : Complex). le (point_square z) c.args.square) c.find.new.self _ c.find.result c.find.ensures.ran chain (λ x b q k. search (rules, tests)) in
    sym (option_map_id _) ∙ found ∙ ap (find (λ (z : Complex). le (point_square z) c.args.square)) (points_zip c.args.self.now.re.now c.args.self.now.im.now)
