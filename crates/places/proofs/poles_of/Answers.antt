use Rattle.std.proofs.Common.{rules}
use lib.Ieee.{nan}
use Rattle.complex.specs.Complex.{new_of}
use Rattle.places.specs.Complex.{pole_at}
use Rattle.laws.proofs.Made.{made_by}
use Rattle.places.proofs.poles_of.Goals as goal

pub returns : goal.returns
unfolding new_of
returns c = made_by _ (pole_at c.args.parts.now) _ (record { re = nan; im = nan }) (λ i r f' k. search rules) c.from_fn.result 8 c.from_fn.ensures.items
