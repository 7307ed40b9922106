-- What the definitions of either crossover say. Assumes nothing.
use Rattle.std.proofs.Common.{◌≡◌, refl, List}
use Rattle.sweep.specs.Scan.{first_pair, cross_if}
use Rattle.bode.specs.Bode.{gain_pair, phase_pair, gain_crossover, phase_crossover, Crossover, Gain, Phase, between_of, crosses_of, pair_of, crossover_of}
use Rattle.bode.specs.declared.Reading.{Reading}

pub pair_is : (which : Crossover) (a b : Reading) → pair_of which a b ≡ cross_if (crosses_of which a b) (between_of which a b)
unfolding gain_pair phase_pair
pair_is Gain a b = refl
pair_is Phase a b = refl

pub crossover_is : (which : Crossover) (l : List Reading) → crossover_of which l ≡ first_pair (pair_of which) l
unfolding gain_crossover phase_crossover
crossover_is Gain l = refl
crossover_is Phase l = refl
