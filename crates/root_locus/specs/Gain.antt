-- The grid of gains. Definitions only.
use Rattle.std.specs.Prelude.{ℕ, ◌-◌, List, [], length, pos, Float}
use Rattle.std.specs.Float.{binary64}
use Rattle.std.specs.Float.Ieee.{mul, div, of_int}
use Rattle.laws.specs.Outcome.{Outcome, answered}
use Rattle.sweep.specs.Refusal.{grid_refusal}
use Rattle.sweep.specs.Answer.{gridded}

-- gain i of n up to top: (top * i) / (n - 1), the product rounded first
unfoldable pub gain_at : Float → ℕ → ℕ → Float
gain_at top n i = div binary64 (mul binary64 top (of_int binary64 (pos i))) (of_int binary64 (pos (n - 1)))

-- what the filler answers for n gains in the list l: 0, or 1 if n < 2, 3 if top ≤ 0, 15 if n > 4,096, 14 if l is shorter than n
unfoldable pub gain_outcome : Float → ℕ → List Float → Outcome
gain_outcome top n l = answered (grid_refusal 3 n top (length l)) []

-- the list l afterwards: the first n places hold the gains and the rest what they held, as all of it does under a refusal
unfoldable pub gain_grid : Float → ℕ → List Float → List Float
gain_grid top n l = gridded (grid_refusal 3 n top (length l)) (gain_at top n) n l
