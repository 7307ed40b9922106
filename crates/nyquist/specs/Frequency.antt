-- The grid of frequencies. Definitions only.
use Rattle.std.specs.Prelude.{ℕ, ◌-◌, List, [], pos, length, Float}
use Rattle.std.specs.Float.{binary64}
use Rattle.std.specs.Float.Ieee.{mul, div, of_int}
use Rattle.laws.specs.Outcome.{Outcome, answered}
use Rattle.sweep.specs.Refusal.{grid_refusal}
use Rattle.sweep.specs.Answer.{gridded}

-- frequency i of n up to top: (i / (n - 1)) * top, the quotient rounded first
unfoldable pub frequency_at : Float → ℕ → ℕ → Float
frequency_at top n i = mul binary64 (div binary64 (of_int binary64 (pos i)) (of_int binary64 (pos (n - 1)))) top

-- what the filler answers for n frequencies in the list l: 0, or 1 if n < 2, 2 if top ≤ 0, 15 if n > 4,096, 14 if l is shorter than n
unfoldable pub frequency_outcome : Float → ℕ → List Float → Outcome
frequency_outcome top n l = answered (grid_refusal 2 n top (length l)) []

-- the list l afterwards: the first n places hold the frequencies and the rest what they held, as all of it does under a refusal
unfoldable pub frequency_grid : Float → ℕ → List Float → List Float
frequency_grid top n l = gridded (grid_refusal 2 n top (length l)) (frequency_at top n) n l
