-- The scan of readings in bytes for either crossover: the sides of what is sought. Definitions only.
use Rattle.std.specs.Prelude.{ℕ, ◌^◌, Bool, false, not, ◌&&◌, cond, ltb, List, map}
use Rattle.std.specs.Float.{binary64}
use Rattle.std.specs.Float.Ieee.{neg, lt, of_bits}
use Rattle.bode.specs.Bode.{f180, Crossover, Gain, Phase}
use Rattle.bode.specs.declared.Reading.{Reading}
use Rattle.panel.specs.Panel.{reading_at}
use Rattle.panel.specs.declared.Side.{Side}
use Rattle.panel.specs.declared.Side.TheVariants.{Above, Below, Neither}

-- readings of 24 bytes each
abbrev pub read : List (List ℕ) → List Reading
read l = map (λ r. reading_at r 0) l

-- the place of the value that tells in the bytes of a reading
abbrev pub place_of : Crossover → ℕ
place_of Gain = 8
place_of Phase = 16

-- Whether the value of a bit pattern lies on a side. Of 0 dB: a NaN goes by its sign. Of -180 degrees: what is not above counts as below, a NaN too.
abbrev pub lies_on : Crossover → Side → ℕ → Bool
lies_on Gain Above p = ltb 0 p && ltb p (2 ^ 63)
lies_on Gain Below p = ltb (2 ^ 63) p
lies_on Gain Neither p = false
lies_on Phase Above p = lt (neg f180) (of_bits binary64 p)
lies_on Phase Below p = not (lt (neg f180) (of_bits binary64 p))
lies_on Phase Neither p = false

-- the side on which it lies
abbrev pub side_of : Crossover → ℕ → Side
side_of which p = cond (lies_on which Above p) Above (cond (lies_on which Below p) Below Neither)
