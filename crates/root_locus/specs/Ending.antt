-- How the search for poles ended, by W1 of document 02, and as numbers for a host. Definitions only.
use Rattle.std.specs.Prelude.{ℕ, Bool, cond, ◌||◌, List, pos, is_nan, Float}
use Rattle.std.specs.List.{list_any}
use Rattle.std.specs.Float.{binary64}
use Rattle.std.specs.Float.Ieee.{lt, of_int}
use Rattle.scalar.specs.Scalar.{f0}
use Rattle.complex.specs.declared.Complex.{Complex}
use Rattle.root_locus.specs.declared.ending.Ending.{Ending}
use Rattle.root_locus.specs.declared.ending.Ending.TheVariants.{Settled, Spent, Broken}
use Rattle.root_locus.specs.Search.{tolerance}

-- some part of a pole is NaN
unfoldable pub some_nan : List Complex → Bool
some_nan zs = list_any (λ (z : Complex). is_nan z.re || is_nan z.im) zs

-- broken where some part is NaN, which comes first; else e
unfoldable pub unless_nan : List Complex → Ending → Ending
unless_nan zs e = cond (some_nan zs) Broken e

-- The end of rounds, by how many were used and the last one's largest change: settled where that was below 1e-12, and else spent.
unfoldable pub end_of : ℕ → Float → Ending
end_of used last = cond (lt last tolerance) (Settled used) (Spent last)

-- ---- an ending as a number and a value

-- 0 settled, 1 spent, 2 broken: document 02 has no numbers for them
abbrev pub ending_number : Ending → ℕ
ending_number (Settled n) = 0
ending_number (Spent x) = 1
ending_number Broken = 2

-- the rounds used, the last change, and 0 where there is neither
abbrev pub ending_value : Ending → Float
ending_value (Settled n) = of_int binary64 (pos n)
ending_value (Spent x) = x
ending_value Broken = f0
