-- Complex numbers as they cross to a host. Definitions only.
use Rattle.std.specs.Prelude.{ℕ, ◌+◌, ◌*◌, List, [], ◌∷◌, get_or, Float}
use Rattle.std.specs.Float.{nan}
use Rattle.complex.specs.declared.Complex.{Complex}

-- Eight poles are sixteen parts: pole i has its real part in place 2i and its imaginary part in the next

abbrev pub pole_at : List Float → ℕ → Complex
pole_at parts i = record { re = get_or parts (2 * i) nan; im = get_or parts (2 * i + 1) nan }

abbrev pub poles_of : List Float → List Complex
poles_of p = pole_at p 0 ∷ pole_at p 1 ∷ pole_at p 2 ∷ pole_at p 3 ∷ pole_at p 4 ∷ pole_at p 5 ∷ pole_at p 6 ∷ pole_at p 7 ∷ []

abbrev pub real_at : List Complex → ℕ → Float
real_at poles i = (get_or poles i (record { re = nan; im = nan })).re

abbrev pub imaginary_at : List Complex → ℕ → Float
imaginary_at poles i = (get_or poles i (record { re = nan; im = nan })).im

abbrev pub parts_of : List Complex → List Float
parts_of z =
    real_at z 0 ∷ imaginary_at z 0 ∷ real_at z 1 ∷ imaginary_at z 1 ∷ real_at z 2 ∷ imaginary_at z 2 ∷ real_at z 3 ∷ imaginary_at z 3
    ∷ real_at z 4 ∷ imaginary_at z 4 ∷ real_at z 5 ∷ imaginary_at z 5 ∷ real_at z 6 ∷ imaginary_at z 6 ∷ real_at z 7 ∷ imaginary_at z 7 ∷ []
