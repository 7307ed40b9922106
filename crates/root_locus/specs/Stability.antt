-- Whether poles are stable. Definitions only.
use Rattle.std.specs.Prelude.{ℕ, min, Bool, not, List, take}
use Rattle.std.specs.List.{list_any}
use Rattle.std.specs.Float.Ieee.{le}
use Rattle.scalar.specs.Scalar.{f1}
use Rattle.complex.specs.declared.Complex.{Complex}
use Rattle.complex.specs.Complex.{magnitude_sq}

-- the squared magnitude is 1 or more; that of a NaN is not
unfoldable pub outside : Complex → Bool
outside z = le f1 (magnitude_sq z)

-- no pole of the list is outside
unfoldable pub none_outside : List Complex → Bool
none_outside zs = not (list_any outside zs)

-- False exactly if some counted pole has squared magnitude ≥ 1. A count above 8 is read as 8.
unfoldable pub stable : List Complex → ℕ → Bool
stable poles count = none_outside (take (min count 8) poles)
