-- The one of two that a program keeps, by a key that is a float.
use Rattle.std.specs.Prelude.{cond, Float}
use Rattle.std.specs.Float.Ieee.{lt}

-- d where its key is less than m's, and else m. A d whose key is a NaN is never taken.
unfoldable pub lesser : {A : Type 0} → (A → Float) → A → A → A
lesser key m d = cond (lt (key d) (key m)) d m

-- d where its key is greater than m's, and else m
unfoldable pub greater : {A : Type 0} → (A → Float) → A → A → A
greater key m d = cond (lt (key m) (key d)) d m
