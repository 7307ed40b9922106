-- Constants of the format, and the absolute value. Definitions only.
use Rattle.std.specs.Prelude.{false, Float}
use Rattle.std.specs.Float.{nan, inf, fin, binary64}
use Rattle.std.specs.Float.Ieee.{of_bits}

-- 0 and 1
abbrev pub f0 : Float
f0 = of_bits binary64 0

abbrev pub f1 : Float
f1 = of_bits binary64 0x3ff0_0000_0000_0000

-- 2 ^ -52
abbrev pub eps : Float
eps = of_bits binary64 0x3cb0_0000_0000_0000

-- x with its sign cleared, that of -0 too. A NaN has no sign.
unfoldable pub abs_of : Float → Float
abs_of nan = nan
abs_of (inf s) = inf false
abs_of (fin s m e) = fin false m e
