-- Which part is which: a complex number that was put is read back. Assumes nothing.
use mathlib.Core.Path.{◌≡◌, refl}
use Rattle.complex.specs.Complex.{new_of, values_of, complex_of}
use Rattle.complex.specs.declared.Complex.{Complex}

pub complex_back : (z : Complex) → complex_of (values_of z) ≡ z
unfolding new_of
complex_back z = refl
