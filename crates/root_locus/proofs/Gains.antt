-- Laws of the gains that a reader will look for. Assumes nothing.
use Rattle.std.proofs.Common.{◌≡◌, ℕ, ◌-◌, ◌≤◌, false, T, [], ◌∷◌, pos, refl, ap, ◌∙◌, arith}
use lib.Ieee.{Float, inf, binary64, mul, div, of_int, of_bits}
use lib.Ieee.Positive.{positive}
use Rattle.laws.specs.Loops.{up_to}
use Rattle.scalar.specs.Scalar.{f0}
use Rattle.scalar.proofs.Exact.{times_zero, zero_over, whole_positive}
use Rattle.root_locus.specs.Gain.{gain_at}

-- the first gain up to a finite top above 0 is +0
pub first_gain : (top : Float) → T (positive top) → (n : ℕ) → 2 ≤ n → n ≤ 4096 → gain_at top n 0 ≡ f0
unfolding gain_at of_int of_bits
first_gain top p n two most =
    ap (λ (x : Float). div binary64 x (of_int binary64 (pos (n - 1)))) (times_zero top p)
    ∙ zero_over (of_int binary64 (pos (n - 1))) (whole_positive (n - 1) (omega arith) (omega arith))

-- five gains up to 8: 0, 2, 4, 6, 8
pub five_gains : up_to (gain_at (of_int binary64 (pos 8)) 5) 5 ≡ f0 ∷ of_int binary64 (pos 2) ∷ of_int binary64 (pos 4) ∷ of_int binary64 (pos 6) ∷ of_int binary64 (pos 8) ∷ []
unfolding up_to gain_at mul div of_int of_bits
five_gains = refl

-- the product comes first: the last gain up to the largest number is infinite, where the last frequency is that number
pub last_gain_overflows : gain_at (of_bits binary64 0x7fef_ffff_ffff_ffff) 3 2 ≡ inf false
unfolding gain_at mul div of_int of_bits
last_gain_overflows = refl
