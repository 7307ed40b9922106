-- The signs of floats: what is rounded keeps its sign. Assumes nothing.
use Prim.Native.Nat.{ℕ, zero, suc, ◌+◌, ◌-◌, ◌*◌, ◌/◌, ◌%◌, ◌^◌, compare}
use mathlib.Core.Path.{sym, subst}
use mathlib.Core.Bool.{Bool, true, false, beq, cond}
use lib.Dec.{T, ltb}
use lib.Ieee.{Float, nan, inf, fin, Format, low, prec, emax, size, nearest, units, odd, round}
use lib.Ieee.Fits.{round_is}

-- a value other than NaN whose sign is s
abbrev pub signed : Bool → Float → Bool
signed s nan = false
signed s (inf t) = beq s t
signed s (fin t m e) = beq s t

pub same : (s : Bool) → T (beq s s)
same true = tt
same false = tt

-- what holds of both branches
pub either : (P : Float → Type 0) (b : Bool) {x y : Float} → P x → P y → P (cond b x y)
either P true h k = h
either P false h k = k

odd_signed : (s : Bool) (d q k l : ℕ) → T (signed s (odd d s q k l))
unfolding odd
odd_signed s d zero k l = same s
odd_signed s d (suc q) k l = same s

pub round_signed : (f : Format) (s : Bool) (a c : ℕ) → T (signed s (round f s a c))
round_signed f s a c =
    let n = a * 2 ^ low f in
    let k = size (n / c) - prec f in
    let u = c * 2 ^ k in
    subst (λ (x : Float). T (signed s x)) (sym (round_is f s a c)) (of_units (nearest (n / u) (compare (n % u * 2) u)) k)
  where
    of_units : (q k : ℕ) → T (signed s (units f s q k))
    of_units q k =
        unfold units in
        either (λ x. T (signed s x)) (ltb (q * 2 ^ k) (2 ^ (low f + suc (emax f)))) (odd_signed s (suc (prec f)) q k (low f)) (same s)
