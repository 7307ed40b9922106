-- A refusal is known by its number, which is none of the numbers of a result. Assumes nothing.
use Prim.Native.Nat.{ℕ, ◌<◌}
use mathlib.Core.Path.{◌≡◌, refl, sym, ap, ◌∙◌}
use mathlib.Core.Bool.{cond}
use lib.Dec.{T, eqb, ltb, ltb→lt}
use Rattle.sweep.specs.Refusal.{number_of}
use Rattle.sweep.specs.declared.FreqError.{FreqError}
use Rattle.sweep.specs.declared.FreqError.TheVariants.{InsufficientPoints, InvalidFrequencyRange, InvalidParameter, LengthsDiffer, CubicLeftOut, TooFewPairs, NoRoom, TooMany, WrongOrder, WrongIndex, WrongByteCount}

-- the refusal that has a number
error_of : ℕ → FreqError
error_of n =
    cond (eqb n 1) InsufficientPoints (
    cond (eqb n 2) InvalidFrequencyRange (
    cond (eqb n 3) InvalidParameter (
    cond (eqb n 11) LengthsDiffer (
    cond (eqb n 12) CubicLeftOut (
    cond (eqb n 13) TooFewPairs (
    cond (eqb n 14) NoRoom (
    cond (eqb n 15) TooMany (
    cond (eqb n 16) WrongOrder (
    cond (eqb n 17) WrongIndex (
    WrongByteCount))))))))))

-- Each refusal comes back from its number, which lies between 0 and 100.
record Numbered (e : FreqError) : Type 0 where
  back : error_of (number_of e) ≡ e
  above : T (ltb 0 (number_of e))
  below : T (ltb (number_of e) 100)

numbered : (e : FreqError) → Numbered e
unfolding error_of
numbered InsufficientPoints = record { back = refl; above = tt; below = tt }
numbered InvalidFrequencyRange = record { back = refl; above = tt; below = tt }
numbered InvalidParameter = record { back = refl; above = tt; below = tt }
numbered LengthsDiffer = record { back = refl; above = tt; below = tt }
numbered CubicLeftOut = record { back = refl; above = tt; below = tt }
numbered TooFewPairs = record { back = refl; above = tt; below = tt }
numbered NoRoom = record { back = refl; above = tt; below = tt }
numbered TooMany = record { back = refl; above = tt; below = tt }
numbered WrongOrder = record { back = refl; above = tt; below = tt }
numbered WrongIndex = record { back = refl; above = tt; below = tt }
numbered WrongByteCount = record { back = refl; above = tt; below = tt }

pub number_known : (e f : FreqError) → number_of e ≡ number_of f → e ≡ f
number_known e f h = sym (numbered e).back ∙ ap error_of h ∙ (numbered f).back

pub number_above : (e : FreqError) → 0 < number_of e
number_above e = ltb→lt 0 (number_of e) (numbered e).above

pub number_below : (e : FreqError) → number_of e < 100
number_below e = ltb→lt (number_of e) 100 (numbered e).below
