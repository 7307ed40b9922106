-- The numbers of the refusals, and the conditions of scans and grids. Definitions only.
use Rattle.std.specs.Prelude.{ℕ, ◌≡◌, Bool, not, ◌&&◌, List, Result, Ok, Err, eqb, ltb, length, Float}
use Rattle.std.specs.Float.Ieee.{le}
use Rattle.laws.specs.Outcome.{when}
use Rattle.scalar.specs.Scalar.{f0}
use Rattle.sweep.specs.declared.FreqError.{FreqError}
use Rattle.sweep.specs.declared.FreqError.TheVariants.{InsufficientPoints, InvalidFrequencyRange, InvalidParameter, LengthsDiffer, CubicLeftOut, TooFewPairs, NoRoom, TooMany, WrongOrder, WrongIndex, WrongByteCount}

abbrev pub number_of : FreqError → ℕ
number_of InsufficientPoints = 1
number_of InvalidFrequencyRange = 2
number_of InvalidParameter = 3
number_of LengthsDiffer = 11
number_of CubicLeftOut = 12
number_of TooFewPairs = 13
number_of NoRoom = 14
number_of TooMany = 15
number_of WrongOrder = 16
number_of WrongIndex = 17
number_of WrongByteCount = 19

-- the number of the first condition that turned the call away, and 0 where all are passed
abbrev pub refusal_of : {A : Type 0} → Result A FreqError → ℕ
refusal_of (Ok x) = 0
refusal_of (Err e) = number_of e

-- A scan, or a part fed: 11 if list lengths differ; 15 above 4,096 readings.
unfoldable pub scan_refusal : Bool → ℕ → ℕ
scan_refusal same n = when (not same) 11 (when (ltb 4096 n) 15 0)

-- A scan of three lists.
unfoldable pub lists_refusal : List Float → List Float → List Float → ℕ
lists_refusal xs ys zs = scan_refusal (eqb (length xs) (length ys) && eqb (length ys) (length zs)) (length xs)

-- Three lists of one length, as these conditions leave them.
pub record SameLength (xs ys zs : List Float) : Type 0 where
  pub second : length ys ≡ length xs
  pub third : length zs ≡ length xs

-- A grid: 1 if n < 2; range if top ≤ 0, which a NaN passes; 15 if n > 4,096; 14 if the lent list is shorter than n. The range is 3 for gains, 2 for frequencies.
unfoldable pub grid_refusal : ℕ → ℕ → Float → ℕ → ℕ
grid_refusal range n top room = when (ltb n 2) 1 (when (le top f0) range (when (ltb 4096 n) 15 (when (ltb room n) 14 0)))
