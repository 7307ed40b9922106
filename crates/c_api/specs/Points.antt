-- Points of the root locus as they cross to a host. Definitions only.
use Rattle.std.specs.Prelude.{ℕ, cond, ◌≡◌, List, eqb, Float}
use Rattle.root_locus.specs.Ending.{ending_number, ending_value}
use Rattle.root_locus.specs.Locus.{Point}
use Rattle.places.specs.Complex.{parts_of}

-- a place afterwards: what the point has, or what was there where the point is refused
abbrev pub placed_by : {A : Type 0} → Point → A → A → A
placed_by p new old = cond (eqb p.number 0) new old

-- A call whose point is p returned r. Of each place it says what was there before and after; the ending is a kind and its value.
pub record PointAnswers (p : Point) (r : ℕ) (gain gain_after : Float) (poles poles_after : List Float) (count count_after : ℕ)
    (kind kind_after : ℕ) (value value_after : Float) : Type 0 where
  pub number_is : r ≡ p.number
  pub gain_is : gain_after ≡ placed_by p p.gain gain
  pub poles_are : poles_after ≡ placed_by p (parts_of p.poles) poles
  pub count_is : count_after ≡ placed_by p p.count count
  pub kind_is : kind_after ≡ placed_by p (ending_number p.ending) kind
  pub value_is : value_after ≡ placed_by p (ending_value p.ending) value
