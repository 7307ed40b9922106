-- What calls answer, by the number that their conditions gave. Assumes nothing.
use mathlib.Core.Path.{◌≡◌, sym}
use mathlib.Core.List.{List}
use lib.Ieee.{Float}
use Rattle.std.specs.Prelude.{Ok, Err, Some}
use Rattle.laws.proofs.Outcome.{answered_found, answered_refused}
use Rattle.scalar.specs.Sqrt.{sqrt_of}
use Rattle.sweep.specs.Refusal.{number_of}
use Rattle.sweep.specs.Answer.{crossing_outcome, outcome_of}
use Rattle.sweep.specs.declared.FreqError.{FreqError}
use Rattle.sweep.proofs.Numbers.{number_above}
use Rattle.nyquist.specs.Curve.{points, least_square, or_zero, curve_refusal, distance_outcome}
use Rattle.nyquist.proofs.Roots.{one_root}

module _ (re im : List Float) where
  pub distance_refused : (e : FreqError) → number_of e ≡ curve_refusal re im → outcome_of (Err e) ≡ distance_outcome re im
  unfolding outcome_of distance_outcome
  distance_refused e h = rw (sym h) (sym (answered_refused _ (number_above e)))

  pub distance_found : (d : Float) → 0 ≡ curve_refusal re im → d ≡ or_zero (sqrt_of (least_square (points re im))) → outcome_of (Ok (Some d)) ≡ distance_outcome re im
  unfolding crossing_outcome outcome_of distance_outcome
  distance_found d h e = rw (e, one_root) (sym (answered_found _ (sym h)))
