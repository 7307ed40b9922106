-- What a response answers, by what the evaluation of plant and controller answered. Assumes nothing.
use Rattle.std.proofs.Common.{◌≡◌, refl, List}
use Rattle.std.specs.Prelude.{Ok, Err, Float}
use Rattle.complex.specs.declared.Complex.{Complex}
use Rattle.sweep.specs.declared.FreqError.{FreqError}
use Rattle.transfer_fn.specs.Evaluation.{outcome_of, outcome_of_both, evaluation_of_both}
use Rattle.transfer_fn.proofs.Laws.{of_values, of_refused}
use Rattle.sensitivity.specs.Responses.{response_by}
use Rattle.sensitivity.specs.declared.LoopShaping.{LoopShaping}

module _ (l : LoopShaping) (f : Complex → Complex → Complex) (cosines sines : List Float) where
  pub both_refused : (e : FreqError) → outcome_of_both (Err e) ≡ evaluation_of_both l.plant l.controller cosines sines → outcome_of (Err e) ≡ response_by f l cosines sines
  unfolding response_by evaluation_of_both
  both_refused e given = of_refused f _ _ _ given refl

  pub both_found : (p c v : Complex) → outcome_of_both (Ok (p, c)) ≡ evaluation_of_both l.plant l.controller cosines sines → v ≡ f p c → outcome_of (Ok v) ≡ response_by f l cosines sines
  unfolding response_by evaluation_of_both
  both_found p c v given h = of_values f _ _ _ given refl h
