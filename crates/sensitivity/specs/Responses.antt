-- The responses of a unity-feedback loop of plant P and controller C at a frequency. Definitions only.
use Rattle.std.specs.Prelude.{max, List, length, Float}
use Rattle.std.specs.Float.{binary64}
use Rattle.std.specs.Float.Ieee.{add}
use Rattle.laws.specs.Outcome.{Outcome, answered}
use Rattle.scalar.specs.Scalar.{f1}
use Rattle.complex.specs.declared.Complex.{Complex}
use Rattle.complex.specs.Complex.{new_of, from_real, product, values_of, quotient_or_zero}
use Rattle.transfer_fn.specs.Evaluation.{value_at, evaluation_refusal}
use Rattle.sensitivity.specs.declared.LoopShaping.{LoopShaping}

-- L = P C
abbrev pub loop_gain : Complex → Complex → Complex
loop_gain p c = product p c

-- 1 + L, whose imaginary part is L's own
abbrev pub one_plus : Complex → Complex
one_plus l = new_of (add binary64 f1 l.re) l.im

-- S = 1 / (1 + L), T = L / (1 + L) and Q = C / (1 + L), each (0, 0) where 1 + L is below eps in square
abbrev pub sensitivity : Complex → Complex → Complex
sensitivity p c = quotient_or_zero (from_real f1) (one_plus (loop_gain p c))

abbrev pub comp_sensitivity : Complex → Complex → Complex
comp_sensitivity p c = quotient_or_zero (loop_gain p c) (one_plus (loop_gain p c))

abbrev pub control_sensitivity : Complex → Complex → Complex
control_sensitivity p c = quotient_or_zero c (one_plus (loop_gain p c))

-- what a response answers that is f of P's and C's values: refused by the conditions of an evaluation up to the larger order
unfoldable pub response_by : (Complex → Complex → Complex) → LoopShaping → List Float → List Float → Outcome
response_by f l cosines sines =
    answered (evaluation_refusal (max l.plant.order l.controller.order) (length cosines) (length sines))
    (values_of (f (value_at l.plant cosines sines) (value_at l.controller cosines sines)))
