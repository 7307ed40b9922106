-- The cases that document 01 works by hand, those with a star, row for row; then the same sweeps cut, fed and joined; then its other cases, and each refusal by its
-- number; then the smallest cases of the requests of document 02. Definitions only.
use Rattle.std.specs.Prelude.{ℕ, ◌^◌, true, false, List, [], ◌∷◌, take, drop, replicate, Float}
use Rattle.std.specs.Float.{nan, inf, binary64}
use Rattle.std.specs.Float.Ieee.{round, neg}
use Rattle.laws.specs.Outcome.{Outcome, found, none}
use Rattle.sweep.specs.Answer.{not_kept}
use Rattle.sweep.specs.Runs.{Calls, start, feed, join}
use Rattle.transfer_fn.specs.declared.TransferFn.{TransferFn}
use Rattle.sensitivity.specs.declared.LoopShaping.{LoopShaping}
use Rattle.worked_cases.specs.Cases.{Bode, Sensitivity, Curve, tf, sqrt, multiply, divide, eval_tf_complex, loop_gain_at, sensitivity_at, comp_sensitivity_at, control_sensitivity_at, polynomial, locus_point, stability_at, locus_ending, stability_region, gain_crossover, phase_crossover, gain_margin, phase_margin, bandwidth, distance_to_critical, gain_grid, frequency_grid, gain_of_summary, phase_of_summary, bandwidth_of_summary, approach_of_summary, Row, ◌gives◌}

-- ---- how numbers are written

infix 90 +◌ -◌
infix 70 ◌over◌
-- a whole number, and its negative: `- 0` is -0
abbrev +◌ : ℕ → Float
+◌ n = round binary64 false n 1

abbrev -◌ : ℕ → Float
-◌ n = round binary64 true n 1

-- m / n
abbrev ◌over◌ : ℕ → ℕ → Float
◌over◌ m n = round binary64 false m n

-- ---- what the cases are about

-- b 0.5, a -0.5; b (0, 1), a (-1, 0.25); b -1, a 0.5
abbrev first : TransferFn
first = tf (1 over 2 ∷ []) (neg (1 over 2) ∷ [])

abbrev second : TransferFn
second = tf (+ 0 ∷ + 1 ∷ []) (- 1 ∷ 1 over 4 ∷ [])

abbrev cancelled : TransferFn
cancelled = tf (- 1 ∷ []) (1 over 2 ∷ [])

-- plant b 1, a -0.5, controller b 0.5, a 0; pairs (1, -0) twice
abbrev loop : LoopShaping
loop = record { plant = tf (+ 1 ∷ []) (neg (1 over 2) ∷ []); controller = tf (1 over 2 ∷ []) (+ 0 ∷ []) }

abbrev cosines : List Float
cosines = + 1 ∷ + 1 ∷ []

abbrev sines : List Float
sines = - 0 ∷ - 0 ∷ []

-- b 0, a 0, of any order
abbrev of_order : ℕ → TransferFn
of_order n = tf (replicate n (+ 0)) (replicate n (+ 0))

-- b 0, a (0, 0, 0, d): at any gain the polynomial 1, 0, 0, 0, d
abbrev fourth : Float → TransferFn
fourth d = tf (+ 0 ∷ + 0 ∷ + 0 ∷ + 0 ∷ []) (+ 0 ∷ + 0 ∷ + 0 ∷ d ∷ [])

-- b (-0.5, 0), a (1, NaN): at gain 1 the polynomial 0.5, 1, NaN
abbrev halved : TransferFn
halved = tf (neg (1 over 2) ∷ + 0 ∷ []) (+ 1 ∷ nan ∷ [])

-- ω 1, 2, 4, 8; dB 6, 2, -2, -10; phase -90, -120, -160, -200
abbrev rising : Bode
rising =
    record {
      omega = + 1 ∷ + 2 ∷ + 4 ∷ + 8 ∷ [];
      db = + 6 ∷ + 2 ∷ - 2 ∷ - 10 ∷ [];
      phase = - 90 ∷ - 120 ∷ - 160 ∷ - 200 ∷ [];
    }

-- ω 1, 4, 2, 3; dB 5, 5, 1, -1; phase -100, -140, -150, -170
abbrev unsorted : Bode
unsorted =
    record {
      omega = + 1 ∷ + 4 ∷ + 2 ∷ + 3 ∷ [];
      db = + 5 ∷ + 5 ∷ + 1 ∷ - 1 ∷ [];
      phase = - 100 ∷ - 140 ∷ - 150 ∷ - 170 ∷ [];
    }

-- ω 1.5, 4503599627370499; dB 1, 0; phases that document 01 leaves open
abbrev far : Float → Float → Bode
far p q = record { omega = 3 over 2 ∷ + 4503599627370499 ∷ []; db = + 1 ∷ + 0 ∷ []; phase = p ∷ q ∷ [] }

-- ω 1, 2, 4; T 0, -1, -5; one reading; an S that document 01 leaves open
abbrev dropping : Sensitivity
dropping = record { omega = + 1 ∷ + 2 ∷ + 4 ∷ []; s = - 20 ∷ - 10 ∷ + 5 ∷ []; t = + 0 ∷ - 1 ∷ - 5 ∷ [] }

abbrev single : Sensitivity
single = record { omega = + 1 ∷ []; s = + 0 ∷ []; t = + 0 ∷ [] }

-- (0, 0), (-1, 0.5); no point
abbrev two_points : Curve
two_points = record { re = + 0 ∷ - 1 ∷ []; im = + 0 ∷ 1 over 2 ∷ [] }

abbrev no_points : Curve
no_points = record { re = []; im = [] }

-- ---- a sweep in two parts: the first n readings, and the rest

abbrev cut_bode : ℕ → Bode → Bode × Bode
cut_bode n p = (
  record { omega = take n p.omega; db = take n p.db; phase = take n p.phase },
  record { omega = drop n p.omega; db = drop n p.db; phase = drop n p.phase },
)

abbrev cut_sensitivity : ℕ → Sensitivity → Sensitivity × Sensitivity
cut_sensitivity n p = (
  record { omega = take n p.omega; s = take n p.s; t = take n p.t },
  record { omega = drop n p.omega; s = drop n p.s; t = drop n p.t },
)

abbrev cut_curve : ℕ → Curve → Curve × Curve
cut_curve n p = (record { re = take n p.re; im = take n p.im }, record { re = drop n p.re; im = drop n p.im })

-- the parts fed one behind the other; the parts' own summaries joined
abbrev fed : {P : Type 0} → P × P → Calls P
fed p = feed (feed start p.0) p.1

abbrev joined : {P : Type 0} → P × P → Calls P
joined p = join (feed start p.0) (feed start p.1)

-- ---- what a case gives

-- a locus point's gain, and its poles part by part
abbrev point : Float → List Float → Outcome
point gain poles = found (gain ∷ poles)

abbrev is_stable : Outcome
is_stable = found (+ 1 ∷ [])

abbrev not_stable : Outcome
not_stable = found (+ 0 ∷ [])

-- how a search ended: settled with its rounds, or broken
abbrev settled : ℕ → Outcome
settled rounds = found (+ 0 ∷ + rounds ∷ [])

abbrev broken : Outcome
broken = found (+ 2 ∷ + 0 ∷ [])

-- a number as document 01 has it, and values or a lent list as the call leaves it
abbrev number : ℕ → List Float → Outcome
number n values = record { number = n; values = values }

-- ---- the table. A locus point is named by its gain there: it is point 1 of 2 up to that gain, and for gain 0 point 0.

unfoldable pub worked : List Row
unfolding round neg
worked =
    -- (1,2)·(3,4) = (-5,10). (-5,10)/(3,4) = (1,2). Division by (0,0): none.
    (multiply (+ 1, + 2) (+ 3, + 4) gives found (- 5 ∷ + 10 ∷ [])) ∷
    (divide (- 5, + 10) (+ 3, + 4) gives found (+ 1 ∷ + 2 ∷ [])) ∷
    (divide (- 5, + 10) (+ 0, + 0) gives none) ∷
    -- Square root of 2.25 is 1.5; of 2^-1074 is 2^-537; of -0 is -0.
    (sqrt (9 over 4) gives found (3 over 2 ∷ [])) ∷
    (sqrt (1 over 2 ^ 1074) gives found (1 over 2 ^ 537 ∷ [])) ∷
    (sqrt (- 0) gives found (- 0 ∷ [])) ∷
    -- Order 1, b 0.5, a -0.5, gain 2: coefficients 2, -0.5, pole (0.25, 0).
    (polynomial first (+ 2) gives found (+ 2 ∷ neg (1 over 2) ∷ [])) ∷
    (locus_point first (+ 2) 2 1 gives point (+ 2) (1 over 4 ∷ + 0 ∷ [])) ∷
    -- Order 2, b (0, 1), a (-1, 0.25), gain 0: pole 0.5 twice. Gain 0.5: coefficients 1, -0.5, 0.25.
    (locus_point second (+ 1) 2 0 gives point (+ 0) (1 over 2 ∷ + 0 ∷ 1 over 2 ∷ + 0 ∷ [])) ∷
    (polynomial second (1 over 2) gives found (+ 1 ∷ neg (1 over 2) ∷ 1 over 4 ∷ [])) ∷
    -- Order 1, b -1, a 0.5, gain 1: no poles, stable. Pole (1,0): not stable; (0.5,0.5): stable; a NaN pole: stable.
    (locus_point cancelled (+ 1) 2 1 gives point (+ 1) []) ∷
    (stability_at cancelled (+ 1) 2 1 gives is_stable) ∷
    (stability_region ((+ 1, + 0) ∷ []) 1 gives not_stable) ∷
    (stability_region ((1 over 2, 1 over 2) ∷ []) 1 gives is_stable) ∷
    (stability_region ((nan, + 0) ∷ []) 1 gives is_stable) ∷
    (stability_region ((+ 0, nan) ∷ []) 1 gives is_stable) ∷
    -- ω 1, 2, 4, 8; ..: gain crossover 3, phase crossover 6, gain margin 6, phase margin 40.
    (gain_crossover rising gives found (+ 3 ∷ [])) ∷
    (phase_crossover rising gives found (+ 6 ∷ [])) ∷
    (gain_margin rising gives found (+ 6 ∷ [])) ∷
    (phase_margin rising gives found (+ 40 ∷ [])) ∷
    -- ω 1, 4, 2, 3; ..: crossover 2.5, phase margin 60, from the first pair.
    (gain_crossover unsorted gives found (5 over 2 ∷ [])) ∷
    (phase_margin unsorted gives found (+ 60 ∷ [])) ∷
    -- ω 1.5, 4503599627370499; dB 1, 0: crossover 4503599627370500, past the pair, so no phase margin.
    (gain_crossover (far (- 100) (- 120)) gives found (+ 4503599627370500 ∷ [])) ∷
    (phase_margin (far (- 100) (- 120)) gives none) ∷
    (gain_crossover (far (- 170) (- 190)) gives found (+ 4503599627370500 ∷ [])) ∷
    (phase_margin (far (- 170) (- 190)) gives none) ∷
    -- ω 1, 2, 4; T in dB 0, -1, -5: bandwidth 3. One reading: none.
    (bandwidth dropping gives found (+ 3 ∷ [])) ∷
    (bandwidth single gives none) ∷
    -- Closest approach of (0,0), (-1,0.5): 0.5. Of an empty curve: 0.
    (distance_to_critical two_points gives found (1 over 2 ∷ [])) ∷
    (distance_to_critical no_points gives found (+ 0 ∷ [])) ∷
    -- Plant b 1, a -0.5, ..: L 1, S 0.5, T 0.5, Q 0.25.
    (loop_gain_at loop cosines sines gives found (+ 1 ∷ + 0 ∷ [])) ∷
    (sensitivity_at loop cosines sines gives found (1 over 2 ∷ + 0 ∷ [])) ∷
    (comp_sensitivity_at loop cosines sines gives found (1 over 2 ∷ + 0 ∷ [])) ∷
    (control_sensitivity_at loop cosines sines gives found (1 over 4 ∷ + 0 ∷ [])) ∷
    -- The same sweeps in two parts, through the summaries: no join keeps a bandwidth.
    (gain_of_summary (fed (cut_bode 2 rising)) gives found (+ 3 ∷ [])) ∷
    (gain_of_summary (joined (cut_bode 2 rising)) gives found (+ 3 ∷ [])) ∷
    (phase_of_summary (fed (cut_bode 3 rising)) gives found (+ 6 ∷ [])) ∷
    (phase_of_summary (joined (cut_bode 3 rising)) gives found (+ 6 ∷ [])) ∷
    (gain_of_summary (joined (cut_bode 3 unsorted)) gives found (5 over 2 ∷ [])) ∷
    (gain_of_summary (joined (cut_bode 1 (far (- 100) (- 120)))) gives found (+ 4503599627370500 ∷ [])) ∷
    (bandwidth_of_summary (fed (cut_sensitivity 2 dropping)) gives found (+ 3 ∷ [])) ∷
    (bandwidth_of_summary (joined (cut_sensitivity 2 dropping)) gives not_kept) ∷
    (bandwidth_of_summary (feed start single) gives none) ∷
    (approach_of_summary (fed (cut_curve 1 two_points)) gives found (1 over 2 ∷ [])) ∷
    (approach_of_summary (joined (cut_curve 1 two_points)) gives found (1 over 2 ∷ [])) ∷
    (approach_of_summary (feed start no_points) gives found (+ 0 ∷ [])) ∷
    -- 0 and a value, 100 for none, 101 for not kept.
    (gain_crossover rising gives number 0 (+ 3 ∷ [])) ∷
    (bandwidth single gives number 100 []) ∷
    (bandwidth_of_summary (joined (cut_sensitivity 2 dropping)) gives number 101 []) ∷
    -- Gain grid, k_max 8, n 5: 0, 2, 4, 6, 8; a sixth place stays. n 1: 1. n 4,096 wants room, 4,097: 15. A top of 0: 3, of frequencies 2.
    (gain_grid (+ 8) 5 (replicate 6 (+ 9)) gives number 0 (+ 0 ∷ + 2 ∷ + 4 ∷ + 6 ∷ + 8 ∷ + 9 ∷ [])) ∷
    (gain_grid (- 0) 1 (+ 9 ∷ []) gives number 1 (+ 9 ∷ [])) ∷
    (gain_grid (- 0) 4097 (+ 9 ∷ []) gives number 3 (+ 9 ∷ [])) ∷
    (frequency_grid (- 0) 4097 (+ 9 ∷ []) gives number 2 (+ 9 ∷ [])) ∷
    (gain_grid nan 4097 (+ 9 ∷ []) gives number 15 (+ 9 ∷ [])) ∷
    (gain_grid (+ 8) 4096 (+ 9 ∷ []) gives number 14 (+ 9 ∷ [])) ∷
    -- A list of another length: 11, whichever it is.
    (gain_crossover (record { omega = []; db = []; phase = + 0 ∷ [] }) gives number 11 []) ∷
    (bandwidth (record { omega = []; s = + 0 ∷ []; t = [] }) gives number 11 []) ∷
    (distance_to_critical (record { re = + 0 ∷ []; im = [] }) gives number 11 []) ∷
    -- Evaluation: order 9 gives 16, before 11 for a list more and 13 for too few; order 8 is not turned away for its order.
    (eval_tf_complex (of_order 9) (+ 1 ∷ []) [] gives number 16 []) ∷
    (eval_tf_complex (of_order 8) (+ 1 ∷ []) [] gives number 11 []) ∷
    (eval_tf_complex (of_order 1) (+ 1 ∷ []) (- 0 ∷ []) gives number 13 []) ∷
    -- A sum from zero: order 1, b -0, a 0.5, pairs (1, -0), (0, -1).
    (eval_tf_complex (tf (- 0 ∷ []) (1 over 2 ∷ [])) (+ 1 ∷ + 0 ∷ []) (- 0 ∷ - 1 ∷ []) gives found (+ 0 ∷ + 0 ∷ [])) ∷
    -- Locus point: 1, 3 for k_max, 3 for order 9, 16 for order 0, 15, 17, 12, each before the next.
    (locus_point (of_order 9) (- 0) 1 4097 gives number 1 []) ∷
    (locus_point (of_order 0) (- 0) 4097 4097 gives number 3 []) ∷
    (locus_point (of_order 9) (+ 1) 4097 4097 gives number 3 []) ∷
    (locus_point (of_order 0) (+ 1) 4097 4097 gives number 16 []) ∷
    (locus_point (of_order 3) nan 4097 4097 gives number 15 []) ∷
    (locus_point (of_order 3) nan 4096 4096 gives number 17 []) ∷
    (locus_point (of_order 3) nan 4096 4095 gives number 12 []) ∷
    (locus_ending (of_order 3) nan 4096 4095 gives number 12 []) ∷
    -- W1, how the search ended. By a formula, or without a pole, in 0 rounds, whatever the coefficients hold; an infinite pole is not NaN.
    (locus_ending first (+ 2) 2 1 gives settled 0) ∷
    (locus_ending second (+ 1) 2 0 gives settled 0) ∷
    (locus_ending (tf (- 1 ∷ []) (nan ∷ [])) (+ 1) 2 1 gives settled 0) ∷
    (locus_ending (tf (+ 0 ∷ []) (inf true ∷ [])) (+ 1) 2 0 gives settled 0) ∷
    -- One NaN part is enough, of a formula too: the pole of 1, NaN; the imaginary parts of 0.5, 1, NaN.
    (locus_ending (tf (+ 0 ∷ []) (nan ∷ [])) (+ 1) 2 0 gives broken) ∷
    (locus_point halved (+ 1) 2 1 gives point (+ 1) (- 1 ∷ nan ∷ - 1 ∷ nan ∷ [])) ∷
    (locus_ending halved (+ 1) 2 1 gives broken) ∷
    -- The search for 1, 0, 0, 0, -1 starts at the poles, but for roundings. That for 1, 0, 0, 0, NaN has no change in its first round, and every part is NaN.
    (locus_ending (fourth (- 1)) (+ 1) 2 0 gives settled 1) ∷
    (locus_ending (fourth nan) (+ 1) 2 0 gives broken) ∷
    []
