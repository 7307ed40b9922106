-- What the panel's entries answer, against the scan of lists. Assumes nothing.
use Prim.Native.Nat.{ℕ, ◌≤◌, ◌%◌}
use mathlib.Core.Path.{◌≡◌}
use mathlib.Core.Bool.{Bool, true, false, cond}
use mathlib.Core.List.{List, []}
use borrow.Author.Tests.{eq-eqb, le-ltb}
use lib.Dec.{eqb}
use lib.ListN.{length}
use Rattle.std.specs.Prelude.{Option, Some, None, Float}
use Rattle.laws.specs.Loops.{up_to}
use Rattle.laws.specs.Outcome.{none, refused}
use Rattle.sweep.specs.Answer.{crossing_outcome, scanned}
use Rattle.sweep.specs.Scan.{scanned_by}
use Rattle.bode.specs.Bode.{reading, Crossover, Gain, Phase, gain_crossover, phase_crossover, crossover_of}
use Rattle.bode.specs.Readings.{omegas, dbs, phases}
use Rattle.bode.specs.declared.Reading.{Reading}
use Rattle.bode.proofs.Readings.{readings_back, lists_refused}
use Rattle.panel.specs.Panel.{decoded, panel_refusal, panel_outcome, Replies}
use Rattle.panel.proofs.Decoded.{decoded_length}

-- Whole readings, and room for the answer: what the scan of the three lists answers.
pub as_lists : (scan : List Reading → Option Float) (b answer : List ℕ) → length b % 24 ≡ 0 → 8 ≤ length answer
    → panel_outcome scan b answer ≡ scanned_by reading scan (omegas (decoded b)) (dbs (decoded b)) (phases (decoded b))
unfolding panel_outcome scanned_by panel_refusal
as_lists scan b answer h room =
    let l = decoded b in
    rw (lists_refused l, readings_back l, decoded_length b) (rw (eq-eqb (length b % 24) 0 h, le-ltb (length answer) 8 room))

-- No bytes, no crossing.
pub empty_none : (which : Crossover) (answer : List ℕ) → 8 ≤ length answer → panel_outcome (crossover_of which) [] answer ≡ none
unfolding panel_outcome panel_refusal decoded scanned up_to gain_crossover phase_crossover crossing_outcome
empty_none Gain answer room = rw (le-ltb (length answer) 8 room)
empty_none Phase answer room = rw (le-ltb (length answer) 8 room)

-- The answer is written on 0 alone.
pub untouched : (scan : List Reading → Option Float) (b : List ℕ) {r : ℕ} {before after : List ℕ} → Replies (panel_outcome scan b before) r before after → (r ≡ 0 → ⊥) → after ≡ before
unfolding panel_outcome scanned crossing_outcome
untouched scan b {r} {before} {after} h n = go (eqb (panel_refusal (length b) (length before)) 0) (scan (decoded b)) h
  where
    go : (test : Bool) (c : Option Float) → Replies (cond test (crossing_outcome c) (refused (panel_refusal (length b) (length before)))) r before after → after ≡ before
    go true (Some x) h = absurd (n h.number)
    go true None h = h.bytes
    go false c h = h.bytes
