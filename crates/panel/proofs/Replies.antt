-- The reply to each answer: a value is written, and its number is 0; else the bytes stay. Assumes nothing.
use Rattle.std.proofs.Common.{ℕ, ◌≡◌, ◌≤◌, refl, List, length, Option, Some, None, Ok, Err, Float}
use Rattle.wire.specs.Bytes.{f64_bytes, overwritten}
use Rattle.wire.proofs.Bytes.{overwritten_is}
use Rattle.sweep.specs.Answer.{outcome_of, crossing_outcome, scanned}
use Rattle.sweep.specs.Refusal.{number_of}
use Rattle.sweep.specs.declared.FreqError.{FreqError}
use Rattle.bode.specs.declared.Reading.{Reading}
use Rattle.panel.specs.Panel.{decoded, panel_refusal, panel_outcome, Replies}

module _ (scan : List Reading → Option Float) (b : List ℕ) {before : List ℕ} where
  pub value_written : (x : Float) → outcome_of (Ok (Some x)) ≡ scanned (panel_refusal (length b) (length before)) (scan (decoded b)) → 8 ≤ length before
      → Replies (panel_outcome scan b before) 0 before (overwritten (f64_bytes x) before)
  unfolding panel_outcome outcome_of crossing_outcome f64_bytes
  value_written x e room = rw (← e) (record { number = refl; bytes = overwritten_is 8 _ before room })

  pub none_told : outcome_of (Ok None) ≡ scanned (panel_refusal (length b) (length before)) (scan (decoded b)) → Replies (panel_outcome scan b before) 100 before before
  unfolding panel_outcome outcome_of crossing_outcome
  none_told e = rw (← e) (record { number = refl; bytes = refl })

  pub refusal_told : (e : FreqError) → outcome_of (Err e) ≡ scanned (panel_refusal (length b) (length before)) (scan (decoded b)) → Replies (panel_outcome scan b before) (number_of e) before before
  unfolding panel_outcome outcome_of
  refusal_told e h = rw (← h) (record { number = refl; bytes = refl })
