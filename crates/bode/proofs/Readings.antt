-- The scan over a slice of readings gives what the scan over its three lists gives. Assumes nothing.
use Rattle.std.proofs.Common.{ℕ, zero, suc, ◌<◌, ◌≡◌, refl, ap, ◌∙◌, true, List, [], ◌∷◌, Option, Ok, Err, Float, ltb, length, get_or, drop, arith}
use lib.ListN.{length-map}
use borrow.Author.Tests.{eq-eqb}
use Rattle.laws.specs.Outcome.{when}
use Rattle.sweep.specs.declared.FreqError.{FreqError}
use Rattle.sweep.specs.Refusal.{number_of, scan_refusal, lists_refusal}
use Rattle.sweep.specs.Answer.{outcome_of, scanned}
use Rattle.sweep.specs.Scan.{or_else, first_pair, scanned_by}
use Rattle.sweep.proofs.Answers.{scan_turned_away, scan_let_through}
use Rattle.bode.specs.Bode.{reading, readings, gain_pair, gain_crossover}
use Rattle.bode.specs.Readings.{omegas, dbs, phases}
use Rattle.bode.specs.declared.Reading.{Reading}

-- ---- the three lists: they have one length, and their readings are those of the slice

pub readings_back : (rs : List Reading) → readings (omegas rs) (dbs rs) (phases rs) ≡ rs
readings_back [] = refl
readings_back (r ∷ rs) = ap (λ (l : List Reading). r ∷ l) (readings_back rs)

-- so a slice is refused for its length alone, with 15
pub lists_refused : (rs : List Reading) → lists_refusal (omegas rs) (dbs rs) (phases rs) ≡ when (ltb 4096 (length rs)) 15 0
unfolding lists_refusal scan_refusal
lists_refused rs = rw (length-map, length-map, length-map) (rw (eq-eqb (length rs) (length rs) refl))

-- ---- what a scan of the three lists answers, of a slice that is refused or scanned
module _ (rs : List Reading) where
  scanned_slice : (scan : List Reading → Option Float)
      → scanned (scan_refusal true (length rs)) (scan rs) ≡ scanned_by reading scan (omegas rs) (dbs rs) (phases rs)
  unfolding scanned_by scan_refusal
  scanned_slice scan = rw (lists_refused rs, readings_back rs)

  pub slice_turned_away : (e : FreqError) → number_of e ≡ scan_refusal true (length rs)
      → outcome_of (Err e) ≡ scanned_by reading gain_crossover (omegas rs) (dbs rs) (phases rs)
  slice_turned_away e h = scan_turned_away e h (gain_crossover rs) ∙ scanned_slice gain_crossover

  pub slice_let_through : 0 ≡ scan_refusal true (length rs)
      → outcome_of (Ok (first_pair gain_pair rs)) ≡ scanned_by reading gain_crossover (omegas rs) (dbs rs) (phases rs)
  unfolding gain_crossover
  slice_let_through h = scan_let_through h (gain_crossover rs) ∙ scanned_slice gain_crossover

-- what the slice says from a place on: what the two readings there say, or else those behind (no proof here needs it)
pub left_more : (rs : List Reading) (i : ℕ) (other : Reading) → suc i < length rs
    → first_pair gain_pair (drop i rs) ≡ or_else (gain_pair (get_or rs i other) (get_or rs (suc i) other)) (first_pair gain_pair (drop (suc i) rs))
left_more [] i other h = absurd (omega arith)
left_more (x ∷ []) i other h = absurd (omega arith)
left_more (x ∷ y ∷ l) zero other h = refl
left_more (x ∷ y ∷ l) (suc i) other h = left_more (y ∷ l) i other (omega arith)
