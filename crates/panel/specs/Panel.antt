-- The set-up panel's entries: readings in bytes, 24 each, and an answer of eight bytes. Definitions only.
use Rattle.std.specs.Prelude.{ℕ, ◌+◌, ◌*◌, ◌/◌, ◌%◌, ◌≡◌, not, List, [], ◌∷◌, ◌++◌, eqb, ltb, length, drop, Option, Float}
use Rattle.laws.specs.Loops.{up_to}
use Rattle.laws.specs.Outcome.{Outcome, when}
use Rattle.wire.specs.Bytes.{f64_at, f64_bytes}
use Rattle.sweep.specs.Answer.{scanned}
use Rattle.bode.specs.Bode.{reading}
use Rattle.bode.specs.declared.Reading.{Reading}

-- reading k: frequency, magnitude in dB and phase in degrees, each an f64, the least byte first
unfoldable pub reading_at : List ℕ → ℕ → Reading
reading_at b k = reading (f64_at b (24 * k)) (f64_at b (24 * k + 8)) (f64_at b (24 * k + 16))

-- the readings of a list of bytes
unfoldable pub decoded : List ℕ → List Reading
decoded b = up_to (reading_at b) (length b / 24)

-- 19 if the length is no multiple of 24; 15 above 4,096 readings; 14 if the answer has under 8 bytes.
unfoldable pub panel_refusal : ℕ → ℕ → ℕ
panel_refusal n room = when (not (eqb (n % 24) 0)) 19 (when (ltb 4096 (n / 24)) 15 (when (ltb room 8) 14 0))

-- what a call comes to, whose answer is defined on the readings by a scan
unfoldable pub panel_outcome : (List Reading → Option Float) → List ℕ → List ℕ → Outcome
panel_outcome scan b answer = scanned (panel_refusal (length b) (length answer)) (scan (decoded b))

-- the answer afterwards: the value in its first eight bytes, or as it was where there is no value
abbrev pub written : List Float → List ℕ → List ℕ
written [] old = old
written (x ∷ l) old = f64_bytes x ++ drop 8 old

-- A call whose outcome is o returned r and left the bytes `after` in an answer that held `before`.
pub record Replies (o : Outcome) (r : ℕ) (before after : List ℕ) : Type 0 where
  pub number : r ≡ o.number
  pub bytes : after ≡ written o.values before
