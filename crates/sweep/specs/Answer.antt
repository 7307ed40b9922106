-- What scans and grids answer, in the numbers of document 01. Definitions only.
use Rattle.std.specs.Prelude.{ℕ, cond, List, [], ◌∷◌, Option, Some, None, Result, Ok, Err, eqb, Float}
use Rattle.laws.specs.Loops.{filled}
use Rattle.laws.specs.Outcome.{Outcome, found, refused, option_outcome, result_outcome}
use Rattle.sweep.specs.Refusal.{number_of}
use Rattle.sweep.specs.declared.FreqError.{FreqError}
use Rattle.sweep.specs.declared.NotKept.{NotKept}

-- 0 with the frequency, or 100 for none
unfoldable pub crossing_outcome : Option Float → Outcome
crossing_outcome c = option_outcome (λ x. found (x ∷ [])) c

-- 0 with the value, 100 for none, or the refusal
unfoldable pub outcome_of : Result (Option Float) FreqError → Outcome
outcome_of r = result_outcome number_of crossing_outcome r

-- "Not kept", which has no number in document 01: 101, beside the 100 of "none".
abbrev pub not_kept : Outcome
not_kept = refused 101

-- 0 with the frequency, 100 for none, 101 for not kept
unfoldable pub kept_outcome : Result (Option Float) NotKept → Outcome
kept_outcome k = result_outcome (λ e. 101) crossing_outcome k

-- what is kept, and where there was none a crossing found later; what is not kept stays so
unfoldable pub or_kept : Result (Option Float) NotKept → Option Float → Result (Option Float) NotKept
or_kept (Ok (Some x)) c = Ok (Some x)
or_kept (Ok None) c = Ok c
or_kept (Err e) c = Err e

-- the outcome of a scan whose conditions gave n
unfoldable pub scanned : ℕ → Option Float → Outcome
scanned n c = cond (eqb n 0) (crossing_outcome c) (refused n)

-- 0 where the grid was filled, or the refusal
unfoldable pub outcome_of_grid : Result (Unit {0}) FreqError → Outcome
outcome_of_grid r = result_outcome number_of (λ x. found []) r

-- a lent list at exit, under conditions that gave n: its first `count` places filled by g, or as it was where the call is refused
unfoldable pub gridded : ℕ → (ℕ → Float) → ℕ → List Float → List Float
gridded n g count l = cond (eqb n 0) (filled g l count) l
