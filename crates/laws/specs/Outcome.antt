-- What a call comes to, in the numbers of document 01: the form in which every public promise about an enum is stated.
-- 0 is a result, with its values. Every other number has no value: 100 is "none", 101 "not kept", and the others are refusals.
use Rattle.std.specs.Prelude.{ℕ, ◌≡◌, Bool, cond, List, [], ◌∷◌, Option, Some, None, Result, Ok, Err, eqb, Float}

pub record Outcome : Type 0 where
  pub number : ℕ
  pub values : List Float

abbrev pub found : List Float → Outcome
found values = record { number = 0; values = values }

abbrev pub none : Outcome
none = record { number = 100; values = [] }

abbrev pub refused : ℕ → Outcome
refused n = record { number = n; values = [] }

-- the outcome of an option, whose value comes to f: 100 where there is none
abbrev pub option_outcome : {A : Type 0} → (A → Outcome) → Option A → Outcome
option_outcome f (Some x) = f x
option_outcome f None = none

-- the outcome of a result, whose value comes to f: the refusal's number where there is none
abbrev pub result_outcome : {A E : Type 0} → (E → ℕ) → (A → Outcome) → Result A E → Outcome
result_outcome number f (Ok x) = f x
result_outcome number f (Err e) = refused (number e)

-- Conditions in the order in which they are tried: the number of the first that holds, and 0 where none does.
-- Written `when test₁ n₁ (when test₂ n₂ .. 0)`.
abbrev pub when : Bool → ℕ → ℕ → ℕ
when test n otherwise = cond test n otherwise

-- the outcome of a call whose conditions gave n: its values for 0, and else the refusal alone
unfoldable pub answered : ℕ → List Float → Outcome
answered n values = cond (eqb n 0) (found values) (refused n)

-- ---- an outcome as it crosses to a host: its number is returned, and its values are written to places

-- the places afterwards: the outcome's values, or what was there where it has none
abbrev pub placed : List Float → List Float → List Float
placed [] old = old
placed (x ∷ l) old = x ∷ l

-- A call whose outcome is o returned r and left `after` in places that held `before`.
pub record Answers (o : Outcome) (r : ℕ) (before after : List Float) : Type 0 where
  pub number : r ≡ o.number
  pub place : after ≡ placed o.values before
