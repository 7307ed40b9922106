-- Scans over a list of readings, of any kind and any length: the first two neighbours that cross. Definitions only.
use Rattle.std.specs.Prelude.{◌≡◌, Bool, true, false, not, ◌&&◌, ◌||◌, cond, List, [], ◌∷◌, ◌++◌, Option, Some, None, Float}
use Rattle.std.specs.Bool.{beq}
use Rattle.std.specs.Option.{option_or}
use Rattle.std.specs.Float.{binary64}
use Rattle.std.specs.Float.Ieee.{add, sub, mul, div, lt, le}
use Rattle.laws.specs.Outcome.{Outcome}
use Rattle.scalar.specs.Scalar.{f0, eps, abs_of}
use Rattle.sweep.specs.Refusal.{lists_refusal}
use Rattle.sweep.specs.Answer.{scanned}

-- ---- the one scan

-- the first of two crossings
abbrev pub or_else : Option Float → Option Float → Option Float
or_else a b = option_or a b

-- The first crossing among neighbours, of a reading x and the list behind it: p says where two neighbours cross.
abbrev pub first_from : {R : Type 0} → (R → R → Option Float) → R → List R → Option Float
first_from p x [] = None
first_from p x (y ∷ ys) = or_else (p x y) (first_from p y ys)

-- The first crossing among the neighbours of a list.
abbrev pub first_pair : {R : Type 0} → (R → R → Option Float) → List R → Option Float
first_pair p [] = None
first_pair p (x ∷ xs) = first_from p x xs

-- ---- one list behind another

-- whether a list has readings
abbrev pub not_empty : {R : Type 0} → List R → Bool
not_empty [] = false
not_empty (x ∷ l) = true

-- The crossing where one list goes over into another: a is the last reading of the first, b the first of the second, and `both` says whether each has readings.
abbrev pub crossing_at : {R : Type 0} → (R → R → Option Float) → Bool → R → R → Option Float
crossing_at p both a b = cond both (p a b) None

-- ---- two neighbours

-- x and y stand next to each other in l
unfoldable pub Neighbours : {R : Type 0} → List R → R → R → Type 0
Neighbours l x y = (before : List _) × (after : List _) × (l ≡ before ++ (x ∷ y ∷ after))

-- a crossing, or what is found there, if the test passes
abbrev pub cross_if : Bool → Float → Option Float
cross_if true w = Some w
cross_if false w = None

-- Whether the values a and b of two neighbours cross. 0: one is ≥ 0 and the other ≤ 0. A level: exactly one lies above it, a NaN not being above.
-- A drop below a level: the first is at or above it, and the second below it. Two values enclose x where a ≤ x ≤ b.
abbrev pub crosses_zero : Float → Float → Bool
crosses_zero a b = (le f0 a && le b f0) || (le a f0 && le f0 b)

abbrev pub crosses_level : Float → Float → Float → Bool
crosses_level l a b = not (beq (lt l a) (lt l b))

abbrev pub drops_below : Float → Float → Float → Bool
drops_below l a b = le l a && lt b l

abbrev pub encloses : Float → Float → Float → Bool
encloses x a b = le a x && le x b

-- The frequency at the part rise / span of the way from w0 to w1, and w0 where span is below eps.
unfoldable pub between : Float → Float → Float → Float → Float
between w0 w1 rise span =
    cond (lt (abs_of span) eps) w0 (add binary64 w0 (mul binary64 (div binary64 rise span) (sub binary64 w1 w0)))

-- ---- lists of numbers as readings: f makes one

-- a reading of zeros
abbrev pub zeros : {R : Type 0} → (Float → Float → Float → R) → R
zeros f = f f0 f0 f0

-- the readings of three lists, as far as the shortest goes
abbrev pub zip3 : {R : Type 0} → (Float → Float → Float → R) → List Float → List Float → List Float → List R
zip3 f [] ys zs = []
zip3 f (x ∷ xs) [] zs = []
zip3 f (x ∷ xs) (y ∷ ys) [] = []
zip3 f (x ∷ xs) (y ∷ ys) (z ∷ zs) = f x y z ∷ zip3 f xs ys zs

-- what a scan of three lists answers, that is defined on their readings
unfoldable pub scanned_by : {R : Type 0} → (Float → Float → Float → R) → (List R → Option Float) → List Float → List Float → List Float → Outcome
scanned_by f scan xs ys zs = scanned (lists_refusal xs ys zs) (scan (zip3 f xs ys zs))
