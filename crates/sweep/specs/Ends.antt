-- The first and the last reading of a list, and of one list behind another. Definitions only.
use Rattle.std.specs.Prelude.{◌-◌, ◌&&◌, ◌||◌, cond, List, Option, length, get_or, Float}
use Rattle.sweep.specs.Scan.{not_empty, crossing_at}
use Rattle.sweep.specs.declared.ends.Ends.{Ends}

-- whether a list has readings, its first and its last one; `other` stands in their places where it has none
abbrev pub ends_of : {R : Type 0} → R → List R → Ends R
ends_of other l = record { read = not_empty l; first = get_or l 0 other; last = get_or l (length l - 1) other }

-- of the readings of t behind those of s
abbrev pub ends_behind : {R : Type 0} → Ends R → Ends R → Ends R
ends_behind s t = record { read = s.read || t.read; first = cond s.read s.first t.first; last = cond t.read t.last s.last }

-- the crossing where one goes over into the other: p says where two neighbours cross
abbrev pub crossing_between : {R : Type 0} → (R → R → Option Float) → Ends R → Ends R → Option Float
crossing_between p s t = crossing_at p (s.read && t.read) s.last t.first
