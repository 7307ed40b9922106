-- What a summary keeps as plain numbers, for a host to keep between calls: marks and values. Marks and values are 0 where there is nothing. Definitions only.
use Rattle.std.specs.Prelude.{ℕ, Bool, true, false, not, cond, Option, Some, None, Result, Ok, Err, eqb, Float}
use Rattle.scalar.specs.Scalar.{f0}
use Rattle.sweep.specs.declared.NotKept.{NotKept}

-- 1 where there are readings, or 0; any mark but 0 says that there are
abbrev pub read_mark : Bool → ℕ
read_mark true = 1
read_mark false = 0

abbrev pub marked_read : ℕ → Bool
marked_read mark = not (eqb mark 0)

-- 1 and the frequency, or 0 and 0
abbrev pub crossing_mark : Option Float → ℕ
crossing_mark (Some x) = 1
crossing_mark None = 0

abbrev pub crossing_value : Option Float → Float
crossing_value (Some x) = x
crossing_value None = f0

-- the crossing of a mark and a value: any mark but 0 says that the value counts
abbrev pub marked_crossing : ℕ → Float → Option Float
marked_crossing mark x = cond (eqb mark 0) None (Some x)

-- 1 and the frequency, 0 where there is none, 2 where it is not kept
abbrev pub kept_mark : Result (Option Float) NotKept → ℕ
kept_mark (Ok (Some x)) = 1
kept_mark (Ok None) = 0
kept_mark (Err e) = 2

abbrev pub kept_value : Result (Option Float) NotKept → Float
kept_value (Ok (Some x)) = x
kept_value (Ok None) = f0
kept_value (Err e) = f0

-- any mark but 0 and 1 says that it is not kept
abbrev pub marked_kept : ℕ → Float → Result (Option Float) NotKept
marked_kept mark x = cond (eqb mark 0) (Ok None) (cond (eqb mark 1) (Ok (Some x)) (Err (record {})))
