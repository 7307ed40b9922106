-- One fact about all rows of the table, by a test that is computed over it, and what it says of every row. Assumes nothing.
use Prim.Native.Nat.{ℕ, ◌<◌}
use lib.ListN.{length, get_or}
use Rattle.worked_cases.specs.Cases.{Row, Right}
use Rattle.worked_cases.specs.Worked.{worked}
use Rattle.worked_cases.proofs.Rows.{right, AllRight, row_at}

pub worked_right : AllRight worked
unfolding right worked
worked_right = record { test = tt }

pub worked_at : (k : ℕ) (d : Row) → k < length worked → Right (get_or worked k d)
worked_at k d h = row_at worked_right k d h
