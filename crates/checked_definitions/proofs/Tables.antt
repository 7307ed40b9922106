-- One fact about all rows of the tables, by a test that is computed over each, and what it says of every row. Assumes nothing.
use Prim.Native.Nat.{ℕ, ◌<◌}
use lib.ListN.{length, get_or}
use Rattle.worked_cases.specs.Cases.{Row, Right}
use Rattle.worked_cases.proofs.Rows.{right, AllRight, row_at, ◌and◌}
use Rattle.checked_definitions.specs.Asked.{square_roots, complex_numbers, responses, starts, formulas, quartic, quintic, sextic, septic, octic, searches, regions, endings, ended_at_once, ended_soon, scans, grids, summaries, asked}

square_roots_right : AllRight square_roots
unfolding right square_roots
square_roots_right = record { test = tt }

complex_numbers_right : AllRight complex_numbers
unfolding right complex_numbers
complex_numbers_right = record { test = tt }

responses_right : AllRight responses
unfolding right responses
responses_right = record { test = tt }

starts_right : AllRight starts
unfolding right starts
starts_right = record { test = tt }

formulas_right : AllRight formulas
unfolding right formulas
formulas_right = record { test = tt }

quartic_right : AllRight quartic
unfolding right quartic
quartic_right = record { test = tt }

quintic_right : AllRight quintic
unfolding right quintic
quintic_right = record { test = tt }

sextic_right : AllRight sextic
unfolding right sextic
sextic_right = record { test = tt }

septic_right : AllRight septic
unfolding right septic
septic_right = record { test = tt }

octic_right : AllRight octic
unfolding right octic
octic_right = record { test = tt }

searches_right : AllRight searches
unfolding right searches
searches_right = record { test = tt }

regions_right : AllRight regions
unfolding right regions
regions_right = record { test = tt }

endings_right : AllRight endings
unfolding right endings
endings_right = record { test = tt }

ended_at_once_right : AllRight ended_at_once
unfolding right ended_at_once
ended_at_once_right = record { test = tt }

ended_soon_right : AllRight ended_soon
unfolding right ended_soon
ended_soon_right = record { test = tt }

scans_right : AllRight scans
unfolding right scans
scans_right = record { test = tt }

grids_right : AllRight grids
unfolding right grids
grids_right = record { test = tt }

summaries_right : AllRight summaries
unfolding right summaries
summaries_right = record { test = tt }

pub asked_right : AllRight asked
unfolding asked
asked_right = square_roots_right and complex_numbers_right and responses_right and starts_right and formulas_right and quartic_right and quintic_right and sextic_right and septic_right and octic_right and searches_right and regions_right and endings_right and ended_at_once_right and ended_soon_right and scans_right and grids_right and summaries_right

pub asked_at : (k : ℕ) (d : Row) → k < length asked → Right (get_or asked k d)
asked_at k d h = row_at asked_right k d h
