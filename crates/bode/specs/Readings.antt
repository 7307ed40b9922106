-- A slice of readings as three lists. Definitions only.
use Rattle.std.specs.Prelude.{List, map, Float}
use Rattle.bode.specs.declared.Reading.{Reading}

abbrev pub omegas : List Reading → List Float
omegas rs = map (λ (r : Reading). r.omega) rs

abbrev pub dbs : List Reading → List Float
dbs rs = map (λ (r : Reading). r.db) rs

abbrev pub phases : List Reading → List Float
phases rs = map (λ (r : Reading). r.phase) rs
