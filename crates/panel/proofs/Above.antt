-- What the bit pattern of a value above 0 dB is. Assumes nothing.
use Prim.Native.Nat.{ℕ, ◌^◌, ◌<◌}
use mathlib.Core.Path.{◌≡◌}
use mathlib.Core.Bool.{true}
use borrow.Author.Tests.{ltb-true}
use lib.Dec.{ltb}
use Rattle.std.proofs.lemmas.Bool.{and_parts}
use Rattle.bode.specs.Bode.{Gain}
use Rattle.panel.specs.Scanning.{lies_on}
use Rattle.panel.specs.declared.Side.TheVariants.{Above}

pub above_told : (n : ℕ) → lies_on Gain Above n ≡ true → (0 < n) × (n < 2 ^ 63)
above_told n h =
    let told = and_parts (ltb 0 n) (ltb n (2 ^ 63)) h in
    (ltb-true 0 n told.0, ltb-true n (2 ^ 63) told.1)
