-- Loops and grids as they cross to a host. Definitions only.
use Rattle.std.specs.Prelude.{ℕ, ◌≡◌, List, Float}
use Rattle.laws.specs.Outcome.{Outcome}
use Rattle.transfer_fn.specs.declared.TransferFn.{TransferFn}
use Rattle.sensitivity.specs.declared.LoopShaping.{LoopShaping}

abbrev pub loop_shaping : TransferFn → TransferFn → LoopShaping
loop_shaping plant controller = record { plant = plant; controller = controller }

-- A call whose outcome is o returned r and left the list `after`, which is to be `list`.
pub record Filled (o : Outcome) (list : List Float) (r : ℕ) (after : List Float) : Type 0 where
  pub number : r ≡ o.number
  pub places : after ≡ list
