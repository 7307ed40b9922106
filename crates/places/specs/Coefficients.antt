-- A transfer function as it crosses to a host. Definitions only.
use Rattle.std.specs.Prelude.{ℕ, List, Float}
use Rattle.transfer_fn.specs.declared.TransferFn.{TransferFn}

abbrev pub transfer_fn : List Float → List Float → ℕ → TransferFn
transfer_fn b a order = record { b = b; a = a; order = order }
