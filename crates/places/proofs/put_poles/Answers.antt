use Rattle.std.proofs.Common.{rules, ℕ, ◌/◌, ◌%◌, cond, eqb}
use lib.Ieee.{nan, Float}
use Rattle.places.specs.Complex.{real_at, imaginary_at}
use Rattle.laws.proofs.Made.{made_by}
use Rattle.places.proofs.put_poles.Goals as goal

pub returns : goal.returns
returns c =
    let part : ℕ → Float = λ i. cond (eqb (i % 2) 0) (real_at c.args.z (i / 2)) (imaginary_at c.args.z (i / 2)) in
    made_by _ part _ nan (λ i r f' k. search rules) c.from_fn.result 16 c.from_fn.ensures.items
