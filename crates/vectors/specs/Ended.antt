-- What a read that failed leaves. Definitions only.
use Rattle.std.specs.Prelude.{◌≡◌, IsSome}
use Rattle.vectors.specs.declared.Input.{Input}

-- after a read that failed nothing is read: the input stays as it was
abbrev pub Ended : Input → Input → Type 0
Ended before after = IsSome before.failed → after ≡ before
