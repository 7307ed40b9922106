-- Lists that the replay programs read. Definitions only.
use Rattle.std.specs.Prelude.{◌≡◌, ℕ, ◌+◌, ◌%◌, ◌^◌, ◌≤◌, min, cond, List, length, drop, ◌==◌, Float}

-- The length of a list of `count` floats with `pad` copies of the first before it, where there are `room` places: 0 where `count` is 0, cut off where it does not
-- fit. The sum goes round at 2^64.
unfoldable pub made_length : ℕ → ℕ → ℕ → ℕ
made_length room pad count = cond (count == 0) 0 (min room ((pad + count) % 2 ^ 64))

-- Such a list was made at the start of a lent list, `made` long; the places behind it stay. Which floats were read is not said.
pub record Made (pad count : ℕ) (before after : List Float) (made : ℕ) : Type 0 where
  pub long : made ≡ made_length (length before) pad count
  pub fits : made ≤ length before
  pub room : length after ≡ length before
  pub behind : drop made after ≡ drop made before
