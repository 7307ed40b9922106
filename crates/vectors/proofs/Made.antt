-- A list that is written from its start: the places behind what is written stay. (A law that docs/PORT.md names; the check finds `padded` without it.) Assumes nothing.
use Rattle.std.proofs.Common.{◌≡◌, ℕ, ◌+◌, List, drop, set, sym, ap, ◌∙◌, arith, drop-drop, drop-set-lt}
use lib.Ieee.{Float}

-- one place more is written, and those behind it stay
pub behind_more : (l k : List Float) (i : ℕ) (x : Float) → drop i l ≡ drop i k → drop (i + 1) (set l i x) ≡ drop (i + 1) k
behind_more l k i x h = drop-set-lt (i + 1) l i x (omega arith) ∙ sym (drop-drop 1 i l) ∙ ap (drop 1) h ∙ drop-drop 1 i k
