-- The order of floats beyond std's laws of it: those laws where a comparison's answer is known, and that two values of a format, each at most the other, are the same.
-- Assumes nothing.
use Prim.Native.Nat.{ℕ, ◌+◌, ◌-◌, ◌*◌, ◌/◌, ◌^◌}
use mathlib.Core.Path.{◌≡◌, refl, sym, ◌∙◌, ap}
use mathlib.Core.Bool.{Bool, true, false}
use native.Mathlib.Nat.{mul_right_comm, le_antisymm}
use lib.IntN.{ℤ}
use lib.Dec.{T, T_not}
use lib.Ieee.{Float, nan, inf, fin, Format, prec, low, hid, up, down, size, lt, le, ne, is_nan, fits, to_bits, of_bits}
use lib.Ieee.Compare.{differs_from_itself}
use lib.Ieee.Fits.{down_pos}
use lib.Ieee.Nearest.{div_same}
use lib.Ieee.Bits.{of_bits-to_bits}
use lib.Ieee.Positive.{above, above_of_le, le→cross}
use Rattle.std.specs.Float.{NotNan}
use Rattle.std.proofs.lemmas.Bool.{false_from_ne_true}
use Rattle.std.proofs.lemmas.Float.{T_from_true, T_from_false, le_left, le_right, le_of_lt, le_of_not-lt, lt_irrefl, lt_of_le_of_lt, lt_of_lt_of_le}

pub greatest : (x : Float) → NotNan x → T (le x (inf false))
unfolding le is_nan
greatest nan h = h
greatest (inf true) h = tt
greatest (inf false) h = tt
greatest (fin s m e) h = tt

-- ---- `le` and `lt` exclude each other

pub not_lt_of_le : (x y : Float) → T (le x y) → lt y x ≡ false
not_lt_of_le x y h = false_from_ne_true _ (λ e. lt_irrefl x (lt_of_le_of_lt x y x h (T_from_true _ e)))

pub not_le_of_lt : (x y : Float) → lt x y ≡ true → le y x ≡ false
not_le_of_lt x y h = false_from_ne_true _ (λ e. lt_irrefl x (lt_of_lt_of_le x y x (T_from_true _ h) (T_from_true _ e)))

-- ---- the strict order's laws

pub lt_numbers : (x y : Float) → lt x y ≡ true → NotNan x × NotNan y
lt_numbers x y h = let l = le_of_lt x y (T_from_true _ h) in (le_left x y l, le_right x y l)

pub lt_not_trans : (x y z : Float) → NotNan y → lt x y ≡ false → lt y z ≡ false → lt x z ≡ false
lt_not_trans x y z n h k =
    false_from_ne_true _
    (λ e. T_not _ (T_from_false _ h) (lt_of_lt_of_le x z y (T_from_true _ e) (le_of_not-lt y z n (lt_numbers x z e).1 (T_from_false _ k))))

pub lt_asym : (x y : Float) → lt x y ≡ true → lt y x ≡ false
lt_asym x y h = not_lt_of_le x y (le_of_lt x y (T_from_true _ h))

pub not_lt_itself : (x : Float) → lt x x ≡ false
not_lt_itself x = false_from_ne_true _ (λ e. lt_irrefl x (T_from_true _ e))

-- ---- two values of a format that are above zero, each at most the other, are the same

same_bits : (f : Format) (m : ℕ) (e : ℤ) (n : ℕ) (d : ℤ) → m * up e * down d ≡ n * up d * down e → to_bits f (fin false m e) ≡ to_bits f (fin false n d)
unfolding to_bits
same_bits f m e n d h =
    ap (λ (x : ℕ). 0 + (size x - prec f) * hid f + x / 2 ^ (size x - prec f))
    (div_same (m * up e * 2 ^ low f) (down e) (n * up d * 2 ^ low f) (down d) (down_pos e) (down_pos d)
    (mul_right_comm (m * up e) (2 ^ low f) (down d) ∙ ap (λ (x : ℕ). x * 2 ^ low f) h ∙ mul_right_comm (n * up d) (down e) (2 ^ low f)))

pub le_antisym : (f : Format) (x y : Float) → T (fits f x) → T (fits f y) → T (above x) → T (le x y) → T (le y x) → x ≡ y
le_antisym f nan y p q a h k = absurd a
le_antisym f (inf true) y p q a h k = absurd a
le_antisym f (inf false) nan p q a h k = absurd (unfold le in h)
le_antisym f (inf false) (inf true) p q a h k = absurd (unfold le in h)
le_antisym f (inf false) (inf false) p q a h k = refl
le_antisym f (inf false) (fin t n d) p q a h k = absurd (unfold le in h)
le_antisym f (fin true m e) y p q a h k = absurd a
le_antisym f (fin false m e) nan p q a h k = absurd (unfold le in h)
le_antisym f (fin false m e) (inf true) p q a h k = absurd (unfold le in h)
le_antisym f (fin false m e) (inf false) p q a h k = absurd (unfold le in k)
le_antisym f (fin false m e) (fin true n d) p q a h k = absurd (above_of_le (fin false m e) (fin true n d) a h)
le_antisym f (fin false m e) (fin false n d) p q a h k =
    let x = fin false m e in
    let y = fin false n d in
    let b : T (above y) = above_of_le x y a h in
    sym (of_bits-to_bits f x p) ∙ ap (of_bits f) (same_bits f m e n d (le_antisymm (le→cross x y a b h) (le→cross y x b a k))) ∙ of_bits-to_bits f y q

-- only a NaN differs from itself (a law that docs/requests/W1.md names, and no proof here needs)
pub ne_itself : (x : Float) → ne x x ≡ is_nan x
unfolding is_nan
ne_itself nan = unfold ne in refl
ne_itself (inf true) = unfold ne in refl
ne_itself (inf false) = unfold ne in refl
ne_itself (fin s m e) = go (ne (fin s m e) (fin s m e)) refl
  where
    go : (b : Bool) → ne (fin s m e) (fin s m e) ≡ b → b ≡ false
    go false h = refl
    go true h = let d : fin s m e ≡ nan = differs_from_itself (fin s m e) (rw h tt) in cc
