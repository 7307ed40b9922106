-- The nearest point of a curve: the law of one curve behind another, its distance, and where it is found. Assumes nothing.
use mathlib.Core.Path.{◌≡◌, refl, sym, ap, ◌∙◌}
use mathlib.Core.Bool.{Bool, true, false, true≢false}
use mathlib.Core.List.{List, [], ◌∷◌, ◌++◌}
use lib.Dec.{T_not}
use lib.Ieee.{Float, nan, inf, fin, lt, le, is_nan, of_bits}
use lib.Ieee.Bits.{is_true}
use Rattle.std.specs.Float.{NotNan}
use Rattle.std.proofs.lemmas.Bool.{false_from_ne_true}
use Rattle.std.proofs.lemmas.Float.{T_from_true, T_from_false, le_refl, lt_of_le_of_lt}
use Rattle.std.specs.Prelude.{Option, Some, None}
use Rattle.laws.specs.Choice.{lesser}
use Rattle.laws.proofs.Order.{lt_numbers, not_lt_itself, not_le_of_lt}
use Rattle.laws.proofs.Loops.{pushed_through}
use Rattle.laws.proofs.Choice.{itself, lesser_taken, lesser_left, lesser_key, least_from, least_number, least_spread}
use Rattle.laws.proofs.Least.{least_append}
use Rattle.scalar.specs.Sqrt.{sqrt_of}
use Rattle.complex.specs.declared.Complex.{Complex}
use Rattle.nyquist.specs.Curve.{point_square, least_square, infinity, or_zero, distance_of}
use Rattle.nyquist.specs.Summary.{key_of, nearest_of, first_within}
use Rattle.nyquist.proofs.Roots.{one_root}

pub none_number : NotNan (key_of None)
unfolding key_of of_bits is_nan
none_number = tt

-- ---- one curve behind another has the nearer of both nearest points
pub nearest_append : (l k : List Complex) → lesser key_of (nearest_of l) (nearest_of k) ≡ nearest_of (l ++ k)
unfolding nearest_of
nearest_append l k = sym (least_append key_of Some None none_number l k)

pub nearest_number : (l : List Complex) → NotNan (key_of (nearest_of l))
unfolding nearest_of
nearest_number l = least_number key_of Some l None none_number

-- ---- the square of the nearest point's distance is the least square, whose root is the distance of the curve

key_least : (l : List Complex) (n : Option Complex) → key_of (least_from key_of Some n l) ≡ least_from itself point_square (key_of n) l
unfolding key_of
key_least l n = pushed_through key_of _ _ (λ (n : Option Complex). Unit {0}) (λ n z u. (tt, lesser_key key_of n (Some z))) l n tt

pub key_nearest : (l : List Complex) → key_of (nearest_of l) ≡ least_square l
unfolding nearest_of least_square key_of
key_nearest l = key_least l None

pub nearest_distance : (l : List Complex) → or_zero (sqrt_of (key_of (nearest_of l))) ≡ distance_of l
nearest_distance l = ap (λ (m : Float). or_zero (sqrt_of m)) (key_nearest l) ∙ one_root l

-- ---- the first point within the least square is the nearest one

-- nothing is above infinity
pub none_above : (x : Float) → lt infinity x ≡ false
unfolding of_bits lt
none_above nan = refl
none_above (inf true) = refl
none_above (inf false) = refl
none_above (fin s m e) = refl

-- the nearest of n and a list's points
abbrev nearest_from : Option Complex → List Complex → Option Complex
nearest_from n l = least_from key_of Some n l

nearer_of_both : (n : Option Complex) (l : List Complex) → nearest_from n l ≡ lesser key_of n (nearest_from None l)
unfolding key_of
nearer_of_both n l = ap (λ (a : Option Complex). nearest_from a l) (lesser_left key_of n None (none_above (key_of n))) ∙ least_spread key_of Some l n None none_number

-- it is n, where it is no nearer
same_start : (n : Option Complex) (l : List Complex) → lt (key_of (nearest_from n l)) (key_of n) ≡ false → nearest_from n l ≡ n
same_start n l h = go (lt (key_of (nearest_from None l)) (key_of n)) refl
  where
    go : (b : Bool) → lt (key_of (nearest_from None l)) (key_of n) ≡ b → nearest_from n l ≡ n
    go true e =
        let s = lesser_taken key_of n (nearest_from None l) e in
        absurd (true≢false (sym e ∙ ap (λ (a : Option Complex). lt (key_of a) (key_of n)) (s ∙ sym (nearer_of_both n l)) ∙ h))
    go false e = nearer_of_both n l ∙ sym (lesser_left key_of n (nearest_from None l) e)

within_itself : (x : Float) → NotNan x → le x x ≡ true
within_itself x n = is_true _ (le_refl x n)

-- what is not below n is not at most what is below n
not_within : (x m n : Float) → lt x n ≡ false → lt m n ≡ true → le x m ≡ false
not_within x m n h k = false_from_ne_true _ (λ e. T_not _ (T_from_false _ h) (lt_of_le_of_lt x m n (T_from_true _ e) (T_from_true _ k)))

within_here : (m : Float) (z : Complex) (l : List Complex) → le (point_square z) m ≡ true → first_within m (z ∷ l) ≡ Some z
unfolding first_within
within_here m z l h = rw h

within_next : (m : Float) (z : Complex) (l : List Complex) → le (point_square z) m ≡ false → first_within m (z ∷ l) ≡ first_within m l
unfolding first_within
within_next m z l h = rw h

-- what is found, where it is nearer than n
abbrev Found : Option Complex → List Complex → List Complex → Type 0
Found n l k = first_within (key_of (nearest_from n l)) k ≡ nearest_from n l

-- z is nearer than any before it, and the nearest of l may be nearer yet
found_from : (z : Complex) (l : List Complex) → NotNan (key_of (Some z)) → (lt (key_of (nearest_from (Some z) l)) (key_of (Some z)) ≡ true → Found (Some z) l l) → Found (Some z) l (z ∷ l)
unfolding key_of
found_from z l p h = go (lt (key_of (nearest_from (Some z) l)) (key_of (Some z))) refl
  where
    go : (b : Bool) → lt (key_of (nearest_from (Some z) l)) (key_of (Some z)) ≡ b → Found (Some z) l (z ∷ l)
    go true e = within_next (key_of (nearest_from (Some z) l)) z l (not_le_of_lt (key_of (nearest_from (Some z) l)) (point_square z) e) ∙ h e
    go false e = let s = same_start (Some z) l e in rw s (within_here (key_of (Some z)) z l (within_itself (point_square z) p))

within_least : (l : List Complex) (n : Option Complex) → lt (key_of (nearest_from n l)) (key_of n) ≡ true → Found n l l
unfolding key_of
within_least [] n h = absurd (true≢false (sym h ∙ not_lt_itself (key_of n)))
within_least (z ∷ l) n h = go (lt (key_of (Some z)) (key_of n)) refl (within_least l)
  where
    go : (b : Bool) → lt (key_of (Some z)) (key_of n) ≡ b → ((a : Option Complex) → lt (key_of (nearest_from a l)) (key_of a) ≡ true → Found a l l) → Found (lesser key_of n (Some z)) l (z ∷ l)
    go true e k =
        let s = lesser_taken key_of n (Some z) e in
        rw (sym s) (found_from z l (lt_numbers (key_of (Some z)) (key_of n) e).0 (k (Some z)))
    go false e k =
        let s = sym (lesser_left key_of n (Some z) e) in
        let below : lt (key_of (nearest_from n l)) (key_of n) ≡ true = rw s at h in
        rw s (within_next (key_of (nearest_from n l)) z l (not_within (point_square z) (key_of (nearest_from n l)) (key_of n) e below) ∙ k n below)

pub within_nearest : (l : List Complex) → lt (key_of (nearest_of l)) infinity ≡ true → first_within (key_of (nearest_of l)) l ≡ nearest_of l
unfolding nearest_of key_of
within_nearest l h = within_least l None h
