-- The laws of a scan: one list behind another, what "none" means, and the place of the first pair that crosses. Assumes nothing.
use Prim.Native.Nat.{ℕ, zero, suc, ◌+◌, ◌-◌, ◌<◌, ◌≤◌}
use mathlib.Core.Path.{◌≡◌, refl, sym, ◌∙◌, ap}
use mathlib.Core.Bool.{Bool, true, false, ◌&&◌, ◌||◌, cond}
use mathlib.Core.List.{List, [], ◌∷◌, ◌++◌, append-nil}
use native.Mathlib.Omega.{arith}
use lib.ListN.{length, get_or, get_or-eq_default}
use lib.Ieee.{Float}
use Rattle.std.specs.Prelude.{Option, Some, None, Ok, drop}
use Rattle.laws.specs.Outcome.{none}
use Rattle.laws.proofs.Outcome.{apart}
use Rattle.sweep.specs.Answer.{crossing_outcome, or_kept}
use Rattle.sweep.specs.Refusal.{SameLength}
use Rattle.sweep.specs.Scan.{or_else, first_from, first_pair, not_empty, crossing_at, Neighbours, cross_if, zip3}

pub or_else_assoc : (a b c : Option Float) → or_else (or_else a b) c ≡ or_else a (or_else b c)
or_else_assoc (Some w) b c = refl
or_else_assoc None b c = refl

pub or_else_missing : (a : Option Float) → or_else a None ≡ a
or_else_missing (Some w) = refl
or_else_missing None = refl

-- ---- crossings that are kept

pub kept_or : (a b : Option Float) → or_kept (Ok a) b ≡ Ok (or_else a b)
unfolding or_kept
kept_or (Some w) b = refl
kept_or None b = refl

-- ---- one list behind another
module _ {R : Type 0} where
  -- the last of a reading x and the list behind it
  abbrev last_of : R → List R → R
  last_of x [] = x
  last_of x (y ∷ ys) = last_of y ys

  first_append : (p : R → R → Option Float) (x : R) (xs ys : List R) → first_from p x (xs ++ ys) ≡ or_else (first_from p x xs) (first_from p (last_of x xs) ys)
  first_append p x [] ys = refl
  first_append p x (y ∷ xs) ys =
      ap (or_else (p x y)) (first_append p y xs ys) ∙ sym (or_else_assoc (p x y) (first_from p y xs) (first_from p (last_of y xs) ys))

  last_append : (x : R) (xs ys : List R) → last_of x (xs ++ ys) ≡ last_of (last_of x xs) ys
  last_append x [] ys = refl
  last_append x (y ∷ xs) ys = last_append y xs ys

  -- the last of a list by its place
  last_at : (other x : R) (xs : List R) → get_or (x ∷ xs) (length xs) other ≡ last_of x xs
  last_at other x [] = refl
  last_at other x (y ∷ xs) = last_at other y xs

  last_place : (other x : R) (xs : List R) → get_or (x ∷ xs) (length (x ∷ xs) - 1) other ≡ last_of x xs
  last_place other x xs = let e : length (x ∷ xs) - 1 ≡ length xs = omega arith in rw e (last_at other x xs)

  -- Whether there are readings, the first, the last and the first crossing, of k behind l. A list without readings has `other` in the places of its first and its last.
  pub some_append : (l k : List R) → (not_empty l || not_empty k) ≡ not_empty (l ++ k)
  some_append [] k = refl
  some_append (x ∷ l) k = refl

  module _ (other : R) where
    pub first_behind : (l k : List R) → cond (not_empty l) (get_or l 0 other) (get_or k 0 other) ≡ get_or (l ++ k) 0 other
    first_behind [] k = refl
    first_behind (x ∷ l) k = refl

    pub last_behind : (l k : List R) → cond (not_empty k) (get_or k (length k - 1) other) (get_or l (length l - 1) other) ≡ get_or (l ++ k) (length (l ++ k) - 1) other
    last_behind l [] = rw (append-nil l)
    last_behind [] (y ∷ k) = refl
    last_behind (x ∷ l) (y ∷ k) = last_place other y k ∙ sym (last_place other x (l ++ (y ∷ k)) ∙ last_append x l (y ∷ k))

    pub crossing_behind : (p : R → R → Option Float) (l k : List R)
        → or_else (or_else (first_pair p l) (crossing_at p (not_empty l && not_empty k) (get_or l (length l - 1) other) (get_or k 0 other))) (first_pair p k) ≡ first_pair p (l ++ k)
    crossing_behind p [] k = refl
    crossing_behind p (x ∷ l) [] = rw (append-nil l) (or_else_missing _ ∙ or_else_missing _)
    crossing_behind p (x ∷ l) (y ∷ k) = rw (last_place other x l) (or_else_assoc (first_from p x l) (p (last_of x l) y) (first_from p y k) ∙ sym (first_append p x l (y ∷ k)))

-- ---- "none" exactly where no two neighbours cross

left_missing : (a b : Option Float) → or_else a b ≡ None → a ≡ None
left_missing (Some w) b h = h
left_missing None b h = refl

right_missing : (a b : Option Float) → or_else a b ≡ None → b ≡ None
right_missing (Some w) b h = cc
right_missing None b h = h

module _ {R : Type 0} (p : R → R → Option Float) where
  pub missing_crosses_none : (l : List R) → first_pair p l ≡ None → (x y : R) → Neighbours l x y → p x y ≡ None
  unfolding Neighbours
  missing_crosses_none l h x y (before, after, e) = go before (rw e at h)
    where
      go : (b : List R) → first_pair p (b ++ (x ∷ y ∷ after)) ≡ None → p x y ≡ None
      go [] h = left_missing (p x y) (first_from p y after) h
      go (z ∷ b) h =
          left_missing (p x y) (first_from p y after)
          (right_missing (p (last_of z b) x) (or_else (p x y) (first_from p y after))
          (right_missing (first_from p z b) (first_from p (last_of z b) (x ∷ y ∷ after)) (rw (first_append p z b (x ∷ y ∷ after)) at h)))

  pub none_crosses_missing : (l : List R) → ((x y : R) → Neighbours l x y → p x y ≡ None) → first_pair p l ≡ None
  unfolding Neighbours
  none_crosses_missing [] h = refl
  none_crosses_missing (x ∷ []) h = refl
  none_crosses_missing (x ∷ y ∷ l) h =
      let e : p x y ≡ None = h x y ([], l, refl) in
      rw e (none_crosses_missing (y ∷ l) (λ v w n. h v w (x ∷ n.0, n.1, ap (λ (k : List R). x ∷ k) n.2)))

-- what a crossing says in numbers: "none" only where it is missing
pub none_missing : (c : Option Float) → crossing_outcome c ≡ none → c ≡ None
unfolding crossing_outcome
none_missing (Some w) h = absurd (apart h (omega arith))
none_missing None h = refl

pub missing_none : {c : Option Float} → c ≡ None → crossing_outcome c ≡ none
unfolding crossing_outcome
missing_none h = rw h

not_crossing : (b : Bool) (w : Float) → cross_if b w ≡ None → b ≡ false
not_crossing true w h = cc
not_crossing false w h = refl

-- A scan says "none" exactly when no two neighbours cross, p being a test and where two that pass it cross.
module _ {R : Type 0} (test : R → R → Bool) (value : R → R → Float) (p : R → R → Option Float) (said : (x y : R) → p x y ≡ cross_if (test x y) (value x y)) (l : List R) where
  pub none_crosses : crossing_outcome (first_pair p l) ≡ none → (x y : R) → Neighbours l x y → test x y ≡ false
  none_crosses h x y n = not_crossing (test x y) (value x y) (sym (said x y) ∙ missing_crosses_none p l (none_missing (first_pair p l) h) x y n)

  pub crosses_none : ((x y : R) → Neighbours l x y → test x y ≡ false) → crossing_outcome (first_pair p l) ≡ none
  crosses_none h = missing_none (none_crosses_missing p l (λ x y n. said x y ∙ ap (λ (b : Bool). cross_if b (value x y)) (h x y n)))

-- ---- a scan from pair to pair: what the pairs from a place on say
module _ {R : Type 0} (p : R → R → Option Float) (other : R) where
  from_next : (l : List R) (i : ℕ) → suc i < length l → p (get_or l i other) (get_or l (suc i) other) ≡ None → first_pair p (drop i l) ≡ first_pair p (drop (suc i) l)
  from_next [] i h e = absurd (omega arith)
  from_next (x ∷ []) i h e = absurd (omega arith)
  from_next (x ∷ y ∷ l) zero h e = rw e
  from_next (x ∷ y ∷ l) (suc i) h e = from_next (y ∷ l) i (omega arith) e

  from_found : (l : List R) (i : ℕ) {w : Float} → suc i < length l → p (get_or l i other) (get_or l (suc i) other) ≡ Some w → first_pair p (drop i l) ≡ Some w
  from_found [] i h e = absurd (omega arith)
  from_found (x ∷ []) i h e = absurd (omega arith)
  from_found (x ∷ y ∷ l) zero h e = rw e
  from_found (x ∷ y ∷ l) (suc i) h e = from_found (y ∷ l) i (omega arith) e

  from_last : (l : List R) (i : ℕ) → length l ≤ suc i → first_pair p (drop i l) ≡ None
  from_last [] zero h = refl
  from_last [] (suc i) h = refl
  from_last (x ∷ []) zero h = refl
  from_last (x ∷ []) (suc zero) h = refl
  from_last (x ∷ []) (suc (suc i)) h = refl
  from_last (x ∷ y ∷ l) zero h = absurd (omega arith)
  from_last (x ∷ y ∷ l) (suc i) h = from_last (y ∷ l) i (omega arith)

  -- the pair that ends at place i, and those behind it
  module _ (l : List R) {i : ℕ} (h : 0 < i) where
    back : suc (i - 1) ≡ i
    back = omega arith

    pub pair_next : i < length l → p (get_or l (i - 1) other) (get_or l i other) ≡ None → first_pair p (drop (i - 1) l) ≡ first_pair p (drop (i + 1 - 1) l)
    pair_next k e = let f : i + 1 - 1 ≡ suc (i - 1) = omega arith in rw f (from_next l (i - 1) (omega arith) (rw back e))

    pub pair_found : {w : Float} → i < length l → p (get_or l (i - 1) other) (get_or l i other) ≡ Some w → first_pair p (drop (i - 1) l) ≡ Some w
    pair_found k e = from_found l (i - 1) (omega arith) (rw back e)

    pub pairs_done : length l ≤ i → first_pair p (drop (i - 1) l) ≡ None
    pairs_done k = from_last l (i - 1) (omega arith)

-- ---- the readings of three lists of one length
module _ {R : Type 0} (f : Float → Float → Float → R) where
  pub zip3_length : (xs ys zs : List Float) (n : ℕ) → length xs ≡ n → length ys ≡ n → length zs ≡ n → length (zip3 f xs ys zs) ≡ n
  zip3_length [] ys zs n hx hy hz = hx
  zip3_length (x ∷ xs) [] zs n hx hy hz = hy
  zip3_length (x ∷ xs) (y ∷ ys) [] n hx hy hz = hz
  zip3_length (x ∷ xs) (y ∷ ys) (z ∷ zs) zero hx hy hz = absurd (omega arith)
  zip3_length (x ∷ xs) (y ∷ ys) (z ∷ zs) (suc n) hx hy hz = ap suc (zip3_length xs ys zs n (omega arith) (omega arith) (omega arith))

  -- the reading at a place
  pub zip3_at : (other : R) (d : Float) (xs ys zs : List Float) (k : ℕ) → k < length (zip3 f xs ys zs) → get_or (zip3 f xs ys zs) k other ≡ f (get_or xs k d) (get_or ys k d) (get_or zs k d)
  zip3_at other d [] ys zs k h = absurd (omega arith)
  zip3_at other d (x ∷ xs) [] zs k h = absurd (omega arith)
  zip3_at other d (x ∷ xs) (y ∷ ys) [] k h = absurd (omega arith)
  zip3_at other d (x ∷ xs) (y ∷ ys) (z ∷ zs) zero h = refl
  zip3_at other d (x ∷ xs) (y ∷ ys) (z ∷ zs) (suc k) h = zip3_at other d xs ys zs k (omega arith)

  module _ (xs ys zs : List Float) (same : SameLength xs ys zs) where
    pub zip3_same : length (zip3 f xs ys zs) ≡ length xs
    zip3_same = zip3_length xs ys zs (length xs) refl same.second same.third

    pub zip3_in : (other : R) (d : Float) {i : ℕ} → i < length xs → f (get_or xs i d) (get_or ys i d) (get_or zs i d) ≡ get_or (zip3 f xs ys zs) i other
    zip3_in other d {i} h = let n = zip3_same in sym (zip3_at other d xs ys zs i (omega arith))

    pub zip3_past : (other : R) {i : ℕ} → length xs ≤ i → other ≡ get_or (zip3 f xs ys zs) i other
    zip3_past other {i} h = let n = zip3_same in sym (get_or-eq_default (zip3 f xs ys zs) other (omega arith))
