-- The laws of loops that count up. Assumes nothing.
-- A loop's invariant is one of two. `count_up f (d - i) i a ≡ w`: what is left to do gives the whole loop's outcome w; it begins by `up_begin`, goes on by
-- `up_next` and ends by `up_end`. Or `a ≡ s i`: what is done so far is member i of a sequence s, a filled list or a sum; it ends by `arrived`.
use mathlib.Core.Path.{◌≡◌, refl, sym, ap, ◌∙◌}
use mathlib.Core.Logic.{inl, inr}
use Prim.Native.Nat.{ℕ, zero, suc, ◌+◌, ◌-◌, ◌<◌, ◌≤◌}
use native.Mathlib.Nat.{eq-or-lt_of_le}
use native.Mathlib.Numerals.{add-one}
use native.Mathlib.Omega.{arith}
use mathlib.Core.List.{List, [], ◌∷◌, ◌++◌}
use lib.ListN.{length, set, take, drop, get_or, length-append, get_or-append}
use lib.Seq.{set_at, take_at, drop_at, get_or_at, drop-cons, append_snoc}
use Rattle.laws.specs.Loops.{count_up, up_to, filled, push_all}

module _ {A : Type 0} (f : ℕ → A → A) (d : ℕ) where
  pub up_begin : {a b : A} → a ≡ b → count_up f (d - 0) 0 a ≡ count_up f d 0 b
  up_begin {a} {b} h = let e : d - 0 ≡ d = omega arith in rw (e, h)

  pub up_next : {i : ℕ} {a b w : A} → count_up f (d - i) i a ≡ w → i < d → b ≡ f i a → count_up f (d - (i + 1)) (i + 1) b ≡ w
  unfolding count_up
  up_next {i} {a} {b} {w} inv h g =
      let e : d - i ≡ suc (d - (i + 1)) = omega arith in
      rw (g, add-one) (rw (e, add-one) at inv)

  pub up_end : {i : ℕ} {a w : A} → count_up f (d - i) i a ≡ w → d ≤ i → a ≡ w
  unfolding count_up
  up_end {i} inv h = let e : d - i ≡ zero = omega arith in rw e at inv

-- a sequence that was followed up to n
pub arrived : {A : Type 0} (s : ℕ → A) {i n : ℕ} {a : A} → a ≡ s i → i ≤ n → n ≤ i → a ≡ s n
arrived s {i} {n} e h k = let f : i ≡ n = omega arith in rw f at e

-- ---- filled lists
module _ {A : Type 0} (g : ℕ → A) where
  pub length-up_to : (n : ℕ) → length (up_to g n) ≡ n
  unfolding up_to
  length-up_to zero = refl
  length-up_to (suc n) = simp (length-append, length-up_to n) (omega arith)

  pub up_to_at : (n k : ℕ) (d : A) → k < n → get_or (up_to g n) k d ≡ g k
  unfolding up_to
  up_to_at zero k d h = absurd (omega arith)
  up_to_at (suc n) k d h =
      let m : k ≤ n = omega arith in
      elim (eq-or-lt_of_le m) [
        | inl e ↦ rw e (get_or_at (up_to g n) (g n) [] d n (length-up_to n))
        | inr l ↦ get_or-append (up_to g n) (g n ∷ []) d k (rw (length-up_to n) l) ∙ up_to_at n k d l
      ]

  module _ (l : List A) where
    pub filled_none : l ≡ filled g l 0
    unfolding filled up_to
    filled_none = refl

    pub filled_more : {i : ℕ} {v : A} {k : List A} → k ≡ filled g l i → i < length l → v ≡ g i → set k i v ≡ filled g l (i + 1)
    unfolding filled up_to
    filled_more {i} {v} {k} e h ev =
        rw (e, ev, add-one, drop-cons l i (g i) h)
        (set_at (up_to g i) (get_or l i (g i)) (drop (suc i) l) (g i) i (length-up_to i) ∙ sym (append_snoc (up_to g i) (g i) (drop (suc i) l)))

    -- what was filled, and that nothing else changed
    pub take-filled : (n : ℕ) → take n (filled g l n) ≡ up_to g n
    unfolding filled
    take-filled n = take_at (up_to g n) (drop n l) n (length-up_to n)

    pub drop-filled : (n : ℕ) → drop n (filled g l n) ≡ drop n l
    unfolding filled
    drop-filled n = drop_at (up_to g n) (drop n l) n (length-up_to n)

-- ---- lists that are run through: one list behind another
pub pushed_append : {R S : Type 0} (f : S → R → S) (s : S) (l k : List R) → push_all f s (l ++ k) ≡ push_all f (push_all f s l) k
pushed_append f s [] k = refl
pushed_append f s (x ∷ l) k = pushed_append f (f s x) l k

-- a function of what a run leaves, where it goes through each step from what keeps P
pub pushed_through : {R A B : Type 0} (f : A → B) (step : A → R → A) (next : B → R → B) (P : A → Type 0)
    → ((a : A) (x : R) → P a → P (step a x) × (f (step a x) ≡ next (f a) x)) → (l : List R) (a : A) → P a → f (push_all step a l) ≡ push_all next (f a) l
pushed_through f step next P h [] a p = refl
pushed_through {R} {A} {B} f step next P h (x ∷ l) a p =
    let s = h a x p in
    pushed_through f step next P h l (step a x) s.0 ∙ ap (λ (b : B). push_all next b l) s.1
