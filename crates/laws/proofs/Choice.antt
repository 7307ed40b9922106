-- The lesser and the greater of two by a key: choosing the lesser again and again is associative, where the key in the middle is no NaN. A monotone function keeps the choice.
-- Assumes nothing.
use mathlib.Core.Path.{◌≡◌, refl, sym, ◌∙◌, ap}
use mathlib.Core.Bool.{Bool, true, false, cond}
use mathlib.Core.Logic.{◌⊎◌, inl, inr}
use mathlib.Core.List.{List, [], ◌∷◌}
use lib.Ieee.{Float, lt}
use lib.Ieee.Bits.{is_true}
use Rattle.std.specs.Float.{NotNan}
use Rattle.std.proofs.lemmas.Float.{T_from_true, lt_trans}
use Rattle.laws.specs.Loops.{push_all}
use Rattle.laws.specs.Choice.{lesser, greater}
use Rattle.laws.proofs.Order.{lt_numbers, lt_not_trans}

module _ {A : Type 0} (key : A → Float) where
  pub lesser_taken : (m d : A) → lt (key d) (key m) ≡ true → d ≡ lesser key m d
  unfolding lesser
  lesser_taken m d e = rw e

  pub lesser_left : (m d : A) → lt (key d) (key m) ≡ false → m ≡ lesser key m d
  unfolding lesser
  lesser_left m d e = rw e

  pub greater_taken : (m d : A) → lt (key m) (key d) ≡ true → d ≡ greater key m d
  unfolding greater
  greater_taken m d e = rw e

  pub greater_left : (m d : A) → lt (key m) (key d) ≡ false → m ≡ greater key m d
  unfolding greater
  greater_left m d e = rw e

  -- the key of the lesser one is the lesser key
  pub lesser_key : (m d : A) → key (lesser key m d) ≡ lesser (λ (x : Float). x) (key m) (key d)
  unfolding lesser
  lesser_key m d = go (lt (key d) (key m))
    where
      go : (b : Bool) → key (cond b d m) ≡ cond b (key d) (key m)
      go true = refl
      go false = refl

  pub lesser_number : (a d : A) → NotNan (key a) → NotNan (key (lesser key a d))
  unfolding lesser
  lesser_number a d n = go (lt (key d) (key a)) refl
    where
      go : (b : Bool) → lt (key d) (key a) ≡ b → NotNan (key (cond b d a))
      go true e = (lt_numbers (key d) (key a) e).0
      go false e = n

  pub lesser_assoc : (m a d : A) → NotNan (key a) → lesser key (lesser key m a) d ≡ lesser key m (lesser key a d)
  unfolding lesser
  lesser_assoc m a d n = go (lt (key d) (key a)) (lt (key a) (key m)) refl refl
    where
      go : (p q : Bool) → lt (key d) (key a) ≡ p → lt (key a) (key m) ≡ q → lesser key (lesser key m a) d ≡ lesser key m (lesser key a d)
      go true true e f = rw (f, e) (let g : lt (key d) (key m) ≡ true = is_true _ (lt_trans (key d) (key a) (key m) (T_from_true _ e) (T_from_true _ f)) in rw g)
      go true false e f = rw (f, e)
      go false true e f = rw (f, e) (rw f)
      go false false e f = let g : lt (key d) (key m) ≡ false = lt_not_trans (key d) (key a) (key m) n e f in rw (f, e) (rw (g, f))

  -- The least, and the greatest, of m and of what `of` makes of each element of a list.
  module _ {R : Type 0} (of : R → A) where
    abbrev pub least_from : A → List R → A
    least_from m l = push_all (λ (s : A) (r : R). lesser key s (of r)) m l

    abbrev pub greatest_from : A → List R → A
    greatest_from m l = push_all (λ (s : A) (r : R). greater key s (of r)) m l

    pub least_number : (l : List R) (a : A) → NotNan (key a) → NotNan (key (least_from a l))
    least_number [] a n = n
    least_number (r ∷ l) a n = least_number l (lesser key a (of r)) (lesser_number a (of r) n)

    -- a start that is the lesser of two
    pub least_spread : (l : List R) (m a : A) → NotNan (key a) → least_from (lesser key m a) l ≡ lesser key m (least_from a l)
    least_spread [] m a n = refl
    least_spread (r ∷ l) m a n =
        ap (λ (s : A). least_from s l) (lesser_assoc m a (of r) n) ∙ least_spread l m (lesser key a (of r)) (lesser_number a (of r) n)

-- ---- A function that keeps how two floats compare, or gives both the same value, keeps which of the two is chosen.
abbrev pub itself : Float → Float
itself x = x

module _ (f : Float → Float) (x y : Float) (kept : (f x ≡ f y) ⊎ (lt (f x) (f y) ≡ lt x y)) where
  through : (b : Bool) (u v : Float) → f (cond b u v) ≡ cond b (f u) (f v)
  through true u v = refl
  through false u v = refl

  switch : (u v : Float) → (f x ≡ f y → u ≡ v) → cond (lt x y) u v ≡ cond (lt (f x) (f y)) u v
  switch u v h = elim kept [ inl e ↦ either (h e) (lt x y) ∙ sym (either (h e) (lt (f x) (f y))) | inr e ↦ rw e ]
    where
      either : u ≡ v → (b : Bool) → cond b u v ≡ v
      either e true = e
      either e false = refl

  pub greater_kept : f (greater itself x y) ≡ greater itself (f x) (f y)
  unfolding greater
  greater_kept = through (lt x y) y x ∙ switch (f y) (f x) sym

  pub lesser_kept : f (lesser itself y x) ≡ lesser itself (f y) (f x)
  unfolding lesser
  lesser_kept = through (lt x y) x y ∙ switch (f x) (f y) (λ e. e)
