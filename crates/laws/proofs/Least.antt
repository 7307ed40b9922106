-- The least of a list from a start whose key is a number: nothing that was passed is less, and one list behind another gives the lesser of both.
-- Assumes nothing.
use mathlib.Core.Path.{◌≡◌, refl, sym, ◌∙◌, ap}
use mathlib.Core.Bool.{Bool, true, false, cond}
use mathlib.Core.List.{List, [], ◌∷◌, ◌++◌}
use lib.Ieee.{Float, lt}
use Rattle.std.specs.Float.{NotNan}
use Rattle.laws.specs.Choice.{lesser}
use Rattle.laws.proofs.Order.{lt_not_trans, lt_asym, not_lt_itself}
use Rattle.laws.proofs.Loops.{pushed_append}
use Rattle.laws.proofs.Choice.{lesser_left, lesser_number, least_from, least_number, least_spread}

module _ {A : Type 0} (key : A → Float) where
  -- neither of two is less than the lesser
  first_not_less : (m d : A) → lt (key m) (key (lesser key m d)) ≡ false
  unfolding lesser
  first_not_less m d = go (lt (key d) (key m)) refl
    where
      go : (b : Bool) → lt (key d) (key m) ≡ b → lt (key m) (key (cond b d m)) ≡ false
      go true e = lt_asym (key d) (key m) e
      go false e = not_lt_itself (key m)

  second_not_less : (m d : A) → lt (key d) (key (lesser key m d)) ≡ false
  unfolding lesser
  second_not_less m d = go (lt (key d) (key m)) refl
    where
      go : (b : Bool) → lt (key d) (key m) ≡ b → lt (key d) (key (cond b d m)) ≡ false
      go true e = not_lt_itself (key d)
      go false e = e

  module _ {R : Type 0} (of : R → A) where
    start_not_less : (l : List R) (s : A) → NotNan (key s) → lt (key s) (key (least_from key of s l)) ≡ false
    start_not_less [] s n = not_lt_itself (key s)
    start_not_less (r ∷ l) s n =
        let t = lesser key s (of r) in
        let k = lesser_number key s (of r) n in
        lt_not_trans (key s) (key t) (key (least_from key of t l)) k (first_not_less s (of r)) (start_not_less l t k)

    module _ (s : A) (n : NotNan (key s)) where
      abbrev least : List R → A
      least l = least_from key of s l

      -- one list behind another
      pub least_append : (l k : List R) → least (l ++ k) ≡ lesser key (least l) (least k)
      least_append l k =
          pushed_append _ s l k
          ∙ ap (λ (m : A). least_from key of m k) (lesser_left key (least l) s (start_not_less l s n))
          ∙ least_spread key of k (least l) s n

      -- what is not less than the start is passed over, wherever it stands
      pub least_passes : (l : List R) (r : R) (k : List R) → lt (key (of r)) (key s) ≡ false → least (l ++ r ∷ k) ≡ least (l ++ k)
      least_passes l r k h =
          least_append l (r ∷ k)
          ∙ ap (λ (m : A). lesser key (least l) (least_from key of m k)) (sym (lesser_left key s (of r) h))
          ∙ sym (least_append l k)

      -- nothing in the list is less
      pub least_not_above : (l : List R) (r : R) (k : List R) → lt (key (of r)) (key (least (l ++ r ∷ k))) ≡ false
      least_not_above l r k =
          let m = lesser key (least l) (of r) in
          let p = lesser_number key (least l) (of r) (least_number key of l s n) in
          rw (pushed_append (λ (a : A) (r : R). lesser key a (of r)) s l (r ∷ k))
          (lt_not_trans (key (of r)) (key m) (key (least_from key of m k)) p (second_not_less (least l) (of r)) (start_not_less k m p))
