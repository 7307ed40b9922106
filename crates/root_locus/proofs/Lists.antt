-- A list that a loop runs through by its index. The loop's invariant, `push_all f s (drop k l) ≡ w`, says that what is left gives the whole run's outcome w; where
-- a loop runs through the first n of a list and a definition f of lists says the outcome, it is `f (drop i (take n l)) ≡ w`. (Laws that docs/PORT.md and docs/requests/W1.md name, and no proof here needs.) Assumes nothing.
use Rattle.std.proofs.Common.{◌≡◌, ℕ, ◌+◌, ◌<◌, ◌≤◌, List, [], ◌∷◌, length, get_or, take, drop, add-one, drop_of_length-le, length-take-le, drop-cons, get_or-take}
use Rattle.laws.specs.Loops.{push_all}

module _ {R S : Type 0} (f : S → R → S) (l : List R) where
  pub run_next : (k : ℕ) {s t w : S} (d : R) → push_all f s (drop k l) ≡ w → k < length l → t ≡ f s (get_or l k d) → push_all f t (drop (k + 1) l) ≡ w
  run_next k d inv h e = rw (e, add-one) (rw (drop-cons l k d h) at inv)

  pub run_end : (k : ℕ) {s w : S} → push_all f s (drop k l) ≡ w → length l ≤ k → s ≡ w
  run_end k inv h = rw (drop_of_length-le l h) at inv

module _ {A B : Type 0} (f : List A → B) (l : List A) (n i : ℕ) {w : B} (h : n ≤ length l) (inv : f (drop i (take n l)) ≡ w) where
  pub first_next : (d : A) → i < n → f (get_or l i d ∷ drop (i + 1) (take n l)) ≡ w
  first_next d k =
      let m : i < length (take n l) = rw (length-take-le n l h) k in
      rw (add-one, ← get_or-take n l i d k) (rw (drop-cons (take n l) i d m) at inv)

  pub first_end : n ≤ i → f [] ≡ w
  first_end k = rw (drop_of_length-le (take n l) {i = i} (rw (length-take-le n l h) k)) at inv
