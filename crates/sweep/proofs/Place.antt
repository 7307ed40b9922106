-- The place of the first crossing: a scan answers what the first pair that crosses says. Assumes nothing.
use Prim.Native.Nat.{ℕ, zero, suc, ◌+◌, ◌-◌, ◌<◌, ◌≤◌}
use mathlib.Core.Path.{◌≡◌, refl, sym, ◌∙◌, ap}
use mathlib.Core.Bool.{Bool, true, false, cond}
use mathlib.Core.List.{List, [], ◌∷◌}
use native.Mathlib.Nat.{add-zero, zero-add, add-suc, suc-add}
use native.Mathlib.Numerals.{add-one}
use native.Mathlib.Omega.{arith}
use borrow.Author.Tests.{lt-ltb, le-ltb, ltb-true, ltb-false}
use lib.Dec.{ltb}
use lib.ListN.{length, get_or}
use lib.Ieee.{Float, nan}
use Rattle.std.specs.Prelude.{Option, Some, None}
use Rattle.sweep.specs.Scan.{or_else, first_from, first_pair, cross_if, zip3}
use Rattle.sweep.proofs.Scans.{zip3_length, zip3_at}

-- the first k, of the n from i on, that passes a test, and i + n where none does
unfoldable pub first_where : (ℕ → Bool) → ℕ → ℕ → ℕ
first_where test zero i = i
first_where test (suc n) i = cond (test i) i (first_where test n (suc i))

-- the end of a loop that looks for it (a law that docs/PORT.md names, and no proof here needs)
pub search_end_lem : (test : ℕ → Bool) (d : ℕ) {i w : ℕ} → first_where test (d - i) i ≡ w → d ≤ i → i ≡ w
unfolding first_where
search_end_lem test d {i} inv h = let e : d - i ≡ zero = omega arith in rw e at inv

-- a test on two numbers, and on the next ones
both_more : (a b : ℕ) → ltb a b ≡ ltb (a + 1) (suc b)
both_more a b = go (ltb a b) refl
  where
    go : (t : Bool) → ltb a b ≡ t → t ≡ ltb (a + 1) (suc b)
    go true e = let h = ltb-true a b e in sym (lt-ltb (a + 1) (suc b) (omega arith))
    go false e = let h : b ≤ a = ltb-false a b e in sym (le-ltb (a + 1) (suc b) (omega arith))

-- The answer is what the first pair that crosses says: test k is whether the readings at k and k + 1 cross, and value k where.
module _ {R : Type 0} (p : R → R → Option Float) (other : R) (test : ℕ → Bool) (value : ℕ → Float) where
  -- a pair, and what the pairs behind it say
  one_more : (i n : ℕ) (b : Bool) → test i ≡ b → (here rest : Option Float) → here ≡ cross_if (test i) (value i)
      → rest ≡ cross_if (ltb (first_where test n (suc i)) (suc i + n)) (value (first_where test n (suc i)))
      → or_else here rest ≡ cross_if (ltb (first_where test (suc n) i) (i + suc n)) (value (first_where test (suc n) i))
  unfolding first_where
  one_more i n true e here rest h r = rw (h, e) (rw (lt-ltb i (i + suc n) (omega arith)))
  one_more i n false e here rest h r = rw (h, e) (rw (add-suc i n, ← suc-add i n) r)

  from_place : (i : ℕ) (y : R) (l : List R) → ((k : ℕ) → k < length l → p (get_or (y ∷ l) k other) (get_or l k other) ≡ cross_if (test (i + k)) (value (i + k)))
      → first_from p y l ≡ cross_if (ltb (first_where test (length l) i) (i + length l)) (value (first_where test (length l) i))
  unfolding first_where
  from_place i y [] said = ap (λ (b : Bool). cross_if b (value i)) (sym (le-ltb i (i + 0) (omega arith)))
  from_place i y (z ∷ l) said =
      one_more i (length l) (test i) refl (p y z) (first_from p z l) (rw (add-zero i) at (said 0 (omega arith)))
      (from_place (suc i) z l (λ k h. rw (suc-add i k, ← add-suc i k) (said (suc k) (omega arith))))

  pub pair_place : (l : List R) → ((k : ℕ) → k + 1 < length l → p (get_or l k other) (get_or l (k + 1) other) ≡ cross_if (test k) (value k))
      → first_pair p l ≡ cross_if (ltb (first_where test (length l - 1) 0 + 1) (length l)) (value (first_where test (length l - 1) 0))
  pair_place [] said = ap (λ (b : Bool). cross_if b (value (first_where test 0 0))) (sym (le-ltb (first_where test 0 0 + 1) 0 (omega arith)))
  pair_place (x ∷ l) said =
      let w = first_where test (length l) 0 in
      let n : suc (length l) - 1 ≡ length l = omega arith in
      let t : ltb w (0 + length l) ≡ ltb (w + 1) (suc (length l)) = rw zero-add (both_more w (length l)) in
      rw n (from_place 0 x l (λ k h. rw zero-add (rw add-one at (said k (omega arith)))) ∙ ap (λ (b : Bool). cross_if b (value w)) t)

-- ---- the readings of three lists of one length

-- the reading at a place
abbrev pub at3 : {R : Type 0} → (Float → Float → Float → R) → List Float → List Float → List Float → ℕ → R
at3 f xs ys zs i = f (get_or xs i nan) (get_or ys i nan) (get_or zs i nan)

module _ {R : Type 0} (f : Float → Float → Float → R) where
  -- the first pair of three lists
  pub scan3 : (p : R → R → Option Float) (test : ℕ → Bool) (value : ℕ → Float) (xs ys zs : List Float) (n : ℕ) → length xs ≡ n → length ys ≡ n → length zs ≡ n
      → ((k : ℕ) → p (at3 f xs ys zs k) (at3 f xs ys zs (k + 1)) ≡ cross_if (test k) (value k))
      → first_pair p (zip3 f xs ys zs) ≡ cross_if (ltb (first_where test (n - 1) 0 + 1) n) (value (first_where test (n - 1) 0))
  scan3 p test value xs ys zs n hx hy hz said =
      let l = zip3 f xs ys zs in
      let e = zip3_length f xs ys zs n hx hy hz in
      let other = f nan nan nan in
      rw e at (pair_place p other test value l (λ k h. rw (zip3_at f other nan xs ys zs k (omega arith), zip3_at f other nan xs ys zs (k + 1) h) (said k)))

-- ---- What a program that found the place answers, of n readings.
module _ {R : Type 0} (p : R → R → Option Float) (l : List R) (n : ℕ) (test : ℕ → Bool) (value : ℕ → Float)
    (is : first_pair p l ≡ cross_if (ltb (first_where test (n - 1) 0 + 1) n) (value (first_where test (n - 1) 0))) where
  pub place_found : {i : ℕ} {v : Float} → i ≡ first_where test (n - 1) 0 → i + 1 < n → v ≡ value i → Some v ≡ first_pair p l
  place_found {i} {v} e h ev = sym (is ∙ (rw (← e) (rw (lt-ltb (i + 1) n h, ev))))

  pub place_missing : {i : ℕ} → i ≡ first_where test (n - 1) 0 → n ≤ i + 1 → None ≡ first_pair p l
  place_missing {i} e h = sym (is ∙ (rw (← e) (rw (le-ltb (i + 1) n h))))

-- The same of the readings of three lists: test k is whether the pair at k has what is sought, value a b what two such neighbours answer.
module _ {R : Type 0} (f : Float → Float → Float → R) (p : R → R → Option Float) (test : ℕ → Bool) (value : R → R → Float) (xs ys zs : List Float) (n : ℕ)
    (hx : length xs ≡ n) (hy : length ys ≡ n) (hz : length zs ≡ n)
    (said : (k : ℕ) → p (at3 f xs ys zs k) (at3 f xs ys zs (k + 1)) ≡ cross_if (test k) (value (at3 f xs ys zs k) (at3 f xs ys zs (k + 1)))) where
  answer_at : ℕ → Float
  answer_at k = value (at3 f xs ys zs k) (at3 f xs ys zs (k + 1))

  pub scan_found : {i : ℕ} {a b : R} {v : Float} → i ≡ first_where test (n - 1) 0 → i + 1 < n → a ≡ at3 f xs ys zs i → b ≡ at3 f xs ys zs (i + 1) → v ≡ value a b
      → Some v ≡ first_pair p (zip3 f xs ys zs)
  unfolding answer_at
  scan_found e h ea eb ev = place_found p (zip3 f xs ys zs) n test answer_at (scan3 f p test answer_at xs ys zs n hx hy hz said) e h (rw (ev, ea, eb))

  pub scan_missing : {i : ℕ} → i ≡ first_where test (n - 1) 0 → n ≤ i + 1 → None ≡ first_pair p (zip3 f xs ys zs)
  unfolding answer_at
  scan_missing e h = place_missing p (zip3 f xs ys zs) n test answer_at (scan3 f p test answer_at xs ys zs n hx hy hz said) e h
