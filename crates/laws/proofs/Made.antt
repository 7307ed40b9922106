-- What `array::from_fn` made, where each call leaves the closure as it was; and a filled list as such an array. Assumes nothing.
use Prim.Native.Nat.{ℕ, zero, suc, ◌+◌, ◌-◌, ◌<◌, ◌≤◌}
use mathlib.Core.Path.{◌≡◌, sym, ◌∙◌}
use mathlib.Core.Logic.{inl, inr}
use mathlib.Core.List.{List, map}
use native.Mathlib.Omega.{arith}
use lib.ListN.{get_or, get_or-append, length-append, replicate}
use denote.Param.Members.{Mut}
use Rattle.std.specs.Fn.{Called}
use Rattle.std.specs.Array.{IsFromFnResult, IsFromFnResultFrom}
use Rattle.std.specs.List.{range_with_len}
use Rattle.std.proofs.lemmas.Bool.{cases_lt}
use Rattle.std.proofs.lemmas.List.{drop-replicate, get_or-append_right, get_or-replicate, length-replicate}
use Rattle.std.proofs.lemmas.List.FromFn.{fill_by_all}
use Rattle.laws.specs.Loops.{up_to, filled}
use Rattle.laws.proofs.Loops.{length-up_to, up_to_at}

module _ {F B : Type 0} (g : Mut F (ℕ × Unit {0}) B) (h : ℕ → B) (f : F) (d : B)
    (same : (i : ℕ) (y : B) (q : F) → Called g f (i, tt) y q → (y ≡ h i) × (q ≡ f)) where
  each_made : (ys : List B) (n i : ℕ) → IsFromFnResultFrom g f ys i n → (j k : ℕ) → i + j ≡ k → j < n → get_or ys k d ≡ h k
  each_made ys zero i e j k is l = absurd (omega (arith, l))
  each_made ys (suc n) i (q, y, at, call, rest) zero k is l =
      let here : k ≡ i = omega (arith, is) in
      rw here (at.1 d ∙ (same i y q call).0)
  each_made ys (suc n) i (q, y, at, call, rest) (suc j) k is l =
      each_made ys n (i + 1) (rw (same i y q call).1 at rest) j k (omega (arith, is)) (omega (arith, l))

  pub made_by : (ys : List B) (n : ℕ) → IsFromFnResult g f ys n → ys ≡ map h (range_with_len 0 n)
  made_by ys n e = fill_by_all h ys n d e.long (λ k l. each_made ys n 0 e.each k k (omega arith) l)

-- ---- a filled list, by a function that gives each of its places
module _ {A : Type 0} (g h : ℕ → A) (z : A) (n m : ℕ) (l : m ≤ n) (first : (k : ℕ) → k < m → h k ≡ g k) (rest : (k : ℕ) → m ≤ k → h k ≡ z) where
  place : (k : ℕ) → k < n → get_or (filled g (replicate n z) m) k z ≡ h k
  unfolding filled
  place k b = elim (cases_lt k m) [
    | inl i ↦ get_or-append (up_to g m) _ z k (rw (length-up_to g m) i) ∙ up_to_at g m k z i ∙ sym (first k i)
    | inr o ↦
        rw (drop-replicate m n z) (get_or-append_right (up_to g m) (replicate (n - m) z) m k z (length-up_to g m) o
        ∙ get_or-replicate (n - m) (k - m) z z (omega (arith, b, o)) ∙ sym (rest k o))
  ]

  pub filled_map : filled g (replicate n z) m ≡ map h (range_with_len 0 n)
  unfolding filled
  filled_map = fill_by_all h (filled g (replicate n z) m) n z (rw (drop-replicate m n z) (rw (length-append, length-up_to g m, length-replicate) (omega (arith, l)))) place
