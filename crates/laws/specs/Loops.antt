-- Loops that count up, and lists that they fill or run through.
use Rattle.std.specs.Prelude.{ℕ, zero, suc, List, [], ◌∷◌, ◌++◌, drop}

-- What `for k in i..i + n { a = f(k, a) }` leaves in `a`.
unfoldable pub count_up : {A : Type 0} → (ℕ → A → A) → ℕ → ℕ → A → A
count_up f zero i a = a
count_up f (suc n) i a = count_up f n (suc i) (f i a)

-- The list g 0, g 1 and on, n long.
unfoldable pub up_to : {A : Type 0} → (ℕ → A) → ℕ → List A
up_to g zero = []
up_to g (suc n) = up_to g n ++ (g n ∷ [])

-- The list l with its first n places filled by g: an array that a loop fills, or the places that a caller lends.
unfoldable pub filled : {A : Type 0} → (ℕ → A) → List A → ℕ → List A
unfolding up_to
filled g l n = up_to g n ++ drop n l

-- What s becomes when f takes in the elements of a list, one after another.
abbrev pub push_all : {R S : Type 0} → (S → R → S) → S → List R → S
push_all f s [] = s
push_all f s (x ∷ xs) = push_all f (f s x) xs
