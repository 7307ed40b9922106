-- Laws of poles and of locus points that a reader will look for. Assumes nothing.
use Rattle.std.proofs.Common.{◌≡◌, ℕ, zero, suc, ◌+◌, ◌-◌, ◌<◌, ◌≤◌, min, Bool, true, false, ◌||◌, List, [], ◌∷◌, length, get_or, take, replicate, sym, refl, ap, ◌∙◌, ⊎_elim, true≢false, arith, length-take, get_or-take, take_at, get_or-append-add, ne_eqb, eqb-true}
use lib.ListN.{get_or-replicate}
use lib.Ieee.{Float, le, lt}
use Rattle.scalar.specs.Scalar.{f0, f1}
use Rattle.complex.specs.declared.Complex.{Complex}
use Rattle.complex.specs.Complex.{from_real, magnitude_sq}
use Rattle.std.specs.Prelude.{Result, Ok, Err, not}
use Rattle.std.specs.List.{list_any}
use Rattle.std.proofs.lemmas.List.Folds.{list_any_at}
use Rattle.std.proofs.lemmas.Bool.{not-true}
use Rattle.sweep.specs.Refusal.{number_of}
use Rattle.sweep.specs.declared.FreqError.{FreqError}
use Rattle.sweep.proofs.Numbers.{number_known}
use Rattle.sweep.proofs.Answers.{not_zero}
use Rattle.transfer_fn.specs.declared.TransferFn.{TransferFn}
use Rattle.root_locus.specs.declared.LocusPoint.{LocusPoint}
use Rattle.root_locus.specs.declared.ending.Ending.TheVariants.{Settled, Spent, Broken}
use Rattle.root_locus.specs.Gain.{gain_at}
use Rattle.root_locus.specs.Polynomial.{loop_polynomial, counting, degree_of}
use Rattle.root_locus.specs.Search.{tolerance, nowhere}
use Rattle.root_locus.specs.Roots.{linear, real_pair, complex_pair, quadratic, searched, by_degree, ending_by_degree, padded}
use Rattle.root_locus.specs.Stability.{outside, none_outside, stable}
use Rattle.root_locus.specs.Locus.{locus_refusal, Point, point_of, found_point, no_point, point_at, locus_point_at}
use Rattle.root_locus.proofs.Rounds.{search_long}
use Rattle.root_locus.proofs.Conditions.{not_cubic}
use Rattle.root_locus.proofs.Endings.{NanIn, ending_broken, SettledIn, ending_settled, spent_not_below}

-- ---- stable: no counted pole has squared magnitude ≥ 1

none_means : (zs : List Complex) → none_outside zs ≡ true → (i : ℕ) → i < length zs → outside (get_or zs i nowhere) ≡ false
unfolding none_outside
none_means zs h i l = grind (arith, list_any_at, not-true)

some_means : (zs : List Complex) → none_outside zs ≡ false → (i : ℕ) × ((i < length zs) × (outside (get_or zs i nowhere) ≡ true))
unfolding none_outside
some_means [] h = absurd (true≢false h)
some_means (z ∷ zs) h = go (outside z) refl h (some_means zs)
  where
    go : (b : Bool) → outside z ≡ b → not (b || list_any outside zs) ≡ false → (not (list_any outside zs) ≡ false → (i : ℕ) × ((i < length zs) × (outside (get_or zs i nowhere) ≡ true)))
        → (i : ℕ) × ((i < length (z ∷ zs)) × (outside (get_or (z ∷ zs) i nowhere) ≡ true))
    go true e h next = (zero, (omega arith, e))
    go false e h next = let n = next h in (suc n.0, (omega arith, n.1.1))

module _ (poles : List Complex) (eight : length poles ≡ 8) (count : ℕ) where
  long : length (take (min count 8) poles) ≡ min count 8
  long = length-take (min count 8) poles ∙ rw eight (omega arith)

  -- true: every counted pole has not
  pub stable_means : stable poles count ≡ true → (i : ℕ) → i < min count 8 → le f1 (magnitude_sq (get_or poles i nowhere)) ≡ false
  unfolding stable outside
  stable_means h i l = rw (get_or-take (min count 8) poles i nowhere l) at (none_means (take (min count 8) poles) h i (rw long l))

  -- false: some counted pole has
  pub unstable_means : stable poles count ≡ false → (i : ℕ) × ((i < min count 8) × (le f1 (magnitude_sq (get_or poles i nowhere)) ≡ true))
  unfolding stable outside
  unstable_means h =
      let s = some_means (take (min count 8) poles) h in
      let l : s.0 < min count 8 = rw long at s.1.0 in
      (s.0, (l, rw (get_or-take (min count 8) poles s.0 nowhere l) at s.1.1))

-- ---- as many poles as the degree that is left, but for the cubic
pub pole_count : (p : List Float) → (degree_of p ≡ 3 → ⊥) → length (by_degree p) ≡ degree_of p
unfolding by_degree
pole_count [] h = refl
pole_count (c ∷ []) h = refl
pole_count (c ∷ d ∷ []) h = unfold linear in refl
pole_count (c0 ∷ c1 ∷ c2 ∷ []) h = unfold quadratic real_pair complex_pair in grind arith
pole_count (c ∷ d ∷ e ∷ f ∷ []) h = absurd (h refl)
pole_count (c ∷ d ∷ e ∷ f ∷ g ∷ p) h = found (c ∷ d ∷ e ∷ f ∷ g ∷ p)
  where
    found : (q : List Float) → length (searched q) ≡ degree_of q
    found q = search_long q

-- ---- a locus point
module _ (tf : TransferFn) (k-max : Float) (n i : ℕ) where
  abbrev left : List Float
  left = counting (loop_polynomial tf (gain_at k-max n i))

  abbrev refusal : ℕ
  refusal = locus_refusal tf.order k-max n i (degree_of left)

  pub point_number : (locus_point_at tf k-max n i).number ≡ refusal
  unfolding locus_point_at point_at found_point no_point
  point_number = grind (arith, eqb-true)

  -- one that is not turned away has the gain, the poles and how the search for them ended
  pub point_found : refusal ≡ 0 → locus_point_at tf k-max n i ≡ found_point (gain_at k-max n i) left
  unfolding locus_point_at point_at
  point_found h = rw h

  -- its ending is that of the search for its poles: broken exactly where a part of one that counts is NaN
  pub point_ending : refusal ≡ 0 → (locus_point_at tf k-max n i).ending ≡ ending_by_degree left
  unfolding found_point
  point_ending h = ap (λ (p : Point). p.ending) (point_found h)

  counted_poles : refusal ≡ 0 → take (locus_point_at tf k-max n i).count (locus_point_at tf k-max n i).poles ≡ by_degree left
  unfolding found_point padded
  counted_poles h = rw (point_found h) (take_at (by_degree left) _ _ refl)

  pub point_broken : refusal ≡ 0 → let p = locus_point_at tf k-max n i in
      (p.ending ≡ Broken → NanIn (take p.count p.poles)) × (NanIn (take p.count p.poles) → p.ending ≡ Broken)
  point_broken h = rw (counted_poles h, point_ending h) (ending_broken left)

  -- the rounds of a settled one: at most 200, and 0 exactly for degree 2 and below
  pub point_settled : {k : ℕ} → refusal ≡ 0 → (locus_point_at tf k-max n i).ending ≡ Settled k → (k ≤ 200) × ((k ≡ 0 → degree_of left ≤ 2) × (degree_of left ≤ 2 → k ≡ 0))
  point_settled {k} h e = ⊎_elim formulas rounds (ending_settled left (sym (point_ending h) ∙ e))
    where
      formulas : (degree_of left < 4) × (k ≡ 0) → (k ≤ 200) × ((k ≡ 0 → degree_of left ≤ 2) × (degree_of left ≤ 2 → k ≡ 0))
      formulas w = (omega (arith, w.1), (λ z. few (degree_of left) w.0 (not_cubic tf.order k-max n i h), λ l. w.1))
        where
          few : (d : ℕ) → d < 4 → (d ≡ 3 → ⊥) → d ≤ 2
          few d l c = omega arith

      rounds : (4 ≤ degree_of left) × SettledIn left k → (k ≤ 200) × ((k ≡ 0 → degree_of left ≤ 2) × (degree_of left ≤ 2 → k ≡ 0))
      rounds w = (w.1.most, (λ z. absurd (omega (arith, w.1.least)), λ l. absurd (omega (arith, w.0))))

  -- a spent one: a change that is not below the tolerance
  pub point_spent : {c : Float} → refusal ≡ 0 → (locus_point_at tf k-max n i).ending ≡ Spent c → lt c tolerance ≡ false
  point_spent h e = spent_not_below left (sym (point_ending h) ∙ e)

  -- one that is turned away is its number alone
  pub point_refused_alone : 0 < refusal → locus_point_at tf k-max n i ≡ no_point refusal
  unfolding locus_point_at point_at
  point_refused_alone h = rw (ne_eqb refusal 0 (λ (e : refusal ≡ 0). omega arith))

-- the places past the poles hold (0, 0)
pub past_count : (zs : List Complex) (j : ℕ) → length zs ≤ j → j < 8 → get_or (padded zs) j nowhere ≡ from_real f0
unfolding padded
past_count zs j h l =
    let m = j - length zs in
    let e : j ≡ length zs + m = omega arith in
    rw (e, get_or-append-add zs (replicate (8 - length zs) (from_real f0)) m nowhere) (get_or-replicate (8 - length zs) m (from_real f0) nowhere (omega arith))

-- a locus point is known by what it comes to
pub point_known : (p q : Result LocusPoint FreqError) → point_of p ≡ point_of q → p ≡ q
unfolding point_of no_point
point_known (Ok p) (Ok q) h =
    let b : p.gain ≡ q.gain = ap (λ (o : Point). o.gain) h in
    let c : p.poles ≡ q.poles = ap (λ (o : Point). o.poles) h in
    let d : p.count ≡ q.count = ap (λ (o : Point). o.count) h in
    let e : p.ending ≡ q.ending = ap (λ (o : Point). o.ending) h in
    grind (arith, b, c, d, e)
point_known (Ok p) (Err e) h = let n : 0 ≡ number_of e = ap (λ (o : Point). o.number) h in absurd (not_zero e (sym n))
point_known (Err e) (Ok q) h = let n : number_of e ≡ 0 = ap (λ (o : Point). o.number) h in absurd (not_zero e n)
point_known (Err e) (Err f) h = ap Err (number_known e f (ap (λ (o : Point). o.number) h))
