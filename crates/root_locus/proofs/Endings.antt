-- What the ending of a search says of it: broken exactly where some part of a pole is NaN; settled and spent by the rounds themselves, one after the other,
-- whatever their changes. Assumes nothing.
use Rattle.std.proofs.Common.{◌≡◌, ℕ, zero, suc, ◌+◌, ◌-◌, ◌^◌, ◌<◌, ◌≤◌, Bool, true, false, cond, ◌||◌, ltb, ◌⊎◌, List, [], ◌∷◌, length, get_or, pos, sym, refl, ap, ◌∙◌, inl, inr, ⊎_elim, true≢false, arith, le→leb, ltb-false, ltb-true}
use Rattle.std.proofs.lemmas.List.Folds.{list_any_at}
use lib.Ieee.{Float, binary64, lt, is_nan, in_float, of_int, to_unsigned}
use lib.Ieee.Back.{unsigned_back}
use Rattle.complex.specs.declared.Complex.{Complex}
use Rattle.root_locus.specs.declared.ending.Ending.{Ending}
use Rattle.root_locus.specs.declared.ending.Ending.TheVariants.{Settled, Spent, Broken}
use Rattle.root_locus.specs.Polynomial.{degree_of}
use Rattle.root_locus.specs.StartingPoints.{starting_points}
use Rattle.root_locus.specs.Search.{tolerance, nowhere, Run, begun, further, run, after, change_after}
use Rattle.root_locus.specs.Ending.{some_nan, unless_nan, end_of, ending_value}
use Rattle.root_locus.specs.Roots.{monic, search_run, by_degree, search_end, ending_by_degree}
use Rattle.root_locus.proofs.Rounds.{search_roots}
use Rattle.root_locus.proofs.ByDegree.{by_search}

-- ---- broken

-- some part of pole j is NaN
pub record NanIn (zs : List Complex) : Type 0 where
  pub j : ℕ
  pub counted : j < length zs
  pub part : (is_nan (get_or zs j nowhere).re ≡ true) ⊎ (is_nan (get_or zs j nowhere).im ≡ true)

pub nan_found : (zs : List Complex) → some_nan zs ≡ true → NanIn zs
unfolding some_nan
nan_found [] h = absurd (true≢false (sym h))
nan_found (z ∷ zs) h = go (is_nan z.re) (is_nan z.im) refl refl h (nan_found zs)
  where
    go : (a b : Bool) → is_nan z.re ≡ a → is_nan z.im ≡ b → (a || b) || some_nan zs ≡ true → (some_nan zs ≡ true → NanIn zs) → NanIn (z ∷ zs)
    go true b e f h next = record { j = 0; counted = omega arith; part = inl e }
    go false true e f h next = record { j = 0; counted = omega arith; part = inr f }
    go false false e f h next = let n = next h in record { j = suc n.j; counted = omega arith; part = n.part }

pub nan_seen : (zs : List Complex) (n : NanIn zs) → some_nan zs ≡ true
unfolding some_nan
nan_seen zs n = let at = list_any_at (λ (z : Complex). is_nan z.re || is_nan z.im) zs n.j nowhere n.counted in let part = n.part in grind (arith, at, part)

settled_not_broken : {k : ℕ} → Settled k ≡ Broken → ⊥
settled_not_broken h = grind arith

spent_not_broken : {c : Float} → Spent c ≡ Broken → ⊥
spent_not_broken h = grind arith

-- Broken exactly where some part of a pole is NaN. Rounds and formulas alone never end so.
pub ending_broken : (p : List Float) → (ending_by_degree p ≡ Broken → NanIn (by_degree p)) × (NanIn (by_degree p) → ending_by_degree p ≡ Broken)
unfolding ending_by_degree unless_nan search_end end_of
ending_broken p = (λ h. nan_found (by_degree p) (grind arith), λ n. rw (nan_seen (by_degree p) n))

-- ---- what up to n + 1 rounds from s on leave: m + 1 rounds ran, none before the last was below, and the last one was, or n + 1 had run
pub record Ran (norm : List Float) (n : ℕ) (s r : Run) : Type 0 where
  pub m : ℕ
  pub few : m ≤ n
  pub roots_are : r.roots ≡ after norm (suc m) s.roots
  pub used_are : r.used ≡ s.used + suc m
  pub last_is : r.last ≡ change_after norm m s.roots
  pub going : (j : ℕ) → j < m → lt (change_after norm j s.roots) tolerance ≡ false
  pub ended : (lt r.last tolerance ≡ true) ⊎ (m ≡ n)

-- one round alone
at_once : (norm : List Float) (n : ℕ) (s : Run) → (lt (further norm s).last tolerance ≡ true) ⊎ (0 ≡ n) → Ran norm n s (further norm s)
unfolding further after change_after
at_once norm n s e = record { m = 0; few = omega arith; roots_are = refl; used_are = refl; last_is = refl; going = λ j l. absurd (omega arith); ended = e }

pub ran : (norm : List Float) (n : ℕ) (s : Run) → Ran norm n s (run norm (suc n) s)
unfolding run further after change_after
ran norm zero s = go (lt (further norm s).last tolerance)
  where
    go : (b : Bool) → Ran norm zero s (cond b (further norm s) (further norm s))
    go true = at_once norm 0 s (inr refl)
    go false = at_once norm 0 s (inr refl)
ran norm (suc n) s = let t = further norm s in go (lt t.last tolerance) refl (ran norm n t)
  where
    first : (j : ℕ) → lt (further norm s).last tolerance ≡ false → ((i : ℕ) → j ≡ suc i → lt (change_after norm i (further norm s).roots) tolerance ≡ false)
        → lt (change_after norm j s.roots) tolerance ≡ false
    first zero e next = e
    first (suc i) e next = next i refl

    go : (b : Bool) → lt (further norm s).last tolerance ≡ b → Ran norm n (further norm s) (run norm (suc n) (further norm s))
        → Ran norm (suc n) s (cond b (further norm s) (run norm (suc n) (further norm s)))
    go true e next = at_once norm (suc n) s (inl e)
    go false e next =
        record {
          m = suc next.m;
          few = omega (arith, next.few);
          roots_are = next.roots_are;
          used_are = next.used_are ∙ omega arith;
          last_is = next.last_is;
          going = λ j l. first j e (λ i k. next.going i (omega arith));
          ended = ⊎_elim (λ t. inl t) (λ k. inr (ap suc k)) next.ended;
        }

-- what is not broken ends as its rounds or its formulas did
unless_means : (zs : List Complex) (e f : Ending) → (f ≡ Broken → ⊥) → unless_nan zs e ≡ f → e ≡ f
unfolding unless_nan
unless_means zs e f h k = grind arith

-- ---- the search of a polynomial
module _ (p : List Float) where
  abbrev start : List Complex
  start = starting_points (degree_of p)

  -- the largest change of the round after j rounds was below the tolerance, or not
  abbrev below : ℕ → Bool
  below j = lt (change_after (monic p) j start) tolerance

  -- The search settled in round k: that was the first whose largest change was below the tolerance, and the poles are what k rounds leave.
  pub record SettledIn (k : ℕ) : Type 0 where
    pub least : 1 ≤ k
    pub most : k ≤ 200
    pub poles : by_degree p ≡ after (monic p) k start
    pub stopped : below (k - 1) ≡ true
    pub going : (j : ℕ) → j < k - 1 → below j ≡ false

  -- The search was spent: no round of 200 was below, the poles are what these leave, and c is the last one's largest change.
  pub record SpentWith (c : Float) : Type 0 where
    pub poles : by_degree p ≡ after (monic p) 200 start
    pub last : c ≡ change_after (monic p) 199 start
    pub going : (j : ℕ) → j < 200 → below j ≡ false

  search_ran : Ran (monic p) 199 (begun start) (search_run p)
  unfolding search_run
  search_ran = ran (monic p) 199 (begun start)

  poles_are : 4 ≤ degree_of p → by_degree p ≡ after (monic p) (suc search_ran.m) start
  poles_are h = by_search p (omega arith) ∙ sym (search_roots p) ∙ search_ran.roots_are

  -- the ending without the NaN: by formulas, or by the rounds
  ending_else : {e : Ending} → (e ≡ Broken → ⊥) → ending_by_degree p ≡ e → cond (ltb (degree_of p) 4) (Settled 0) (search_end p) ≡ e
  unfolding ending_by_degree
  ending_else h k = unless_means (by_degree p) _ _ h k

  -- Settled with 0 rounds exactly where no search is needed; else the search settled.
  pub ending_settled : {k : ℕ} → ending_by_degree p ≡ Settled k → ((degree_of p < 4) × (k ≡ 0)) ⊎ ((4 ≤ degree_of p) × SettledIn k)
  unfolding search_end end_of
  ending_settled {k} h = go (ltb (degree_of p) 4) (lt (search_run p).last tolerance) refl refl (ending_else settled_not_broken h)
    where
      go : (a b : Bool) → ltb (degree_of p) 4 ≡ a → lt (search_run p).last tolerance ≡ b → cond a (Settled 0) (cond b (Settled (search_run p).used) (Spent (search_run p).last)) ≡ Settled k
          → ((degree_of p < 4) × (k ≡ 0)) ⊎ ((4 ≤ degree_of p) × SettledIn k)
      go true b e f h = let i : 0 ≡ k = cc in inl (ltb-true (degree_of p) 4 e, sym i)
      go false true e f h =
          let i : (search_run p).used ≡ k = cc in
          let r = search_ran in
          let l : 4 ≤ degree_of p = ltb-false (degree_of p) 4 e in
          let n : k ≡ suc r.m = sym i ∙ r.used_are ∙ omega arith in
          let m : k - 1 ≡ r.m = omega arith in
          inr (
            l,
            record {
              least = omega arith;
              most = omega (arith, r.few);
              poles = rw n (poles_are l);
              stopped = rw (m, ← r.last_is) f;
              going = λ j q. r.going j (rw m at q);
            },
          )
      go false false e f h = grind arith

  -- Spent: none of 200 rounds of the search was below the tolerance, and so neither is the change that is told.
  pub ending_spent : {c : Float} → ending_by_degree p ≡ Spent c → (4 ≤ degree_of p) × SpentWith c
  unfolding search_end end_of
  ending_spent {c} h = go (ltb (degree_of p) 4) (lt (search_run p).last tolerance) refl refl (ending_else spent_not_broken h)
    where
      go : (a b : Bool) → ltb (degree_of p) 4 ≡ a → lt (search_run p).last tolerance ≡ b → cond a (Settled 0) (cond b (Settled (search_run p).used) (Spent (search_run p).last)) ≡ Spent c
          → (4 ≤ degree_of p) × SpentWith c
      go true b e f h = grind arith
      go false true e f h = grind arith
      go false false e f h =
          let i : (search_run p).last ≡ c = cc in
          let r = search_ran in
          let l : 4 ≤ degree_of p = ltb-false (degree_of p) 4 e in
          let m : r.m ≡ 199 = ⊎_elim (λ t. absurd (true≢false (sym t ∙ f))) (λ k. k) r.ended in
          let last : c ≡ change_after (monic p) 199 start = sym i ∙ r.last_is ∙ ap (λ (j : ℕ). change_after (monic p) j start) m in (
            l,
            record {
              poles = poles_are l ∙ ap (λ (j : ℕ). after (monic p) (suc j) start) m;
              last = last;
              going = λ j q. either j (ltb j 199) refl q (r.going j) m (rw (i, last) at f);
            },
          )
        where
          either : (j : ℕ) (b : Bool) → ltb j 199 ≡ b → j < 200 → (j < search_ran.m → below j ≡ false) → search_ran.m ≡ 199 → below 199 ≡ false → below j ≡ false
          either j true e q before m at_last = let l = ltb-true j 199 e in before (omega arith)
          either j false e q before m at_last = let k : j ≡ 199 = omega (arith, ltb-false j 199 e) in rw k at_last

  pub spent_not_below : {c : Float} → ending_by_degree p ≡ Spent c → lt c tolerance ≡ false
  spent_not_below h = let s = (ending_spent h).1 in rw s.last (s.going 199 (omega arith))

  -- ---- and the other way: without a NaN the ending is what the degree and the rounds say
  module _ (numbers : NanIn (by_degree p) → ⊥) where
    pub no_search : degree_of p < 4 → ending_by_degree p ≡ Settled 0
    no_search l = go (ending_by_degree p) refl
      where
        go : (e : Ending) → ending_by_degree p ≡ e → e ≡ Settled 0
        go Broken h = absurd (numbers ((ending_broken p).0 h))
        go (Settled k) h = ⊎_elim (λ w. rw w.1) (λ w. absurd (omega (arith, w.0))) (ending_settled h)
        go (Spent c) h = absurd (omega (arith, (ending_spent h).0))

    pub search_settled : {k : ℕ} → 4 ≤ degree_of p → SettledIn k → ending_by_degree p ≡ Settled k
    search_settled {k} l s = go (ending_by_degree p) refl
      where
        -- a round below the tolerance is the last
        not_before : {i j : ℕ} → SettledIn i → SettledIn j → i < j → ⊥
        not_before {i} r t h = true≢false (sym r.stopped ∙ t.going (i - 1) (omega (arith, r.least)))

        same : {i : ℕ} (a b : Bool) → ltb i k ≡ a → ltb k i ≡ b → SettledIn i → i ≡ k
        same {i} true b e f r = absurd (not_before r s (ltb-true i k e))
        same {i} false true e f r = absurd (not_before s r (ltb-true k i f))
        same {i} false false e f r = omega (arith, ltb-false i k e, ltb-false k i f)

        go : (e : Ending) → ending_by_degree p ≡ e → e ≡ Settled k
        go Broken h = absurd (numbers ((ending_broken p).0 h))
        go (Settled i) h = ⊎_elim (λ w. absurd (omega (arith, w.0))) (λ w. rw (same (ltb i k) (ltb k i) refl refl w.1)) (ending_settled h)
        go (Spent c) h = absurd (true≢false (sym s.stopped ∙ (ending_spent h).1.going (k - 1) (omega (arith, s.least, s.most))))

    pub search_spent : {c : Float} → 4 ≤ degree_of p → SpentWith c → ending_by_degree p ≡ Spent c
    search_spent {c} l s = go (ending_by_degree p) refl
      where
        go : (e : Ending) → ending_by_degree p ≡ e → e ≡ Spent c
        go Broken h = absurd (numbers ((ending_broken p).0 h))
        go (Settled i) h =
            ⊎_elim (λ w. absurd (omega (arith, w.0))) (λ w. absurd (true≢false (sym w.1.stopped ∙ s.going (i - 1) (omega (arith, w.1.least, w.1.most))))) (ending_settled h)
        go (Spent d) h = rw ((ending_spent h).1.last ∙ sym s.last)

-- ---- the value of a settled ending tells its rounds, as far as an f64 counts without a gap
pub rounds_known : {j k : ℕ} → j ≤ 2 ^ 53 → k ≤ 2 ^ 53 → ending_value (Settled j) ≡ ending_value (Settled k) → j ≡ k
rounds_known {j} {k} h l e = sym (back j h) ∙ ap (to_unsigned 64) e ∙ back k l
  where
    back : (n : ℕ) → n ≤ 2 ^ 53 → to_unsigned 64 (of_int binary64 (pos n)) ≡ n
    back n h = (unsigned_back binary64 64 n (unfold in_float in le→leb n (2 ^ 53) h) (omega arith)).1
