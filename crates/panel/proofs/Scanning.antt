-- The scan from pair to pair that passes over neighbours on one side. Assumes nothing.
use Rattle.std.proofs.Common.{ℕ, ◌≡◌, ◌+◌, ◌*◌, ◌-◌, ◌^◌, ◌<◌, refl, ap, ◌∙◌, Bool, true, false, List, [], length, get_or, drop, None, arith}
use Rattle.std.specs.Float.{nan}
use mathlib.Core.Bool.{true≢false}
use mathlib.Core.Path.{sym}
use Rattle.wire.specs.Bytes.{u64_at, f64_at}
use Rattle.sweep.specs.Scan.{first_pair, cross_if}
use Rattle.sweep.proofs.Scans.{pair_next}
use Rattle.bode.specs.Bode.{reading, Crossover, Gain, Phase, value_of, crosses_of, between_of, pair_of}
use Rattle.bode.proofs.Crossovers.{pair_is}
use Rattle.panel.specs.Panel.{reading_at}
use Rattle.panel.specs.Scanning.{read, place_of, lies_on, side_of}
use Rattle.panel.specs.declared.Side.{Side}
use Rattle.panel.specs.declared.Side.TheVariants.{Neither}
use Rattle.panel.proofs.Sides.{one_side_quiet, own_side}
use Rattle.panel.proofs.Decoded.{read_length, read_at}

-- the bit pattern of the value that tells, in reading k
abbrev pub pattern_at : Crossover → List (List ℕ) → ℕ → ℕ
pattern_at which l k = u64_at (get_or l k []) (place_of which)

-- A run on a side: where any value lies on it, that of reading k does.
pub record Aside (which : Crossover) (side : Side) (l : List (List ℕ)) (k : ℕ) : Type 0 where
  pub own : (x : ℕ) → lies_on which side x ≡ true → (lies_on which side (pattern_at which l k) ≡ true) × (pattern_at which l k < 2 ^ 64)

-- the value of a reading in which a crossover is sought, by its place in the bytes
pub value_told : (which : Crossover) (b : List ℕ) (k : ℕ) → value_of which (reading_at b k) ≡ f64_at b (24 * k + place_of which)
unfolding reading_at
value_told Gain b k = refl
value_told Phase b k = refl

-- no value lies on the third side
pub nowhere : (which : Crossover) (l : List (List ℕ)) (k : ℕ) → Aside which Neither l k
nowhere Gain l k = record { own = λ x h. absurd (true≢false (sym h)) }
nowhere Phase l k = record { own = λ x h. absurd (true≢false (sym h)) }

module _ (which : Crossover) (l : List (List ℕ)) where
  -- two readings whose values lie on one side
  quiet : (j k : ℕ) (side : Side) → Aside which side l j → lies_on which side (pattern_at which l k) ≡ true → pattern_at which l k < 2 ^ 64
      → pair_of which (reading_at (get_or l j []) 0) (reading_at (get_or l k []) 0) ≡ None
  unfolding f64_at
  quiet j k side a h f =
      let here = a.own _ h in
      let one = reading_at (get_or l j []) 0 in
      let other = reading_at (get_or l k []) 0 in
      let at : 24 * 0 + place_of which ≡ place_of which = omega arith in
      let c : crosses_of which one other ≡ false =
      rw (value_told which (get_or l j []) 0, value_told which (get_or l k []) 0, at) (one_side_quiet which side _ _ here.1 f here.0 h) in
      pair_is which one other ∙ ap (λ (t : Bool). cross_if t (between_of which one other)) c

  -- a value on the run's side: its reading crosses with none before it, and the run goes on
  pub quiet_next : {i : ℕ} → 0 < i → i < length l → (side : Side) {v : ℕ} → Aside which side l (i - 1) → v ≡ pattern_at which l i → v < 2 ^ 64 → lies_on which side v ≡ true
      → first_pair (pair_of which) (drop (i - 1) (read l)) ≡ first_pair (pair_of which) (drop (i + 1 - 1) (read l))
  quiet_next {i} h fits side a ev f k =
      let other = reading nan nan nan in
      let n = read_length l in
      let none : pair_of which (get_or (read l) (i - 1) other) (get_or (read l) i other) ≡ None =
      rw (read_at l (i - 1) other (omega arith), read_at l i other fits) (quiet (i - 1) i side a (rw ev at k) (rw ev at f)) in
      pair_next (pair_of which) other (read l) h (omega arith) none

  pub run_on : (i : ℕ) (side : Side) {v : ℕ} → v ≡ pattern_at which l i → v < 2 ^ 64 → lies_on which side v ≡ true → Aside which side l (i + 1 - 1)
  run_on i side ev f k =
      let e : i + 1 - 1 ≡ i = omega arith in
      rw e (record { own = λ x h. (rw ev at k, rw ev at f) })

  -- the side of the value
  pub aside : (k : ℕ) {side : Side} {v : ℕ} → v ≡ pattern_at which l k → v < 2 ^ 64 → side ≡ side_of which v → Aside which side l k
  aside k {side} {v} ev f e = record { own = λ x h. (rw (e, ← ev) (own_side which v x (rw e at h)), rw ev at f) }

  -- another value begins a run
  pub run_begins : (i : ℕ) {v : ℕ} → v ≡ pattern_at which l i → v < 2 ^ 64 → Aside which (side_of which v) l (i + 1 - 1)
  run_begins i {v} ev f =
      let e : i + 1 - 1 ≡ i = omega arith in
      rw e (aside i ev f refl)
