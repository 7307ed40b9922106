-- The nearest point of a curve by blocks: the block with the least square has it. Assumes nothing.
use Prim.Native.Nat.{ℕ, ◌-◌, min}
use mathlib.Core.Path.{◌≡◌, refl, sym, ap, ◌∙◌}
use mathlib.Core.Bool.{Bool, true, false, true≢false}
use mathlib.Core.List.{List, [], ◌∷◌, ◌++◌, append-nil}
use native.Mathlib.Omega.{arith}
use lib.ListN.{length, take, drop, length-append, length-take, length-drop}
use lib.Ieee.{Float, lt, is_nan, of_bits}
use Rattle.laws.specs.Choice.{lesser}
use Rattle.laws.proofs.Order.{lt_not_trans}
use Rattle.laws.proofs.Choice.{lesser_taken, lesser_left, lesser_assoc}
use Rattle.complex.specs.declared.Complex.{Complex}
use Rattle.nyquist.specs.Curve.{points, least_square, infinity}
use Rattle.nyquist.specs.Summary.{key_of, nearest_of, first_within}
use Rattle.nyquist.proofs.Scan.{points_append}
use Rattle.nyquist.proofs.Nearing.{none_above, nearest_append, nearest_number, key_nearest, within_nearest}

-- The least square so far, the points of the block that has it, and the points of the blocks to come, of a whole curve.
pub record Blocks (whole : List Complex) (least : Float) (deciding rest : List Complex) : Type 0 where
  pub key : least ≡ key_of (nearest_of deciding)
  pub within : first_within least deciding ≡ nearest_of deciding
  pub found : lesser key_of (nearest_of deciding) (nearest_of rest) ≡ nearest_of whole

pub blocks_begin : (whole : List Complex) → Blocks whole infinity [] whole
unfolding nearest_of key_of first_within
blocks_begin whole = record { key = refl; within = refl; found = nearest_append [] whole }

-- a block is passed, whether or not its least square is less
module _ {whole : List Complex} {least square : Float} {deciding : List Complex} (block rest : List Complex) (s : Blocks whole least deciding (block ++ rest)) (e : square ≡ least_square block) where
  key_here : square ≡ key_of (nearest_of block)
  key_here = e ∙ sym (key_nearest block)

  less_here : (b : Bool) → lt square least ≡ b → lt (key_of (nearest_of block)) (key_of (nearest_of deciding)) ≡ b
  less_here b t = rw (key_here, s.key) at t

  found_here : lesser key_of (lesser key_of (nearest_of deciding) (nearest_of block)) (nearest_of rest) ≡ nearest_of whole
  found_here =
      lesser_assoc key_of (nearest_of deciding) (nearest_of block) (nearest_of rest) (nearest_number block)
      ∙ ap (lesser key_of (nearest_of deciding)) (nearest_append block rest)
      ∙ s.found

  -- a square that is less than some number is finite
  finite_here : lt square least ≡ true → lt square infinity ≡ true
  finite_here t = go (lt square infinity) refl
    where
      go : (b : Bool) → lt square infinity ≡ b → b ≡ true
      go true f = refl
      go false f = absurd (true≢false (sym t ∙ lt_not_trans square infinity least (unfold of_bits is_nan in tt) f (none_above least)))

  pub blocks_taken : lt square least ≡ true → Blocks whole square block rest
  blocks_taken t =
      let k = key_here in
      record {
        key = k;
        within = rw k (within_nearest block (rw k at (finite_here t)));
        found = rw (lesser_taken key_of (nearest_of deciding) (nearest_of block) (less_here true t)) found_here;
      }

  pub blocks_left : lt square least ≡ false → Blocks whole least deciding rest
  blocks_left t = record {
    key = s.key;
    within = s.within;
    found = rw (lesser_left key_of (nearest_of deciding) (nearest_of block) (less_here false t)) found_here;
  }

pub blocks_done : {whole : List Complex} {least : Float} {deciding : List Complex} → Blocks whole least deciding [] → first_within least deciding ≡ nearest_of whole
blocks_done {deciding = deciding} s = s.within ∙ sym (ap nearest_of (append-nil deciding)) ∙ sym (nearest_append deciding []) ∙ s.found

-- ---- the loop: `size_re` and `size_im` are the sizes of the blocks, re and im what is left of the lists
pub record Going (whole_re whole_im : List Float) (least : Float) (deciding_re deciding_im : List Float) (size_re size_im : ℕ) (re im : List Float) : Type 0 where
  pub deciding_same : length deciding_re ≡ length deciding_im
  pub sizes : size_re ≡ size_im
  pub same : length re ≡ length im
  pub blocks : Blocks (points whole_re whole_im) least (points deciding_re deciding_im) (points re im)

pub going_begin : {re im rest_re rest_im : List Float} {size_re size_im : ℕ} → length re ≡ length im → rest_re ≡ re → rest_im ≡ im → size_re ≡ 64 → size_im ≡ 64
    → Going re im infinity [] [] size_re size_im rest_re rest_im
unfolding points
going_begin {re} {im} h e f k m = record { deciding_same = refl; sizes = k ∙ sym m; same = rw (e, f) h; blocks = rw (e, f) (blocks_begin (points re im)) }

-- the first block comes off
module _ {whole_re whole_im : List Float} {least : Float} {deciding_re deciding_im : List Float} {size_re size_im : ℕ} {re im : List Float} (block_re block_im rest_re rest_im : List Float)
    (s : Going whole_re whole_im least deciding_re deciding_im size_re size_im re im)
    (e : re ≡ block_re ++ rest_re) (f : im ≡ block_im ++ rest_im) (k : length block_re ≡ min size_re (length re)) (m : length block_im ≡ min size_im (length im)) where
  pub block_same : length block_re ≡ length block_im
  block_same = let i = s.sizes in let j = s.same in k ∙ rw (i, j) (sym m)

  rest_same : length rest_re ≡ length rest_im
  rest_same = let i = block_same in let j : length re ≡ length im = s.same in omega (arith, simp length-append at (ap length e), simp length-append at (ap length f))

  blocks_here : Blocks (points whole_re whole_im) least (points deciding_re deciding_im) (points block_re block_im ++ points rest_re rest_im)
  blocks_here = rw (sym (points_append block_re block_im rest_re rest_im block_same)) (rw (e, f) at s.blocks)

  module _ {square : Float} {next_re next_im : ℕ} (i : next_re ≡ size_re) (j : next_im ≡ size_im) (d : square ≡ least_square (points block_re block_im)) where
    pub going_taken : lt square least ≡ true → Going whole_re whole_im square block_re block_im next_re next_im rest_re rest_im
    going_taken t = record { deciding_same = block_same; sizes = i ∙ s.sizes ∙ sym j; same = rest_same; blocks = blocks_taken (points block_re block_im) (points rest_re rest_im) blocks_here d t }

    pub going_left : lt square least ≡ false → Going whole_re whole_im least deciding_re deciding_im next_re next_im rest_re rest_im
    going_left t = record { deciding_same = s.deciding_same; sizes = i ∙ s.sizes ∙ sym j; same = rest_same; blocks = blocks_left (points block_re block_im) (points rest_re rest_im) blocks_here d t }

no_points : (re im : List Float) → length re ≡ 0 → points re im ≡ []
unfolding points
no_points [] im h = refl
no_points (x ∷ re) im h = absurd (omega arith)

pub going_done : {whole_re whole_im : List Float} {least : Float} {deciding_re deciding_im : List Float} {size_re size_im : ℕ} {re im : List Float}
    → Going whole_re whole_im least deciding_re deciding_im size_re size_im re im → length re ≡ 0 → first_within least (points deciding_re deciding_im) ≡ nearest_of (points whole_re whole_im)
going_done {re = re} {im = im} s h = blocks_done (rw (no_points re im h) at s.blocks)

-- parts of two lists of one length have one length (a law that docs/PORT.md names, and no proof here needs)
pub parts_same : (re im : List Float) → length re ≡ length im → (j k : ℕ) → length (take (k - j) (drop j re)) ≡ length (take (k - j) (drop j im))
parts_same re im s j k = rw (length-take (k - j) (drop j re), length-take (k - j) (drop j im), length-drop j re, length-drop j im, s)
