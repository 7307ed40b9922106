-- Crossings as plain numbers, and summaries that a host keeps so. Assumes nothing.
use Prim.Native.Nat.{ℕ, ◌<◌}
use mathlib.Core.Path.{◌≡◌, refl, ◌∙◌, ap}
use mathlib.Core.Bool.{Bool, true, false}
use mathlib.Core.List.{List, ◌++◌}
use native.Mathlib.Omega.{arith}
use borrow.Author.Tests.{ne_eqb}
use lib.Ieee.{Float}
use Rattle.std.specs.Prelude.{Option, Some, None, Result, Ok, Err}
use Rattle.sweep.specs.Plain.{read_mark, marked_read, crossing_mark, crossing_value, marked_crossing, kept_mark, kept_value, marked_kept}
use Rattle.sweep.specs.declared.NotKept.{NotKept}
use Rattle.sweep.proofs.Runs.{Kind}

-- ---- what is written is read back

pub read_back : (b : Bool) → marked_read (read_mark b) ≡ b
read_back true = refl
read_back false = refl

pub crossing_back : (c : Option Float) → marked_crossing (crossing_mark c) (crossing_value c) ≡ c
crossing_back (Some x) = refl
crossing_back None = refl

pub kept_back : (k : Result (Option Float) NotKept) → marked_kept (kept_mark k) (kept_value k) ≡ k
kept_back (Ok (Some x)) = refl
kept_back (Ok None) = refl
kept_back (Err e) = refl

-- ---- what marks mean that no call made: any but 0 counts, of what is kept any but 0 and 1 is "not kept"

pub mark_counts : (mark : ℕ) → (mark ≡ 0 → ⊥) → marked_read mark ≡ true
mark_counts mark h = rw (ne_eqb mark 0 h)

pub crossing_counts : (mark : ℕ) (x : Float) → (mark ≡ 0 → ⊥) → marked_crossing mark x ≡ Some x
crossing_counts mark x h = rw (ne_eqb mark 0 h)

pub kept_not : (mark : ℕ) (x : Float) → 1 < mark → marked_kept mark x ≡ Err (record {})
kept_not mark x h = rw (ne_eqb mark 0 (λ (e : mark ≡ 0). omega arith), ne_eqb mark 1 (λ (e : mark ≡ 1). omega arith))

-- ---- A kind of summary whose summaries cross as plain numbers and are read back.
module _ {P R S Q : Type 0} (kind : Kind P R S) (plain_of : S → Q) (from_plain : Q → S) (back : (s : S) → from_plain (plain_of s) ≡ s) where
  open kind use {at, fed_by, join_of, number, part, fed-law, join-law}

  abbrev plain_at : List R → Bool → Q
  plain_at l m = plain_of (at l m)

  abbrev plain_fed : Q → List R → Q
  plain_fed p k = plain_of (fed_by (from_plain p) k)

  abbrev plain_joined : Q → Q → Q
  plain_joined p q = plain_of (join_of (from_plain p) (from_plain q))

  pub fed_plain : (l : List R) (m : Bool) (k : List R) → plain_fed (plain_at l m) k ≡ plain_at (l ++ k) m
  fed_plain l m k = ap (λ (s : S). plain_of (fed_by s k)) (back (at l m)) ∙ ap plain_of (fed-law l m k)

  pub joined_plain : (l : List R) (m : Bool) (k : List R) (n : Bool) → plain_joined (plain_at l m) (plain_at k n) ≡ plain_at (l ++ k) true
  joined_plain l m k n = rw (back (at l m), back (at k n)) (ap plain_of (join-law l m k n))

  -- The plain numbers are a kind of summary themselves.
  abbrev pub plain_kind : Kind P R Q
  plain_kind = record { at = plain_at; fed_by = plain_fed; join_of = plain_joined; number = number; part = part; fed-law = fed_plain; join-law = joined_plain }
