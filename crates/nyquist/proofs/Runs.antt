-- Demand 3 for the summary of a curve, one claim about every list of calls.
--
-- A list of calls is a `Calls Part`: it starts with an empty summary, and each later call is a feed of a part, which is two lists of any lengths and may be
-- refused, or a join with the summary that a list of calls of its own made. `book_of c` is the book's list of points, kept from the calls alone.
-- `Reaches c s` says that s is a summary that the calls c may leave. It takes each call of the program for what its contract says, and for no more: the
-- generated `Learnt` of `empty`, `feed` and `join` is what a caller learns of a call, whatever it returned.
-- The claim is `demand_3`: whatever summary the calls leave, and whatever the answer then returns, `Claim c s` holds. `run_reached` says that every
-- list of calls leaves a summary. Assumes nothing.
use mathlib.Core.Path.{◌≡◌, refl, ◌∙◌}
use mathlib.Core.List.{[], ◌∷◌}
use lib.Ieee.{Float}
use Rattle.sweep.specs.Refusal.{refusal_of}
use Rattle.sweep.specs.Runs.{Calls, mark, Reached, left_by, Returned, FedLists}
use Rattle.sweep.proofs.Conditions.{scan_checked}
use Rattle.sweep.proofs.Runs.{whole, run_by, ran_reached, left_stays, checked_feed}
use Rattle.nyquist.specs.Curve.{distance_of, curve_refusal}
use Rattle.nyquist.specs.Summary.{summary_of, approach_answer, Part, part_refusal, part_points, book_of}
use Rattle.nyquist.specs.declared.summary.CurveSummary.{CurveSummary}
use Rattle.nyquist.proofs.Joins.{kind, approach_answer_lem}
use Rattle.nyquist.proofs.summary.CurveSummary.empty.Reads as empty_reads
use Rattle.nyquist.proofs.summary.CurveSummary.feed.Reads as feed_reads
use Rattle.nyquist.proofs.summary.CurveSummary.join.Reads as join_reads
use Rattle.nyquist.proofs.summary.CurveSummary.closest_approach.Reads as approach_reads

-- ---- the calls, by their contracts

-- s is what a call of `empty` returned
abbrev pub Made : CurveSummary → Type 0
Made s = Returned empty_reads.Learnt tt s

-- t is the summary that the caller has after a call of `feed` on s with slices that hold the part's two lists
abbrev pub FedBy : CurveSummary → Part → CurveSummary → Type 0
FedBy s p t = FedLists (p.re ∷ p.im ∷ []) feed_reads.Learnt (λ r. left_by r s) s t

-- u is what a call of `join` on s and t returned
abbrev pub JoinedBy : CurveSummary → CurveSummary → CurveSummary → Type 0
JoinedBy s t u = Returned join_reads.Learnt (s, (t, tt)) u

-- r is what a call of `closest_approach` on s returned
abbrev pub ApproachOf : CurveSummary → Float → Type 0
ApproachOf s r = Returned approach_reads.Learnt (s, tt) r

-- s is a summary that the list of calls may leave
abbrev pub Reaches : Calls Part → CurveSummary → Type 0
Reaches = Reached Made FedBy JoinedBy

-- ---- the claim

-- Of a summary s that the calls c left: the closest approach is there, and is what `distance_to_critical` is defined to give on the book's list, of any length.
-- A feed's number is what its conditions give over the book; where that is not 0, the caller has the summary as it was.
pub record Claim (c : Calls Part) (s : CurveSummary) : Type 0 where
  pub approach_there : (r : Float) × ApproachOf s r
  pub approach : (r : Float) → ApproachOf s r → r ≡ distance_of (book_of c)
  pub feed_number : {p : Part} {t : CurveSummary} (h : FedBy s p t) → refusal_of h.result ≡ part_refusal (book_of c) (mark c) p
  pub feed_refused : {p : Part} {t : CurveSummary} → FedBy s p t → (part_refusal (book_of c) (mark c) p ≡ 0 → ⊥) → t ≡ s

-- ---- the proof: whatever the calls leave is the summary of the book

pub summary_of_book : {c : Calls Part} {s : CurveSummary} → Reaches c s → s ≡ summary_of (book_of c) (mark c)
unfolding book_of part_refusal part_points
summary_of_book r = whole kind (λ s h. h.learnt) (λ l m p t h. h.after ∙ h.call.learnt.1) (λ s t u h. h.learnt) r

pub demand_3 : (c : Calls Part) (s : CurveSummary) → Reaches c s → Claim c s
unfolding part_refusal part_points
demand_3 c s h =
    record {
      approach_there = (approach_answer s, record { lifetimes = tt; exits = (s, tt); learnt = refl });
      approach = λ r g. rw (summary_of_book h, approach_answer_lem) at g.learnt;
      feed_number = λ f. f.call.learnt.0;
      feed_refused = λ f n. left_stays _ (f.after ∙ f.call.learnt.1) n;
    }

-- ---- the claim is of something: every list of calls leaves a summary

-- the summary that the definitions leave after the calls
pub run : Calls Part → CurveSummary
run = run_by kind

pub run_reached : (c : Calls Part) → Reaches c (run c)
unfolding run part_refusal part_points curve_refusal
run_reached =
    ran_reached kind (record { lifetimes = tt; exits = tt; learnt = refl })
    (λ s p. checked_feed ([], ([], tt)) _ (scan_checked _ _) (λ a r h. h))
    (λ s t. record { lifetimes = tt; exits = (s, (t, tt)); learnt = refl })

-- ---- two lists of calls with the same book answer the same, however the curve was cut, fed and joined

pub same_approach : (c d : Calls Part) → book_of c ≡ book_of d → (s t : CurveSummary) → Reaches c s → Reaches d t → (r q : Float) → ApproachOf s r → ApproachOf t q → r ≡ q
same_approach c d e s t h k r q g f = cc ((demand_3 c s h).approach r g, (demand_3 d t k).approach q f)
