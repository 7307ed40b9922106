-- Demand 3 for a host of the summary of a curve: whatever list of feeds and joins it makes through the exported functions, keeping the plain numbers in between, they
-- answer what the scan is defined to give on the book's list. A call is known by its function's contract alone, as in nyquist/proofs/Runs. Assumes nothing.
use mathlib.Core.Path.{◌≡◌, refl, ap, ◌∙◌}
use mathlib.Core.Bool.{false}
use mathlib.Core.List.{[], ◌∷◌}
use lib.Ieee.{Float}
use Rattle.sweep.specs.Runs.{Calls, mark, Reached, Returned, FedLists}
use Rattle.sweep.proofs.Runs.{Kind, whole, run_by, ran_reached, left_stays, fed_lists}
use Rattle.sweep.proofs.Plain.{plain_kind}
use Rattle.complex.specs.declared.Complex.{Complex}
use Rattle.nyquist.specs.Curve.{distance_of}
use Rattle.nyquist.specs.Summary.{summary_of, fed_by, approach_answer, Part, part_refusal, part_points, book_of}
use Rattle.nyquist.specs.Plain.{plain_of, from_plain}
use Rattle.nyquist.specs.declared.summary.CurvePlain.{CurvePlain}
use Rattle.nyquist.proofs.Joins.{kind, approach_answer_lem}
use Rattle.nyquist.proofs.Plain.{plain_back}
use Rattle.c_summaries.specs.Fed.{fed_curve}
use Rattle.c_summaries.specs.declared.curve_summary.CurvePlainFed.{CurvePlainFed}
use Rattle.c_summaries.proofs.curve_summary.bazintroa_curve_empty.Reads as empty_reads
use Rattle.c_summaries.proofs.curve_summary.bazintroa_curve_feed.Reads as feed_reads
use Rattle.c_summaries.proofs.curve_summary.bazintroa_curve_join.Reads as join_reads
use Rattle.c_summaries.proofs.curve_summary.bazintroa_curve_closest_approach.Reads as approach_reads

-- ---- the calls, by their contracts

-- p is what a call of `bazintroa_curve_empty` returned
abbrev pub Made : CurvePlain → Type 0
Made p = Returned empty_reads.Learnt tt p

-- q is the summary that a call of `bazintroa_curve_feed` on p returned, with slices that hold the part's two lists
abbrev pub FedBy : CurvePlain → Part → CurvePlain → Type 0
FedBy p x q = FedLists (x.re ∷ x.im ∷ []) feed_reads.Learnt (λ r. r.summary) p q

-- r is what a call of `bazintroa_curve_join` on p and q returned
abbrev pub JoinedBy : CurvePlain → CurvePlain → CurvePlain → Type 0
JoinedBy p q r = Returned join_reads.Learnt (p, (q, tt)) r

-- r is what a call of `bazintroa_curve_closest_approach` on p returned
abbrev pub ApproachOf : CurvePlain → Float → Type 0
ApproachOf p r = Returned approach_reads.Learnt (p, tt) r

-- p are plain numbers that the list of calls may leave
abbrev pub Reaches : Calls Part → CurvePlain → Type 0
Reaches = Reached Made FedBy JoinedBy

-- ---- the claim

-- Of plain numbers p that the calls c left: the answer is there, and is the scan's on the book's list. A feed's number is what its conditions give over the book;
-- where that is not 0, the numbers come back as they were.
pub record Host (c : Calls Part) (p : CurvePlain) : Type 0 where
  pub approach_there : (r : Float) × ApproachOf p r
  pub approach : {r : Float} → ApproachOf p r → r ≡ distance_of (book_of c)
  pub feed_number : {x : Part} {q : CurvePlain} (h : FedBy p x q) → h.result.number ≡ part_refusal (book_of c) (mark c) x
  pub feed_refused : {x : Part} {q : CurvePlain} → FedBy p x q → (part_refusal (book_of c) (mark c) x ≡ 0 → ⊥) → q ≡ p

-- ---- the proof: whatever the calls leave are the plain numbers of the book's summary

-- the plain numbers are a kind of summary
abbrev plain : Kind Part Complex CurvePlain
plain = plain_kind kind plain_of from_plain plain_back

pub plain_of_book : {c : Calls Part} {p : CurvePlain} → Reaches c p → p ≡ plain_of (summary_of (book_of c) (mark c))
unfolding book_of part_refusal part_points fed_curve
plain_of_book r = whole plain (λ p h. h.learnt) (λ l m x q h. h.after ∙ ap (λ (f : CurvePlainFed). f.summary) h.call.learnt) (λ p q r h. h.learnt) r

pub demand_3 : (c : Calls Part) (p : CurvePlain) → Reaches c p → Host c p
unfolding part_refusal part_points fed_curve
demand_3 c p h =
    record {
      approach_there = (approach_answer (from_plain p), record { lifetimes = tt; exits = (p, tt); learnt = refl });
      approach = λ g. rw (plain_of_book h, plain_back, approach_answer_lem) at g.learnt;
      feed_number = λ f. ap (λ (r : CurvePlainFed). r.number) f.call.learnt;
      feed_refused = λ f n. left_stays _ (f.after ∙ ap (λ (r : CurvePlainFed). r.summary) f.call.learnt) n;
    }

-- ---- the claim is of something: every list of calls leaves plain numbers

-- what the definitions give a host after the calls
pub run : Calls Part → CurvePlain
run = run_by plain

pub run_reached : (c : Calls Part) → Reaches c (run c)
unfolding run part_refusal part_points fed_curve
run_reached =
    ran_reached plain (record { lifetimes = tt; exits = tt; learnt = refl })
    (λ p x. fed_lists ([], ([], tt)) (fed_curve (part_refusal [] false x) (fed_by (from_plain p) (part_points x)) p) (λ a. refl) refl)
    (λ p q. record { lifetimes = tt; exits = (p, (q, tt)); learnt = refl })
