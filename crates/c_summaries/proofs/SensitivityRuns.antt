-- Demand 3 for a host of the summary of S and T: whatever list of feeds and joins it makes through the exported functions, keeping the plain numbers in between, they
-- answer what the scans are defined to give on the book's list. A call is known by its function's contract alone, as in sensitivity/proofs/Runs. Assumes nothing.
use Prim.Native.Nat.{ℕ}
use mathlib.Core.Path.{◌≡◌, refl, sym, ap, ◌∙◌}
use mathlib.Core.Bool.{true, false}
use mathlib.Core.List.{[], ◌∷◌}
use lib.Ieee.{Float}
use Rattle.sweep.specs.Answer.{crossing_outcome}
use Rattle.sweep.specs.Runs.{Calls, mark, Reached, Returned, FedLists, Answered}
use Rattle.sweep.specs.Scan.{Neighbours}
use Rattle.sweep.proofs.Answers.{crossing_there, kept_there, crossing_none}
use Rattle.sweep.proofs.Runs.{Kind, whole, run_by, ran_reached, left_stays, fed_lists, answered_there}
use Rattle.sweep.proofs.Plain.{plain_kind}
use Rattle.sensitivity.specs.Scans.{equal_crosses, sensitivity_crossover, level_of, drops}
use Rattle.sensitivity.specs.Summary.{summary_of, fed_by, crossover_answer, bandwidth_answer, bandwidth_outcome, Part, part_refusal, part_readings, book_of}
use Rattle.sensitivity.specs.Plain.{plain_of, from_plain}
use Rattle.sensitivity.specs.declared.Reading.{Reading}
use Rattle.sensitivity.specs.declared.summary.SensitivityPlain.{SensitivityPlain}
use Rattle.sensitivity.proofs.Laws.{no_crossover_in, none_of_crossover, no_bandwidth_in, none_of_bandwidth, under_mark, without_mark, only_under_mark, none_unmarked}
use Rattle.sensitivity.proofs.Joins.{kind, crossover_answer_lem, bandwidth_answer_lem}
use Rattle.sensitivity.proofs.Plain.{plain_back}
use Rattle.laws.specs.Outcome.{Outcome, Answers}
use Rattle.c_summaries.specs.Fed.{fed_sensitivity}
use Rattle.c_summaries.specs.declared.sensitivity_summary.SensitivityPlainFed.{SensitivityPlainFed}
use Rattle.c_summaries.proofs.sensitivity_summary.bazintroa_sensitivity_empty.Reads as empty_reads
use Rattle.c_summaries.proofs.sensitivity_summary.bazintroa_sensitivity_feed.Reads as feed_reads
use Rattle.c_summaries.proofs.sensitivity_summary.bazintroa_sensitivity_join.Reads as join_reads
use Rattle.c_summaries.proofs.sensitivity_summary.bazintroa_sensitivity_summary_crossover.Reads as crossover_reads
use Rattle.c_summaries.proofs.sensitivity_summary.bazintroa_sensitivity_summary_bandwidth.Reads as bandwidth_reads

-- ---- the calls, by their contracts

-- p is what a call of `bazintroa_sensitivity_empty` returned
abbrev pub Made : SensitivityPlain → Type 0
Made p = Returned empty_reads.Learnt tt p

-- q is the summary that a call of `bazintroa_sensitivity_feed` on p returned, with slices that hold the part's three lists
abbrev pub FedBy : SensitivityPlain → Part → SensitivityPlain → Type 0
FedBy p x q = FedLists (x.omega ∷ x.s ∷ x.t ∷ []) feed_reads.Learnt (λ r. r.summary) p q

-- r is what a call of `bazintroa_sensitivity_join` on p and q returned
abbrev pub JoinedBy : SensitivityPlain → SensitivityPlain → SensitivityPlain → Type 0
JoinedBy p q r = Returned join_reads.Learnt (p, (q, tt)) r

-- a call of `bazintroa_sensitivity_summary_crossover` on p returned r and left `after` in a place that held `before`
abbrev pub CrossoverOf : SensitivityPlain → ℕ → Float → Float → Type 0
CrossoverOf p r before after = Answered crossover_reads.Learnt p r before after

-- the same of `bazintroa_sensitivity_summary_bandwidth`
abbrev pub BandwidthOf : SensitivityPlain → ℕ → Float → Float → Type 0
BandwidthOf p r before after = Answered bandwidth_reads.Learnt p r before after

-- p are plain numbers that the list of calls may leave
abbrev pub Reaches : Calls Part → SensitivityPlain → Type 0
Reaches = Reached Made FedBy JoinedBy

-- ---- the claim

-- Of plain numbers p that the calls c left: each answer is there, and its number and place are those of its scan's outcome on the book's list. The bandwidth is 101
-- exactly under the mark; each number is 100 exactly when no two neighbours of that list cross, of the bandwidth without the mark. A feed's number is what its
-- conditions give over the book; where that is not 0, the numbers come back as they were.
pub record Host (c : Calls Part) (p : SensitivityPlain) : Type 0 where
  pub crossover_there : (before : Float) → (r : ℕ) × ((after : Float) × CrossoverOf p r before after)
  pub bandwidth_there : (before : Float) → (r : ℕ) × ((after : Float) × BandwidthOf p r before after)
  pub crossover : {r : ℕ} {before after : Float} → CrossoverOf p r before after → Answers (crossing_outcome (sensitivity_crossover (book_of c))) r (before ∷ []) (after ∷ [])
  pub bandwidth : {r : ℕ} {before after : Float} → BandwidthOf p r before after → Answers (bandwidth_outcome (mark c) (book_of c)) r (before ∷ []) (after ∷ [])
  pub no_crossover : {r : ℕ} {before after : Float} → CrossoverOf p r before after → r ≡ 100 → (x y : Reading) → Neighbours (book_of c) x y → equal_crosses x y ≡ false
  pub crossover_none : {r : ℕ} {before after : Float} → CrossoverOf p r before after → ((x y : Reading) → Neighbours (book_of c) x y → equal_crosses x y ≡ false) → r ≡ 100
  pub bandwidth_marked : {r : ℕ} {before after : Float} → BandwidthOf p r before after → mark c ≡ true → r ≡ 101
  pub only_marked : {r : ℕ} {before after : Float} → BandwidthOf p r before after → r ≡ 101 → mark c ≡ true
  pub no_bandwidth : {r : ℕ} {before after : Float} → BandwidthOf p r before after → r ≡ 100 → (x y : Reading) → Neighbours (book_of c) x y → drops (level_of (book_of c)) x y ≡ false
  pub bandwidth_none : {r : ℕ} {before after : Float} → BandwidthOf p r before after → mark c ≡ false
      → ((x y : Reading) → Neighbours (book_of c) x y → drops (level_of (book_of c)) x y ≡ false) → r ≡ 100
  pub feed_number : {x : Part} {q : SensitivityPlain} (h : FedBy p x q) → h.result.number ≡ part_refusal (book_of c) (mark c) x
  pub feed_refused : {x : Part} {q : SensitivityPlain} → FedBy p x q → (part_refusal (book_of c) (mark c) x ≡ 0 → ⊥) → q ≡ p

-- ---- the proof: whatever the calls leave are the plain numbers of the book's summary

-- the plain numbers are a kind of summary
abbrev plain : Kind Part Reading SensitivityPlain
plain = plain_kind kind plain_of from_plain plain_back

pub plain_of_book : {c : Calls Part} {p : SensitivityPlain} → Reaches c p → p ≡ plain_of (summary_of (book_of c) (mark c))
unfolding book_of part_refusal part_readings fed_sensitivity
plain_of_book r = whole plain (λ p h. h.learnt) (λ l m x q h. h.after ∙ ap (λ (f : SensitivityPlainFed). f.summary) h.call.learnt) (λ p q r h. h.learnt) r

pub demand_3 : (c : Calls Part) (p : SensitivityPlain) → Reaches c p → Host c p
unfolding crossover_answer bandwidth_answer part_refusal part_readings fed_sensitivity
demand_3 c p h =
    record {
      crossover_there = λ before. let a = crossing_there (from_plain p).crossover before in (a.0, (a.1.0, answered_there ([], tt) (λ place. a.1.1)));
      bandwidth_there = λ before. let a = kept_there (from_plain p).bandwidth before in (a.0, (a.1.0, answered_there ([], tt) (λ place. a.1.1)));
      crossover = crossover_is;
      bandwidth = bandwidth_is;
      no_crossover = λ g e. no_crossover_in (book_of c) (crossing_none (sensitivity_crossover (book_of c)) (sym (crossover_is g).number ∙ e));
      crossover_none = λ g e. (crossover_is g).number ∙ ap (λ (o : Outcome). o.number) (none_of_crossover (book_of c) e);
      bandwidth_marked = λ g e. (bandwidth_is g).number ∙ ap (λ (o : Outcome). o.number) (under_mark (mark c) (book_of c) e);
      only_marked = λ g e. only_under_mark (mark c) (book_of c) (sym (bandwidth_is g).number ∙ e);
      no_bandwidth = λ g e. no_bandwidth_in (book_of c) (none_unmarked (mark c) (book_of c) (sym (bandwidth_is g).number ∙ e));
      bandwidth_none = λ g e f. (bandwidth_is g).number ∙ ap (λ (o : Outcome). o.number) (without_mark (mark c) (book_of c) e ∙ none_of_bandwidth (book_of c) f);
      feed_number = λ f. ap (λ (r : SensitivityPlainFed). r.number) f.call.learnt;
      feed_refused = λ f n. left_stays _ (f.after ∙ ap (λ (r : SensitivityPlainFed). r.summary) f.call.learnt) n;
    }
  where
    crossover_is : {r : ℕ} {before after : Float} → CrossoverOf p r before after → Answers (crossing_outcome (sensitivity_crossover (book_of c))) r (before ∷ []) (after ∷ [])
    crossover_is g = rw (plain_of_book h, plain_back, crossover_answer_lem) at g.learnt

    bandwidth_is : {r : ℕ} {before after : Float} → BandwidthOf p r before after → Answers (bandwidth_outcome (mark c) (book_of c)) r (before ∷ []) (after ∷ [])
    bandwidth_is g = rw (plain_of_book h, plain_back, bandwidth_answer_lem) at g.learnt

-- ---- the claim is of something: every list of calls leaves plain numbers

-- what the definitions give a host after the calls
pub run : Calls Part → SensitivityPlain
run = run_by plain

pub run_reached : (c : Calls Part) → Reaches c (run c)
unfolding run part_refusal part_readings fed_sensitivity
run_reached =
    ran_reached plain (record { lifetimes = tt; exits = tt; learnt = refl })
    (λ p x. fed_lists ([], ([], ([], tt))) (fed_sensitivity (part_refusal [] false x) (fed_by (from_plain p) (part_readings x)) p) (λ a. refl) refl)
    (λ p q. record { lifetimes = tt; exits = (p, (q, tt)); learnt = refl })
