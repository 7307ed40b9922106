-- Demand 3 for a host of the Bode summary: whatever list of feeds and joins it makes through the exported functions, keeping the plain numbers in between, they
-- answer what the scans are defined to give on the book's list. A call is known by its function's contract alone, as in bode/proofs/Runs. Assumes nothing.
use Prim.Native.Nat.{ℕ}
use mathlib.Core.Path.{◌≡◌, refl, sym, ap, ◌∙◌}
use mathlib.Core.Bool.{false}
use mathlib.Core.List.{[], ◌∷◌}
use lib.Ieee.{Float}
use Rattle.sweep.specs.Answer.{crossing_outcome}
use Rattle.sweep.specs.Runs.{Calls, mark, Reached, Returned, FedLists, Answered}
use Rattle.sweep.specs.Scan.{Neighbours}
use Rattle.sweep.proofs.Answers.{crossing_there, crossing_none}
use Rattle.sweep.proofs.Runs.{Kind, whole, run_by, ran_reached, left_stays, fed_lists, answered_there}
use Rattle.sweep.proofs.Plain.{plain_kind}
use Rattle.bode.specs.Bode.{gain_crosses, phase_crosses, gain_crossover, phase_crossover, Gain, Phase}
use Rattle.bode.specs.Summary.{summary_of, fed_by, gain_answer, phase_answer, Part, part_refusal, part_readings, book_of}
use Rattle.bode.specs.Plain.{plain_of, from_plain}
use Rattle.bode.specs.declared.Reading.{Reading}
use Rattle.bode.specs.declared.summary.BodePlain.{BodePlain}
use Rattle.bode.proofs.Laws.{no_crossover_in, none_of_crossover}
use Rattle.bode.proofs.Joins.{kind, answer_is}
use Rattle.bode.proofs.Plain.{plain_back}
use Rattle.laws.specs.Outcome.{Outcome, Answers}
use Rattle.c_summaries.specs.Fed.{fed_bode}
use Rattle.c_summaries.specs.declared.bode_summary.BodePlainFed.{BodePlainFed}
use Rattle.c_summaries.proofs.bode_summary.bazintroa_bode_empty.Reads as empty_reads
use Rattle.c_summaries.proofs.bode_summary.bazintroa_bode_feed.Reads as feed_reads
use Rattle.c_summaries.proofs.bode_summary.bazintroa_bode_join.Reads as join_reads
use Rattle.c_summaries.proofs.bode_summary.bazintroa_bode_gain_crossover.Reads as gain_reads
use Rattle.c_summaries.proofs.bode_summary.bazintroa_bode_phase_crossover.Reads as phase_reads

-- ---- the calls, by their contracts

-- p is what a call of `bazintroa_bode_empty` returned
abbrev pub Made : BodePlain → Type 0
Made p = Returned empty_reads.Learnt tt p

-- q is the summary that a call of `bazintroa_bode_feed` on p returned, with slices that hold the part's three lists
abbrev pub FedBy : BodePlain → Part → BodePlain → Type 0
FedBy p x q = FedLists (x.omega ∷ x.db ∷ x.phase ∷ []) feed_reads.Learnt (λ r. r.summary) p q

-- r is what a call of `bazintroa_bode_join` on p and q returned
abbrev pub JoinedBy : BodePlain → BodePlain → BodePlain → Type 0
JoinedBy p q r = Returned join_reads.Learnt (p, (q, tt)) r

-- a call of `bazintroa_bode_gain_crossover` on p returned r and left `after` in a place that held `before`
abbrev pub GainOf : BodePlain → ℕ → Float → Float → Type 0
GainOf p r before after = Answered gain_reads.Learnt p r before after

-- the same of `bazintroa_bode_phase_crossover`
abbrev pub PhaseOf : BodePlain → ℕ → Float → Float → Type 0
PhaseOf p r before after = Answered phase_reads.Learnt p r before after

-- p are plain numbers that the list of calls may leave
abbrev pub Reaches : Calls Part → BodePlain → Type 0
Reaches = Reached Made FedBy JoinedBy

-- ---- the claim

-- Of plain numbers p that the calls c left: each answer is there, and its number and place are those of its scan's outcome on the book's list; the number is 100
-- exactly when no two neighbours of that list cross. A feed's number is what its conditions give over the book; where that is not 0, the numbers come back as they were.
pub record Host (c : Calls Part) (p : BodePlain) : Type 0 where
  pub gain_there : (before : Float) → (r : ℕ) × ((after : Float) × GainOf p r before after)
  pub phase_there : (before : Float) → (r : ℕ) × ((after : Float) × PhaseOf p r before after)
  pub gain : {r : ℕ} {before after : Float} → GainOf p r before after → Answers (crossing_outcome (gain_crossover (book_of c))) r (before ∷ []) (after ∷ [])
  pub phase : {r : ℕ} {before after : Float} → PhaseOf p r before after → Answers (crossing_outcome (phase_crossover (book_of c))) r (before ∷ []) (after ∷ [])
  pub no_gain : {r : ℕ} {before after : Float} → GainOf p r before after → r ≡ 100 → (x y : Reading) → Neighbours (book_of c) x y → gain_crosses x y ≡ false
  pub gain_none : {r : ℕ} {before after : Float} → GainOf p r before after → ((x y : Reading) → Neighbours (book_of c) x y → gain_crosses x y ≡ false) → r ≡ 100
  pub no_phase : {r : ℕ} {before after : Float} → PhaseOf p r before after → r ≡ 100 → (x y : Reading) → Neighbours (book_of c) x y → phase_crosses x y ≡ false
  pub phase_none : {r : ℕ} {before after : Float} → PhaseOf p r before after → ((x y : Reading) → Neighbours (book_of c) x y → phase_crosses x y ≡ false) → r ≡ 100
  pub feed_number : {x : Part} {q : BodePlain} (h : FedBy p x q) → h.result.number ≡ part_refusal (book_of c) (mark c) x
  pub feed_refused : {x : Part} {q : BodePlain} → FedBy p x q → (part_refusal (book_of c) (mark c) x ≡ 0 → ⊥) → q ≡ p

-- ---- the proof: whatever the calls leave are the plain numbers of the book's summary

-- the plain numbers are a kind of summary
abbrev plain : Kind Part Reading BodePlain
plain = plain_kind kind plain_of from_plain plain_back

pub plain_of_book : {c : Calls Part} {p : BodePlain} → Reaches c p → p ≡ plain_of (summary_of (book_of c) (mark c))
unfolding book_of part_refusal part_readings fed_bode
plain_of_book r = whole plain (λ p h. h.learnt) (λ l m x q h. h.after ∙ ap (λ (f : BodePlainFed). f.summary) h.call.learnt) (λ p q r h. h.learnt) r

pub demand_3 : (c : Calls Part) (p : BodePlain) → Reaches c p → Host c p
unfolding gain_answer phase_answer part_refusal part_readings fed_bode
demand_3 c p h =
    record {
      gain_there = λ before. let a = crossing_there (from_plain p).gain before in (a.0, (a.1.0, answered_there ([], tt) (λ place. a.1.1)));
      phase_there = λ before. let a = crossing_there (from_plain p).phase before in (a.0, (a.1.0, answered_there ([], tt) (λ place. a.1.1)));
      gain = gain_is;
      phase = phase_is;
      no_gain = λ g e. no_crossover_in Gain (book_of c) (crossing_none (gain_crossover (book_of c)) (sym (gain_is g).number ∙ e));
      gain_none = λ g e. (gain_is g).number ∙ ap (λ (o : Outcome). o.number) (none_of_crossover Gain (book_of c) e);
      no_phase = λ g e. no_crossover_in Phase (book_of c) (crossing_none (phase_crossover (book_of c)) (sym (phase_is g).number ∙ e));
      phase_none = λ g e. (phase_is g).number ∙ ap (λ (o : Outcome). o.number) (none_of_crossover Phase (book_of c) e);
      feed_number = λ f. ap (λ (r : BodePlainFed). r.number) f.call.learnt;
      feed_refused = λ f n. left_stays _ (f.after ∙ ap (λ (r : BodePlainFed). r.summary) f.call.learnt) n;
    }
  where
    gain_is : {r : ℕ} {before after : Float} → GainOf p r before after → Answers (crossing_outcome (gain_crossover (book_of c))) r (before ∷ []) (after ∷ [])
    gain_is g = rw (plain_of_book h, plain_back, answer_is Gain) at g.learnt

    phase_is : {r : ℕ} {before after : Float} → PhaseOf p r before after → Answers (crossing_outcome (phase_crossover (book_of c))) r (before ∷ []) (after ∷ [])
    phase_is g = rw (plain_of_book h, plain_back, answer_is Phase) at g.learnt

-- ---- the claim is of something: every list of calls leaves plain numbers

-- what the definitions give a host after the calls
pub run : Calls Part → BodePlain
run = run_by plain

pub run_reached : (c : Calls Part) → Reaches c (run c)
unfolding run part_refusal part_readings fed_bode
run_reached =
    ran_reached plain (record { lifetimes = tt; exits = tt; learnt = refl })
    (λ p x. fed_lists ([], ([], ([], tt))) (fed_bode (part_refusal [] false x) (fed_by (from_plain p) (part_readings x)) p) (λ a. refl) refl)
    (λ p q. record { lifetimes = tt; exits = (p, (q, tt)); learnt = refl })
