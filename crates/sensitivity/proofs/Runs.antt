-- Demand 3 for the summary of a sweep of S and T, one claim about every list of calls.
--
-- A list of calls is a `Calls Part`: it starts with an empty summary, and each later call is a feed of a part, which is three lists of any lengths and may be
-- refused, or a join with the summary that a list of calls of its own made. `book_of c` is the book's list of readings, kept from the calls alone.
-- `Reaches c s` says that s is a summary that the calls c may leave. It takes each call of the program for what its contract says, and for no more: the
-- generated `Learnt` of `empty`, `feed` and `join` is what a caller learns of a call, whatever it returned.
-- The claim is `demand_3`: whatever summary the calls leave, and whatever the two answers then return, `Claim c s` holds. `run_reached` says that every
-- list of calls leaves a summary. Assumes nothing.
use Prim.Native.Nat.{ℕ}
use mathlib.Core.Path.{◌≡◌, refl, sym, ap, ◌∙◌}
use mathlib.Core.Bool.{true, false}
use mathlib.Core.List.{[], ◌∷◌}
use Rattle.std.specs.Prelude.{Option, Result, Float}
use Rattle.laws.specs.Outcome.{Outcome, none}
use Rattle.sweep.specs.Answer.{crossing_outcome, kept_outcome, not_kept}
use Rattle.sweep.specs.Refusal.{refusal_of}
use Rattle.sweep.specs.Runs.{Calls, mark, Reached, left_by, Returned, FedLists}
use Rattle.sweep.specs.Scan.{Neighbours}
use Rattle.sweep.specs.declared.NotKept.{NotKept}
use Rattle.sweep.proofs.Conditions.{lists_checked}
use Rattle.sweep.proofs.Runs.{whole, run_by, ran_reached, left_stays, checked_feed}
use Rattle.sensitivity.specs.Scans.{equal_crosses, sensitivity_crossover, level_of, drops, bandwidth_of}
use Rattle.sensitivity.specs.Summary.{summary_of, crossover_answer, bandwidth_answer, bandwidth_outcome, Part, part_refusal, part_readings, book_of}
use Rattle.sensitivity.specs.declared.Reading.{Reading}
use Rattle.sensitivity.specs.declared.summary.SensitivitySummary.{SensitivitySummary}
use Rattle.sensitivity.proofs.Laws.{no_crossover_in, none_of_crossover, no_bandwidth_in, none_of_bandwidth, under_mark, without_mark, only_under_mark, none_unmarked}
use Rattle.sensitivity.proofs.Joins.{kind, crossover_answer_lem, bandwidth_answer_lem}
use Rattle.sensitivity.proofs.summary.SensitivitySummary.empty.Reads as empty_reads
use Rattle.sensitivity.proofs.summary.SensitivitySummary.feed.Reads as feed_reads
use Rattle.sensitivity.proofs.summary.SensitivitySummary.join.Reads as join_reads
use Rattle.sensitivity.proofs.summary.SensitivitySummary.crossover.Reads as crossover_reads
use Rattle.sensitivity.proofs.summary.SensitivitySummary.bandwidth.Reads as bandwidth_reads

-- ---- the calls, by their contracts

-- s is what a call of `empty` returned
abbrev pub Made : SensitivitySummary → Type 0
Made s = Returned empty_reads.Learnt tt s

-- t is the summary that the caller has after a call of `feed` on s with slices that hold the part's three lists
abbrev pub FedBy : SensitivitySummary → Part → SensitivitySummary → Type 0
FedBy s p t = FedLists (p.omega ∷ p.s ∷ p.t ∷ []) feed_reads.Learnt (λ r. left_by r s) s t

-- u is what a call of `join` on s and t returned
abbrev pub JoinedBy : SensitivitySummary → SensitivitySummary → SensitivitySummary → Type 0
JoinedBy s t u = Returned join_reads.Learnt (s, (t, tt)) u

-- r is what a call of `crossover` on s returned
abbrev pub CrossoverOf : SensitivitySummary → Option Float → Type 0
CrossoverOf s r = Returned crossover_reads.Learnt (s, tt) r

-- r is what a call of `bandwidth` on s returned
abbrev pub BandwidthOf : SensitivitySummary → Result (Option Float) NotKept → Type 0
BandwidthOf s r = Returned bandwidth_reads.Learnt (s, tt) r

-- s is a summary that the list of calls may leave
abbrev pub Reaches : Calls Part → SensitivitySummary → Type 0
Reaches = Reached Made FedBy JoinedBy

-- ---- the claim

-- Of a summary s that the calls c left: each answer is there. The crossover is what its scan is defined to give on the book's list, of any length; the bandwidth is "not kept" exactly
-- under the mark, and else what its scan is defined to give. Each is "none" exactly when no two neighbours of that list cross, whichever parts brought them.
-- A feed's number is what its conditions give over the book; where that is not 0, the caller has the summary as it was.
pub record Claim (c : Calls Part) (s : SensitivitySummary) : Type 0 where
  pub crossover_there : (r : Option Float) × CrossoverOf s r
  pub bandwidth_there : (r : Result (Option Float) NotKept) × BandwidthOf s r
  pub crossover : (r : Option Float) → CrossoverOf s r → crossing_outcome r ≡ crossing_outcome (sensitivity_crossover (book_of c))
  pub no_crossover : (r : Option Float) → CrossoverOf s r → crossing_outcome r ≡ none → (x y : Reading) → Neighbours (book_of c) x y → equal_crosses x y ≡ false
  pub crossover_none : (r : Option Float) → CrossoverOf s r → ((x y : Reading) → Neighbours (book_of c) x y → equal_crosses x y ≡ false) → crossing_outcome r ≡ none
  pub bandwidth : (r : Result (Option Float) NotKept) → BandwidthOf s r → mark c ≡ false → kept_outcome r ≡ crossing_outcome (bandwidth_of (book_of c))
  pub bandwidth_marked : (r : Result (Option Float) NotKept) → BandwidthOf s r → mark c ≡ true → kept_outcome r ≡ not_kept
  pub only_marked : (r : Result (Option Float) NotKept) → BandwidthOf s r → kept_outcome r ≡ not_kept → mark c ≡ true
  pub no_bandwidth : (r : Result (Option Float) NotKept) → BandwidthOf s r → kept_outcome r ≡ none → (x y : Reading) → Neighbours (book_of c) x y → drops (level_of (book_of c)) x y ≡ false
  pub bandwidth_none : (r : Result (Option Float) NotKept) → BandwidthOf s r → mark c ≡ false → ((x y : Reading) → Neighbours (book_of c) x y → drops (level_of (book_of c)) x y ≡ false) → kept_outcome r ≡ none
  pub feed_number : {p : Part} {t : SensitivitySummary} (h : FedBy s p t) → refusal_of h.result ≡ part_refusal (book_of c) (mark c) p
  pub feed_refused : {p : Part} {t : SensitivitySummary} → FedBy s p t → (part_refusal (book_of c) (mark c) p ≡ 0 → ⊥) → t ≡ s

-- ---- the proof: whatever the calls leave is the summary of the book

pub summary_of_book : {c : Calls Part} {s : SensitivitySummary} → Reaches c s → s ≡ summary_of (book_of c) (mark c)
unfolding book_of part_refusal part_readings
summary_of_book r = whole kind (λ s h. h.learnt) (λ l m p t h. h.after ∙ h.call.learnt.1) (λ s t u h. h.learnt) r

pub demand_3 : (c : Calls Part) (s : SensitivitySummary) → Reaches c s → Claim c s
unfolding crossover_answer bandwidth_answer part_refusal part_readings
demand_3 c s h =
    record {
      crossover_there = (s.crossover, record { lifetimes = tt; exits = (s, tt); learnt = refl });
      bandwidth_there = (s.bandwidth, record { lifetimes = tt; exits = (s, tt); learnt = refl });
      crossover = crossover_is;
      no_crossover = λ r g e. no_crossover_in (book_of c) (sym (crossover_is r g) ∙ e);
      crossover_none = λ r g e. crossover_is r g ∙ none_of_crossover (book_of c) e;
      bandwidth = λ r g e. bandwidth_is r g ∙ without_mark (mark c) (book_of c) e;
      bandwidth_marked = λ r g e. bandwidth_is r g ∙ under_mark (mark c) (book_of c) e;
      only_marked = λ r g e. only_under_mark (mark c) (book_of c) (ap number (sym (bandwidth_is r g) ∙ e));
      no_bandwidth = λ r g e. no_bandwidth_in (book_of c) (none_unmarked (mark c) (book_of c) (ap number (sym (bandwidth_is r g) ∙ e)));
      bandwidth_none = λ r g e f. bandwidth_is r g ∙ without_mark (mark c) (book_of c) e ∙ none_of_bandwidth (book_of c) f;
      feed_number = λ f. f.call.learnt.0;
      feed_refused = λ f n. left_stays _ (f.after ∙ f.call.learnt.1) n;
    }
  where
    number : Outcome → ℕ
    number o = o.number

    crossover_is : (r : Option Float) → CrossoverOf s r → crossing_outcome r ≡ crossing_outcome (sensitivity_crossover (book_of c))
    crossover_is r g = rw (summary_of_book h, crossover_answer_lem) at g.learnt

    bandwidth_is : (r : Result (Option Float) NotKept) → BandwidthOf s r → kept_outcome r ≡ bandwidth_outcome (mark c) (book_of c)
    bandwidth_is r g = rw (summary_of_book h, bandwidth_answer_lem) at g.learnt

-- ---- the claim is of something: every list of calls leaves a summary

-- the summary that the definitions leave after the calls
pub run : Calls Part → SensitivitySummary
run = run_by kind

pub run_reached : (c : Calls Part) → Reaches c (run c)
unfolding run part_refusal part_readings
run_reached =
    ran_reached kind (record { lifetimes = tt; exits = tt; learnt = refl })
    (λ s p. checked_feed ([], ([], ([], tt))) _ (lists_checked p.omega p.s p.t) (λ a r h. h))
    (λ s t. record { lifetimes = tt; exits = (s, (t, tt)); learnt = refl })

-- ---- two lists of calls with the same book answer the same, however the sweep was cut, fed and joined

pub same_crossover : (c d : Calls Part) → book_of c ≡ book_of d → (s t : SensitivitySummary) → Reaches c s → Reaches d t → (r q : Option Float) → CrossoverOf s r → CrossoverOf t q → crossing_outcome r ≡ crossing_outcome q
same_crossover c d e s t h k r q g f = cc ((demand_3 c s h).crossover r g, (demand_3 d t k).crossover q f)
