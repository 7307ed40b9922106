-- Demand 3 for the Bode summary, one claim about every list of calls.
--
-- A list of calls is a `Calls Part`: it starts with an empty summary, and each later call is a feed of a part, which is three lists of any lengths and may be
-- refused, or a join with the summary that a list of calls of its own made. `book_of c` is the book's list of readings, kept from the calls alone.
-- `Reaches c s` says that s is a summary that the calls c may leave. It takes each call of the program for what its contract says, and for no more: the
-- generated `Learnt` of `empty`, `feed` and `join` is what a caller learns of a call, whatever it returned.
-- The claim is `demand_3`: whatever summary the calls leave, and whatever the two answers then return, `Claim c s` holds. `run_reached` says that every
-- list of calls leaves a summary. Assumes nothing.
use mathlib.Core.Path.{◌≡◌, refl, sym, ◌∙◌}
use mathlib.Core.Bool.{false}
use mathlib.Core.List.{[], ◌∷◌}
use Rattle.laws.specs.Outcome.{none}
use Rattle.sweep.specs.Answer.{crossing_outcome}
use Rattle.sweep.specs.Runs.{Calls, mark, Reached, left_by, Returned, FedLists}
use Rattle.sweep.specs.Scan.{Neighbours}
use Rattle.std.specs.Prelude.{Option, Float}
use Rattle.sweep.specs.Refusal.{refusal_of}
use Rattle.sweep.proofs.Conditions.{lists_checked}
use Rattle.sweep.proofs.Runs.{whole, run_by, ran_reached, left_stays, checked_feed}
use Rattle.bode.specs.Bode.{gain_crosses, phase_crosses, gain_crossover, phase_crossover, Gain, Phase}
use Rattle.bode.specs.Summary.{summary_of, gain_answer, phase_answer, Part, part_refusal, part_readings, book_of}
use Rattle.bode.specs.declared.Reading.{Reading}
use Rattle.bode.specs.declared.summary.BodeSummary.{BodeSummary}
use Rattle.bode.proofs.Laws.{no_crossover_in, none_of_crossover}
use Rattle.bode.proofs.Joins.{kind, answer_is}
use Rattle.bode.proofs.summary.BodeSummary.empty.Reads as empty_reads
use Rattle.bode.proofs.summary.BodeSummary.feed.Reads as feed_reads
use Rattle.bode.proofs.summary.BodeSummary.join.Reads as join_reads
use Rattle.bode.proofs.summary.BodeSummary.gain_crossover.Reads as gain_reads
use Rattle.bode.proofs.summary.BodeSummary.phase_crossover.Reads as phase_reads

-- ---- the calls, by their contracts

-- s is what a call of `empty` returned
abbrev pub Made : BodeSummary → Type 0
Made s = Returned empty_reads.Learnt tt s

-- t is the summary that the caller has after a call of `feed` on s with slices that hold the part's three lists
abbrev pub FedBy : BodeSummary → Part → BodeSummary → Type 0
FedBy s p t = FedLists (p.omega ∷ p.db ∷ p.phase ∷ []) feed_reads.Learnt (λ r. left_by r s) s t

-- u is what a call of `join` on s and t returned
abbrev pub JoinedBy : BodeSummary → BodeSummary → BodeSummary → Type 0
JoinedBy s t u = Returned join_reads.Learnt (s, (t, tt)) u

-- r is what a call of `gain_crossover` on s returned
abbrev pub GainOf : BodeSummary → Option Float → Type 0
GainOf s r = Returned gain_reads.Learnt (s, tt) r

-- r is what a call of `phase_crossover` on s returned
abbrev pub PhaseOf : BodeSummary → Option Float → Type 0
PhaseOf s r = Returned phase_reads.Learnt (s, tt) r

-- s is a summary that the list of calls may leave
abbrev pub Reaches : Calls Part → BodeSummary → Type 0
Reaches = Reached Made FedBy JoinedBy

-- ---- the claim

-- Of a summary s that the calls c left: each answer is there, and is what its scan is defined to give on the book's list, of any length; and it is "none" exactly
-- when no two neighbours of that list cross, whichever parts brought them. A feed's number is what its conditions give over the book; where that is not 0, the
-- caller has the summary as it was.
pub record Claim (c : Calls Part) (s : BodeSummary) : Type 0 where
  pub gain_there : (r : Option Float) × GainOf s r
  pub phase_there : (r : Option Float) × PhaseOf s r
  pub gain : (r : Option Float) → GainOf s r → crossing_outcome r ≡ crossing_outcome (gain_crossover (book_of c))
  pub phase : (r : Option Float) → PhaseOf s r → crossing_outcome r ≡ crossing_outcome (phase_crossover (book_of c))
  pub no_gain : (r : Option Float) → GainOf s r → crossing_outcome r ≡ none → (x y : Reading) → Neighbours (book_of c) x y → gain_crosses x y ≡ false
  pub gain_none : (r : Option Float) → GainOf s r → ((x y : Reading) → Neighbours (book_of c) x y → gain_crosses x y ≡ false) → crossing_outcome r ≡ none
  pub no_phase : (r : Option Float) → PhaseOf s r → crossing_outcome r ≡ none → (x y : Reading) → Neighbours (book_of c) x y → phase_crosses x y ≡ false
  pub phase_none : (r : Option Float) → PhaseOf s r → ((x y : Reading) → Neighbours (book_of c) x y → phase_crosses x y ≡ false) → crossing_outcome r ≡ none
  pub feed_number : {p : Part} {t : BodeSummary} (h : FedBy s p t) → refusal_of h.result ≡ part_refusal (book_of c) (mark c) p
  pub feed_refused : {p : Part} {t : BodeSummary} → FedBy s p t → (part_refusal (book_of c) (mark c) p ≡ 0 → ⊥) → t ≡ s

-- ---- the proof: whatever the calls leave is the summary of the book

pub summary_of_book : {c : Calls Part} {s : BodeSummary} → Reaches c s → s ≡ summary_of (book_of c) (mark c)
unfolding book_of part_refusal part_readings
summary_of_book r = whole kind (λ s h. h.learnt) (λ l m p t h. h.after ∙ h.call.learnt.1) (λ s t u h. h.learnt) r

pub demand_3 : (c : Calls Part) (s : BodeSummary) → Reaches c s → Claim c s
unfolding gain_answer phase_answer part_refusal part_readings
demand_3 c s h =
    record {
      gain_there = (s.gain, record { lifetimes = tt; exits = (s, tt); learnt = refl });
      phase_there = (s.phase, record { lifetimes = tt; exits = (s, tt); learnt = refl });
      gain = gain_is;
      phase = phase_is;
      no_gain = λ r g e. no_crossover_in Gain (book_of c) (sym (gain_is r g) ∙ e);
      gain_none = λ r g e. gain_is r g ∙ none_of_crossover Gain (book_of c) e;
      no_phase = λ r g e. no_crossover_in Phase (book_of c) (sym (phase_is r g) ∙ e);
      phase_none = λ r g e. phase_is r g ∙ none_of_crossover Phase (book_of c) e;
      feed_number = λ f. f.call.learnt.0;
      feed_refused = λ f n. left_stays _ (f.after ∙ f.call.learnt.1) n;
    }
  where
    gain_is : (r : Option Float) → GainOf s r → crossing_outcome r ≡ crossing_outcome (gain_crossover (book_of c))
    gain_is r g = rw (summary_of_book h, answer_is Gain) at g.learnt

    phase_is : (r : Option Float) → PhaseOf s r → crossing_outcome r ≡ crossing_outcome (phase_crossover (book_of c))
    phase_is r g = rw (summary_of_book h, answer_is Phase) at g.learnt

-- ---- the claim is of something: every list of calls leaves a summary

-- the summary that the definitions leave after the calls
pub run : Calls Part → BodeSummary
run = run_by kind

pub run_reached : (c : Calls Part) → Reaches c (run c)
unfolding run part_refusal part_readings
run_reached =
    ran_reached kind (record { lifetimes = tt; exits = tt; learnt = refl })
    (λ s p. checked_feed ([], ([], ([], tt))) _ (lists_checked p.omega p.db p.phase) (λ a r h. h))
    (λ s t. record { lifetimes = tt; exits = (s, (t, tt)); learnt = refl })

-- ---- two lists of calls with the same book answer the same, however the sweep was cut, fed and joined

pub same_gain : (c d : Calls Part) → book_of c ≡ book_of d → (s t : BodeSummary) → Reaches c s → Reaches d t → (r q : Option Float) → GainOf s r → GainOf t q → crossing_outcome r ≡ crossing_outcome q
same_gain c d e s t h k r q g f = cc ((demand_3 c s h).gain r g, (demand_3 d t k).gain q f)

pub same_phase : (c d : Calls Part) → book_of c ≡ book_of d → (s t : BodeSummary) → Reaches c s → Reaches d t → (r q : Option Float) → PhaseOf s r → PhaseOf t q → crossing_outcome r ≡ crossing_outcome q
same_phase c d e s t h k r q g f = cc ((demand_3 c s h).phase r g, (demand_3 d t k).phase q f)
