-- Counts of the answers that the replay programs compare. Definitions only.
use Rattle.std.specs.Prelude.{◌≡◌, ℕ, ◌+◌, ◌-◌, ◌%◌, ◌^◌, Bool, false, cond, List, replicate, nat_le, nat_lt, slice_index_or, slice_set}
use Rattle.vectors.specs.declared.Count.{Count}
use Rattle.vectors.specs.declared.Tally.{Tally}

-- whether the first word of a case says that its answers are wrong on purpose: it is 128 more then
unfoldable pub marked_at : ℕ → Bool
marked_at head = nat_le 128 head

-- the first word without that mark
unfoldable pub unmarked_of : ℕ → ℕ
unmarked_of head = cond (marked_at head) (head - 128) head

-- a question from 16 on counts as question 0
unfoldable pub known_of : ℕ → ℕ
known_of question = cond (nat_lt question 16) question 0

-- no answer
abbrev pub none : Count
none = record { asked = 0; differ = 0 }

-- one answer more: where it is not right, one more differs. Counted around at 2^64
unfoldable pub one_more : Count → Bool → Count
one_more c right = record { asked = (c.asked + 1) % 2 ^ 64; differ = cond right c.differ ((c.differ + 1) % 2 ^ 64) }

-- one answer more to this question
unfoldable pub one_more_at : ℕ → Bool → List Count → List Count
one_more_at question right l = slice_set l (known_of question) (one_more (slice_index_or l (known_of question) none) right)

-- nothing asked
unfoldable pub none_asked : Tally
none_asked = record { right = replicate 16 none; wrong = replicate 16 none; is_wrong = false }

-- a case begins with this word
unfoldable pub begun_with : Tally → ℕ → Tally
begun_with t head = record { right = t.right; wrong = t.wrong; is_wrong = marked_at head }

-- one answer more, to this question, apart where the case is wrong on purpose
unfoldable pub counted_in : Tally → ℕ → Bool → Tally
counted_in t question right =
    record {
      right = cond t.is_wrong t.right (one_more_at question right t.right);
      wrong = cond t.is_wrong (one_more_at question right t.wrong) t.wrong;
      is_wrong = t.is_wrong;
    }

-- one answer more to this question, right or not
abbrev pub Counted : Tally → ℕ → Tally → Type 0
Counted before question after = (right : Bool) × (after ≡ counted_in before question right)
