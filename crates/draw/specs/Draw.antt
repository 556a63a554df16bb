-- Document 01's seeded draw: the generator, the list that it shuffles, and what a call of the draw answers and leaves in the lent bytes.
-- Assumes nothing.
use Rattle.std.specs.Prelude.{Bool, cond, not, ◌&&◌, List, ◌++◌, ℕ, zero, suc, ◌+◌, ◌-◌, ◌*◌, ◌%◌, leb, ltb, length, drop}
use Rattle.std.proofs.Math.Option.{Option, none, some}
use Rattle.answer.specs.declared.Answer.{Answer}
use Rattle.answer.specs.Answers.{done, refusal}
use Rattle.answer.specs.Allowing.{Allowing, Exactly}
use Rattle.ranks.specs.Ranks.{rising, exchanged}

-- the next number is 16807 times the last, modulo 2,147,483,647
abbrev pub next : ℕ → ℕ
next last = 16807 * last % 2147483647

-- the last number after n steps
abbrev pub number_after : ℕ → ℕ → ℕ
number_after zero last = last
number_after (suc n) last = number_after n (next last)

-- for i from the first argument down to 1: take the next number, let j be it modulo i + 1, exchange entries i and j
abbrev pub shuffled : ℕ → ℕ → List ℕ → List ℕ
shuffled zero last l = l
shuffled (suc k) last l = shuffled k (next last) (exchanged l (suc k) (next last % (suc k + 1)))

-- the list, and the generator's last number, that a seed gives for a count
abbrev pub drawn : ℕ → ℕ → List ℕ
drawn seed count = shuffled (count - 1) seed (rising count)

abbrev pub drawn_last : ℕ → ℕ → ℕ
drawn_last seed count = number_after (count - 1) seed

abbrev pub seed_in_range : ℕ → Bool
seed_in_range seed = leb 1 seed && leb seed 2147483646

-- the refusal, if any, of a seed, a count and the length of the lent buffer
abbrev pub refused : ℕ → ℕ → ℕ → Option Answer
refused seed count room =
    cond (not (seed_in_range seed)) (some (refusal 18 seed))
    (cond (ltb 256 count) (some (refusal 19 count)) (cond (ltb room count) (some (refusal 13 count)) none))

abbrev pub answer_by : Option Answer → Answer → Answer
answer_by none a = a
answer_by (some r) a = r

abbrev pub bytes_by : Option Answer → List ℕ → List ℕ → List ℕ
bytes_by none after before = after
bytes_by (some r) after before = before

abbrev pub draw_answer : ℕ → ℕ → ℕ → Answer
draw_answer seed count room = answer_by (refused seed count room) (done (drawn_last seed count) 0)

-- the list fills the first bytes and later bytes stay; a refusal alters none
abbrev pub draw_leaves : ℕ → ℕ → List ℕ → List ℕ
draw_leaves seed count before =
    bytes_by (refused seed count (length before)) (drawn seed count ++ drop count before) before

-- what a draw may answer, and the lent bytes afterwards
abbrev pub DrawAllows : ℕ → ℕ → List ℕ → Allowing
DrawAllows seed count before = Exactly (draw_answer seed count (length before)) (draw_leaves seed count before)
