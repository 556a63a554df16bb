-- The numbers of documents 01 and 02 for each refusal of planning.
-- Assumes nothing.
use Rattle.std.specs.Prelude.{ℕ, ◌≤◌, Ok, Err}
use Rattle.answer.specs.Answers.{three, done, refusal}
use Rattle.answer.specs.declared.Answer.{Answer}
use Rattle.ranking.specs.Ranking.{Tested}
use Rattle.ranking.specs.declared.Unranked.TheVariants.{Length, Entry}

-- 9: what is no rank list, by its length and the case of its test
abbrev pub not_ranked : ℕ → Tested → Answer
not_ranked len (Ok tt) = done 0 0
not_ranked len (Err Length) = three 9 len 1
not_ranked len (Err (Entry k)) = refusal 9 k

-- 10: a variable has no walk, and where its trace breaks off
abbrev pub without_walk : ℕ → ℕ → Answer
without_walk v b = three 10 v b

-- 11: an action on a walk has a condition off its variable's walk
abbrev pub off_walk : ℕ → ℕ → Answer
off_walk i u = three 11 i u

-- 12: the walk actions have a ring, and so many are free of rings
abbrev pub with_ring : ℕ → Answer
with_ring n = refusal 12 n

-- there is no straight plan, and neither file nor ranks are at fault: 10, 11 or 12
abbrev pub NoPlanCanBe : Answer → Type 0
NoPlanCanBe r = (10 ≤ r.number) × (r.number ≤ 12)

-- 13: the buffer is too short for a plan so long
abbrev pub short_buffer : ℕ → Answer
short_buffer n = refusal 13 n
