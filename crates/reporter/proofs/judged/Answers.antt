-- `reporter::judged` meets its contract: each test is one of the seeds' judgement.
-- Assumes nothing.
use mathlib.Core.Path.{◌≡◌, sym, ◌∙◌}
use mathlib.Core.Logic.{◌≢◌}
use Prim.Native.Nat.{ℕ, ◌<◌}
use native.Mathlib.Omega.{arith}
use Rattle.answer.specs.Answers.{refusal}
use Rattle.answer.specs.declared.Answer.{Answer}
use Rattle.reporter.proofs.Judging.{too_few, too_many, below_the_first, past_the_last, runs_past, all_in_range}
use Rattle.reporter.proofs.judged.Goals as goal

-- the refusal is the answer, and is not 0
told : {r s : Answer} {number place : ℕ} → 0 < number → r ≡ refusal number place → s ≡ refusal number place → (r ≡ s) × (r.number ≢ 0)
told h e f = (e ∙ sym f, λ z. omega (arith, h, rw e at z))

pub returns-then-n-lt1 : goal.returns-then-n-lt1
returns-then-n-lt1 c = told (omega arith) c.refusal.ensures (too_few _ _ c.if-n-lt1.true)

pub returns-then-n-gt-MOST_SEEDS : goal.returns-then-n-gt-MOST_SEEDS
returns-then-n-gt-MOST_SEEDS c = told (omega arith) c.refusal-then-n-gt-MOST_SEEDS.ensures (too_many _ _ c.if-n-gt-MOST_SEEDS.true)

pub returns-then-first-lt1 : goal.returns-then-first-lt1
returns-then-first-lt1 c = told (omega arith) c.refusal-then-first-lt1.ensures (below_the_first _ _ (omega arith) (omega arith) c.if-first-lt1.true)

pub returns-then-first-gt-LARGEST_SEED : goal.returns-then-first-gt-LARGEST_SEED
returns-then-first-gt-LARGEST_SEED c = told (omega arith) c.refusal-then-first-gt-LARGEST_SEED.ensures (past_the_last _ _ (omega arith) (omega arith) c.if-first-gt-LARGEST_SEED.true)

pub returns-then-first-n : goal.returns-then-first-n
returns-then-first-n c = told (omega arith) c.refusal-then-first-n.ensures (runs_past _ _ (omega arith) (omega arith) (omega arith) (omega arith) c.if-first-n.true)

pub returns : goal.returns
returns c = sym (all_in_range _ _ (omega arith) (omega arith) (omega arith) (omega arith) (omega arith))
