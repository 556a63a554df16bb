-- `manning::judge_lent` meets its contract: the task that the bytes stand for is judged, and goes on only where they are lent.
-- Assumes nothing.
use native.Mathlib.Omega.{arith}
use Rattle.drafts.proofs.Stops.{keeps_more}
use Rattle.drafts.proofs.LentBytes.{task-lent, task-unlent}
use Rattle.manning.proofs.judge_lent.Goals as goal

pub returns-then-tasks-i-lt3 : goal.returns-then-tasks-i-lt3
returns-then-tasks-i-lt3 c =
    let a = c.args in
    let e = c.judge_task.ensures in
    record { keeps = (keeps_more e.keeps (λ q k. absurd (omega (arith, k.1)))); by_index = rw (task-unlent a.tasks.now a.i (omega arith)) e.by_index }

pub returns : goal.returns
returns c =
    let a = c.args in
    let e = c.judge_task-2.ensures in
    record { keeps = (keeps_more e.keeps (λ q k. (k.0, omega arith))); by_index = rw (task-lent a.tasks.now a.i (omega arith)) e.by_index }
