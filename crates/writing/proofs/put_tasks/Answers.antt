-- `writing::put_tasks` meets its contract: at each turn the bytes of one task are put.
-- Assumes nothing.
use Prim.Native.Nat.{◌*◌}
use native.Mathlib.Omega.{arith}
use Rattle.spelling.specs.Spelling.{spelled}
use Rattle.spelling.specs.Lent.{errands_in}
use Rattle.spelling.proofs.Chunks.{chunk_at}
use Rattle.putting.proofs.Putting.{first_fits, first_put, none_left}
use Rattle.putting.proofs.Entries.{nothing_left, task_first}
use Rattle.writing.proofs.put_tasks.Goals as goal

pub put-at-requires : goal.put-at-requires
put-at-requires c =
    let entries = c.as_chunks.ensures in
    (omega arith, first_fits c.loop-var.invariant (task_first (chunk_at 3 _ entries.front entries.front_len _ c.loop-var-test.true)) c.requires.1)

pub loop-var-preserved : goal.loop-var-preserved
loop-var-preserved c =
    let entries = c.as_chunks.ensures in
    first_put c.loop-var.invariant (task_first (chunk_at 3 _ entries.front entries.front_len _ c.loop-var-test.true)) c.put-at.ensures

pub returns : goal.returns
unfolding spelled errands_in
returns c =
    none_left (rw (nothing_left c.args.tasks.now (3 * c.loop-var.var-index) (omega arith)) at c.loop-var.invariant)
