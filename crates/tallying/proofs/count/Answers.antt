-- `tallying::count` meets its contract: each turn counts one entry more.
-- Assumes nothing.
use mathlib.Core.Path.{sym, ◌∙◌}
use native.Mathlib.Omega.{arith}
use lib.ListN.{length, take}
use lib.Seq.{length-take-le}
use Rattle.tallying.proofs.Counting.{none_tallied, tallied_at_most, one-tallied}
use Rattle.tallying.proofs.count.Goals as goal

pub loop-entry-init : goal.loop-entry-init
loop-entry-init c = c.requires.2 ∙ sym (none_tallied _)

pub overflow_add-row : goal.overflow_add-row
overflow_add-row c =
    let passed = take c.loop-entry.entry-index c.args.entries.now in
    let low = c.requires.1 c.loop-entry.entry-index (omega arith) in
    let most = tallied_at_most passed (length c.args.row.now) c.wide.result (omega (arith, low)) in
    omega (arith, rw (← c.loop-entry.invariant) at most, length-take-le c.loop-entry.entry-index c.args.entries.now (omega arith))

pub loop-entry-preserved : goal.loop-entry-preserved
loop-entry-preserved c =
    let low = c.requires.1 c.loop-entry.entry-index (omega arith) in
    rw c.loop-entry.invariant
    (one-tallied c.args.entries.now (length c.args.row.now) c.loop-entry.entry-index c.wide.result (omega arith) c.wide.ensures.0 (omega (arith, low)))
