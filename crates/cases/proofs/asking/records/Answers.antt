-- `cases::asking::records` is safe and ends: what was found is the record at the place, and each record lies behind the one before it.
-- Assumes nothing.
use Rattle.std.proofs.Common.{sym, ap, ◌∙◌, arith}
use Rattle.records.proofs.Laws.{there_lies}
use Rattle.reader.specs.Reading.{behind}
use Rattle.cases.proofs.asking.records.Goals as goal

pub loop-there-smaller : goal.loop-there-smaller
loop-there-smaller c =
    let l = there_lies _ _ (sym c.loop-there.invariant ∙ c.in-There.is) in
    omega arith

pub loop-there-preserved : goal.loop-there-preserved
loop-there-preserved c =
    c.record_after-there.ensures ∙ ap (behind _) (sym c.loop-there.invariant ∙ c.in-There.is)
