-- What holds at each turn of `cases::asking::records`.
-- Assumes nothing.
use Rattle.std.proofs.Common.{◌≡◌, ◌-◌, length}
use Rattle.records.specs.Records.{record_at_lem}
use Rattle.cases.proofs.asking.records.Given as goal

abbrev pub invariant-loop-there : goal.invariant-loop-there
invariant-loop-there l = l.there ≡ record_at_lem l.file l.at

abbrev pub decreases-loop-there : goal.decreases-loop-there
decreases-loop-there l = length l.file - l.at
