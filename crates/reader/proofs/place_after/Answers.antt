-- `reader::place_after` meets its contract: each arm knows which case was found.
-- Assumes nothing.
use mathlib.Core.Path.{sym, ap}
use Rattle.records.specs.Records.{next_of}
use Rattle.reader.proofs.place_after.Goals as goal

pub returns-in-There : goal.returns-in-There
returns-in-There c = ap next_of (sym c.in-There.is)

pub returns-in-Unknown : goal.returns-in-Unknown
returns-in-Unknown c = ap next_of (sym c.in-Unknown.is)

pub returns-in-Cut : goal.returns-in-Cut
returns-in-Cut c = ap next_of (sym c.in-Cut.is)

pub returns-in-Ended : goal.returns-in-Ended
returns-in-Ended c = ap next_of (sym c.in-Ended.is)
