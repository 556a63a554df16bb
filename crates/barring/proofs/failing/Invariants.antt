-- What holds at each turn of `barring::failing`.
-- Assumes nothing.
use mathlib.Core.Path.{◌≡◌}
use mathlib.Core.List.{List}
use lib.ListN.{drop}
use Rattle.study.specs.Study.{Condition}
use Rattle.tables.specs.Tables.{HoldsConditions}
use Rattle.replays.specs.Replay.{unmet}
use Rattle.barring.proofs.failing.Given as goal

abbrev pub invariant-loop-k : goal.invariant-loop-k
invariant-loop-k l =
    (cs : List Condition) → HoldsConditions l.file l.place l.many cs → unmet l.state (drop l.k cs) ≡ unmet l.state cs
