-- What holds at each turn of `wording::lines`.
-- Assumes nothing.
use Rattle.std.proofs.Common.{◌≡◌, List, ◌+◌, ◌*◌, ◌≤◌, length, take, map}
use Rattle.telling.specs.Text.{Appends}
use Rattle.explained.specs.Facts.{Fact, byte_rows, fact_lines}
use Rattle.wording.proofs.lines.Given as goal

abbrev pub invariant-loop-fact : goal.invariant-loop-fact
invariant-loop-fact g l =
    (l.at ≤ l.begin + 29 * l.fact-index) × (length l.out ≡ length l.initial.out)
    × ((list : List Fact) → take l.fact-index (map g.F.Row.bytes l.facts) ≡ byte_rows list → Appends l.initial.out l.begin (fact_lines list) l.out l.at)
