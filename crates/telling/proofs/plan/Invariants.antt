-- What holds at each turn of `telling::plan`.
-- Assumes nothing.
use mathlib.Core.Path.{◌≡◌}
use mathlib.Core.List.{◌++◌}
use Prim.Native.Nat.{◌+◌, ◌*◌, ◌≤◌}
use lib.ListN.{length, take}
use Rattle.tables.specs.Rows.{var_column, pre_column, post_column}
use Rattle.telling.specs.Text.{first_line, step_lines, shown_in}
use Rattle.telling.proofs.plan.Given as goal

abbrev pub invariant-loop-k : goal.invariant-loop-k
invariant-loop-k l =
    (l.at ≤ 9 + 20 * l.k)
    × ((length l.out ≡ length l.initial.out)
    × (take l.at l.out ≡ first_line (length l.list) ++ step_lines (shown_in (var_column l.acts) (pre_column l.acts) (post_column l.acts)) 0 (take l.k l.list)))
