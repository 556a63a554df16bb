-- What holds at each turn of `circling::lowest_setter`.
-- Assumes nothing.
use Prim.Native.Nat.{◌+◌, ◌*◌}
use Rattle.std.specs.Prelude.{unwrap_or}
use Rattle.tables.specs.Rows.{start_column}
use Rattle.circling.proofs.LowestSetter.{Seeking}
use Rattle.circling.proofs.lowest_setter.Given as goal

abbrev pub invariant-loop-k : goal.invariant-loop-k
invariant-loop-k l =
    Seeking l.file (start_column l.vars) l.setters l.left l.act.place l.act.many (unwrap_or l.fn.from 256) (unwrap_or l.low 256) (l.act.place + 3 * l.k) l.k
