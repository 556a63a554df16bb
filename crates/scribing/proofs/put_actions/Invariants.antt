-- What holds at each turn of `scribing::put_actions`: the bytes from the next action on are left to put, with the conditions that none has taken yet.
-- Assumes nothing.
use mathlib.Core.Path.{◌≡◌}
use Prim.Native.Nat.{◌+◌, ◌*◌}
use lib.ListN.{length, drop}
use Rattle.spelling.specs.Lent.{announced}
use Rattle.putting.proofs.Putting.{Left}
use Rattle.putting.proofs.Entries.{actions_from}
use Rattle.scribing.proofs.put_actions.Given as goal

abbrev pub invariant-loop-var : goal.invariant-loop-var
invariant-loop-var l = record {
  taken : l.used + 2 * announced (drop (5 * l.var-index) l.actions) ≡ length l.conditions;
  left : Left (actions_from l.actions l.conditions 0 0) l.begin l.initial.file (actions_from l.actions l.conditions (5 * l.var-index) l.used) l.at l.file;
}
