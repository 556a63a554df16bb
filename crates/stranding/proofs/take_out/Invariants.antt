-- What holds at each turn of `stranding::take_out`.
-- Assumes nothing.
use Rattle.std.proofs.Common.{◌≡◌, length, take}
use Rattle.stranding.specs.Left.{Less}
use Rattle.stranding.proofs.take_out.Given as goal

abbrev pub invariant-loop-action : goal.invariant-loop-action
invariant-loop-action l = (length l.set ≡ 4) × Less (take l.action-index l.action-items) l.initial.set l.set
