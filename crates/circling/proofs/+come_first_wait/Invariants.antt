-- The cycle of calls {come_first, wait} ends: each call of one by the other and back puts one action more on the path, which has at most 256.
-- Assumes nothing.
use Prim.Native.Nat.{◌+◌, ◌-◌, ◌*◌}
use Rattle.circling.proofs.+come_first_wait.Given as goal

abbrev pub decreases-come_first : goal.decreases-come_first
decreases-come_first l = 2 * (256 - l.spot.entry) + 1

abbrev pub decreases-wait : goal.decreases-wait
decreases-wait l = 2 * (256 - l.spot.entry)
