-- `cases::room` meets its contract: so many zeros are so many.
-- Assumes nothing.
use Prim.Native.Nat.{ℕ}
use lib.ListN.{length-replicate}
use Rattle.cases.proofs.room.Goals as goal

pub returns : goal.returns
returns c = length-replicate {A = ℕ} 524288 0
