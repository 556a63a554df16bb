-- `keeping::keep` meets its contract: what was taken stands in the room from 256 on.
-- Assumes nothing.
use Prim.Native.Nat.{◌-◌}
use native.Mathlib.Omega.{arith}
use lib.ListN.{length, drop}
use lib.Seq.{take-take}
use Rattle.keeping.proofs.keep.Goals as goal

pub returns : goal.returns
returns c =
    let room = c.args.room.now in record { region_unchanged = c.keep.ensures.region_unchanged; by_index = λ plans is-k kept. rw (take-take c.args.len (length room - 256) (drop 256 room) (omega (arith, c.requires.0, c.requires.1))) at (c.keep.ensures.by_index plans is-k kept) }
