-- `tying::number_all` meets its contract: each turn puts one number in its place.
-- Assumes nothing.
use mathlib.Core.Path.{◌≡◌, ◌∙◌}
use native.Mathlib.Omega.{arith}
use lib.ListN.{length, drop, get_or-append, length-append, length-drop, length-take}
use Rattle.tying.proofs.number_all.Goals as goal

pub returns : goal.returns
returns c =
    let room = c.args.room.now in
    let placed = c.loop-i.place-items in
    let long : length placed ≡ 64 = omega (arith, length-take 64 room) in (
      length-append placed (drop 64 room) ∙ omega (arith, length-drop 64 room),
      λ i h. get_or-append placed (drop 64 room) 0 i (omega arith) ∙ c.loop-i.invariant i (omega arith),
    )
