-- `draw::draw` meets its contract: where no refusal is due, the list is filled in front and shuffled there.
-- Assumes nothing.
use mathlib.Core.Path.{ap, ◌∙◌}
use Prim.Native.Nat.{◌-◌}
use native.Mathlib.Omega.{arith}
use lib.ListN.{length, drop}
use Rattle.draw.specs.Draw.{shuffled}
use Rattle.draw.proofs.Drawn.{drawn_in_front, not_refused}
use Rattle.draw.proofs.draw.Goals as goal

pub returns : goal.returns
returns c =
    let a = c.args in
    let l = a.ranks.now in
    rw (not_refused a.seed a.count (length l) (omega arith) (omega arith) (omega arith) (omega arith)) (
      cc,
      c.shuffle-last.ensures.1
          ∙ ap (shuffled (a.count - 1) a.seed) c.fill_rising.ensures
          ∙ drawn_in_front a.seed a.count (drop a.count l),
    )
