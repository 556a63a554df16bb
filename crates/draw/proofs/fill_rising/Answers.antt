-- `draw::fill_rising` meets its contract: at each turn the rising list is one byte longer, and the later bytes are as they came.
-- Assumes nothing.
use mathlib.Core.Path.{◌≡◌, ap, ◌∙◌}
use mathlib.Core.List.{List, ◌++◌}
use Prim.Native.Nat.{ℕ, ◌+◌, ◌<◌}
use native.Mathlib.Numerals.{add-one}
use lib.ListN.{length, drop, get_or, set}
use lib.Seq.{drop-cons, set_at, append_snoc}
use Rattle.ranks.specs.Ranks.{rising}
use Rattle.ranks.proofs.Laws.{length-rising}
use Rattle.draw.proofs.fill_rising.Goals as goal

-- a turn's store
one_more : (l : List ℕ) (i : ℕ) → i < length l → set (rising i ++ drop i l) i i ≡ rising (i + 1) ++ drop (i + 1) l
one_more l i h =
    rw (add-one i, drop-cons l i 0 h, set_at (rising i) (get_or l i 0) _ i i (length-rising i), append_snoc)

pub loop-i-preserved : goal.loop-i-preserved
loop-i-preserved c =
    ap (λ (l : List ℕ). set l c.loop-i.i c.loop-i.i) c.loop-i.invariant ∙ one_more _ c.loop-i.i c.loop-i-test.true
