-- What holds at each turn of `wording::tell`.
-- Assumes nothing.
use Rattle.std.proofs.Common.{◌≡◌, ◌++◌, ◌+◌, ◌*◌, ◌≤◌, length, take}
use Rattle.telling.specs.Text.{Appends}
use Rattle.explained.specs.Facts.{all_spaced}
use Rattle.wording.proofs.tell.Given as goal

abbrev pub invariant-loop-number : goal.invariant-loop-number
invariant-loop-number l =
    (l.next ≤ l.at + length l.words + 4 * l.number-index) × (length l.out ≡ length l.fn.out)
    × Appends l.fn.out l.at (l.words ++ all_spaced (take l.number-index l.numbers)) l.out l.next
