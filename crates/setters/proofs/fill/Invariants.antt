-- What holds at each turn of `setters::fill`: the actions so far are named, so none of them repeats.
-- Assumes nothing.
use mathlib.Core.Path.{◌≡◌}
use mathlib.Core.List.{List}
use Prim.Native.Nat.{ℕ}
use lib.ListN.{length}
use Rattle.study.specs.Study.{Action}
use Rattle.tables.specs.Tables.{HoldsActions}
use Rattle.tables.specs.Rows.{seen}
use Rattle.setters.specs.Filling.{Kept}
use Rattle.setters.proofs.fill.Given as goal

abbrev pub invariant-loop-i : goal.invariant-loop-i
invariant-loop-i l =
    (file : List ℕ) (situation : ℕ) (actions : List Action)
    → HoldsActions file situation l.n (seen l.initial.setters l.acts) actions
    → length l.initial.setters ≡ 512
    → (length l.setters ≡ 512) × Kept situation l.i l.setters l.marks actions
