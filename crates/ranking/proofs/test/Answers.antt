-- `ranking::test` meets its contract: each turn tests one entry against the set of the earlier ones.
-- Assumes nothing.
use mathlib.Core.Path.{◌≡◌, sym, ◌∙◌}
use mathlib.Core.List.{List, []}
use Prim.Native.Nat.{ℕ}
use native.Mathlib.Omega.{arith}
use lib.ListN.{length}
use borrow.Author.Tests.{eq-eqb, ne_eqb}
use Rattle.ranking.specs.Ranking.{Tested, tested_from, tested}
use Rattle.ranking.proofs.Marks.{none_marked, too_large, repeated, one_more, all_tested}
use Rattle.ranking.proofs.test.Goals as goal

-- a list of the right length is tested entry by entry
from_entries : (ranks : List ℕ) (actions : ℕ) → length ranks ≡ actions → {r : Tested} → tested_from actions [] 0 ranks ≡ r → r ≡ tested ranks actions
unfolding tested
from_entries ranks actions e h = rw (eq-eqb (length ranks) actions e) (sym h)

pub returns-then-ranks-actions : goal.returns-then-ranks-actions
unfolding tested
returns-then-ranks-actions c = rw (ne_eqb _ _ c.if-ranks-actions.true)

pub loop-k-init : goal.loop-k-init
loop-k-init c = none_marked _ _

pub returns-then-actions-from : goal.returns-then-actions-from
returns-then-actions-from c =
    from_entries _ _ c.if-ranks-actions.false (too_large c.loop-k.invariant c.loop-k-test.true (omega arith))

pub returns-then-repeats : goal.returns-then-repeats
returns-then-repeats c =
    from_entries _ _ c.if-ranks-actions.false
    (repeated c.loop-k.invariant c.loop-k-test.true (omega arith) (sym c.contains-repeats.ensures ∙ c.if-repeats.true))

pub loop-k-preserved : goal.loop-k-preserved
loop-k-preserved c =
    one_more c.loop-k.invariant c.loop-k-test.true (omega arith) (sym c.contains-repeats.ensures ∙ c.if-repeats.false) c.add.ensures

pub returns : goal.returns
returns c = from_entries _ _ c.if-ranks-actions.false (all_tested c.loop-k.invariant (omega arith))
