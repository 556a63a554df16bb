-- What the tests of a record's numbers tell.
-- Assumes nothing.
use mathlib.Core.Path.{◌≡◌, sym, ◌∙◌}
use mathlib.Core.Bool.{Bool, true, false, not, and-eq-true_iff}
use mathlib.Core.List.{List}
use Prim.Native.Nat.{ℕ, ◌<◌}
use lib.Dec.{ltb}
use lib.ListN.{get_or}
use borrow.Author.Tests.{ltb-true, not-true, not-false}
use Rattle.judging.specs.Faults.{in_table}

-- `if !f(..)`, where `f` ensures that its result is the test b
module _ {r b : Bool} (e : r ≡ b) where
  pub not_taken : not r ≡ true → b ≡ false
  not_taken h = sym e ∙ not-true r h

  pub not_left : not r ≡ false → b ≡ true
  not_left h = sym e ∙ not-false r h

-- a value that is in the table is one of a variable that is there
pub in_table_lem : (counts : List ℕ) (vars v q : ℕ) → in_table counts vars v q ≡ true → (v < vars) × (q < get_or counts v 0)
unfolding in_table
in_table_lem counts vars v q e =
    let b = (and-eq-true_iff (ltb v vars) (ltb q (get_or counts v 0))).0 e in
    (ltb-true v vars b.0, ltb-true q (get_or counts v 0) b.1)
