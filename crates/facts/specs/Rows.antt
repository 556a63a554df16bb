-- Facts in rows of numbers: the kind, and four numbers, of which the kind says how many count.
-- Assumes nothing.
use Rattle.std.specs.Prelude.{ℕ, ◌+◌, List, [], ◌∷◌}
use Rattle.facts.specs.declared.Fact.{Fact}
use Rattle.facts.specs.declared.Fact.TheVariants.{Goal, Set, Unset, Round, Wants, Start, Walk, Ring, After}
use Rattle.facts.specs.declared.Rule.{Rule}
use Rattle.facts.specs.declared.Rule.TheVariants.{Next, Sets, Leaves}

abbrev pub rule_in : Rule → ℕ
rule_in Next = 0
rule_in Sets = 1
rule_in Leaves = 2

abbrev pub bytes_in : Fact → List ℕ
bytes_in (Goal v q) = 0 ∷ v ∷ q ∷ 0 ∷ 0 ∷ []
bytes_in (Set v q i p) = 1 ∷ v ∷ q ∷ i ∷ p ∷ []
bytes_in (Unset v q) = 2 ∷ v ∷ q ∷ 0 ∷ 0 ∷ []
bytes_in (Round v q) = 3 ∷ v ∷ q ∷ 0 ∷ 0 ∷ []
bytes_in (Wants i v q) = 4 ∷ i ∷ v ∷ q ∷ 0 ∷ []
bytes_in (Start v q) = 5 ∷ v ∷ q ∷ 0 ∷ 0 ∷ []
bytes_in (Walk v i p q) = 6 ∷ v ∷ i ∷ p ∷ q ∷ []
bytes_in (Ring r i j v q) = (7 + rule_in r) ∷ i ∷ j ∷ v ∷ q ∷ []
bytes_in (After r k i v q) = (10 + rule_in r) ∷ k ∷ i ∷ v ∷ q ∷ []
