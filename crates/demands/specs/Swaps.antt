-- What the theorem on small swaps speaks of: a chain of straight plans, each one exchange of two neighbouring steps from the one before.
-- Assumes nothing.
use Rattle.std.specs.Prelude.{◌≡◌, List, [], ◌∷◌, ℕ, ◌+◌, ◌*◌, ◌≤◌, length}
use Rattle.study.specs.Study.{Study}
use Rattle.plans.specs.Plans.{StraightPlan}
use Rattle.swaps.specs.Swaps.{Exchanged, differing}

-- each list is a straight plan
abbrev pub AllStraight : Study → List (List ℕ) → Type 0
AllStraight t [] = Unit {0}
AllStraight t (list ∷ rest) = StraightPlan t list × AllStraight t rest

-- the lists lead from one plan to the other by exchanges, as few as can be: one for each pair of steps that the two have differently, L (L - 1) / 2 at most
pub record JoinedBy (t : Study) (one other : List ℕ) (lists : List (List ℕ)) : Type 0 where
  pub exchanged : Exchanged one lists other
  pub straight : AllStraight t lists
  pub many : length lists ≡ differing one other
  pub most : 2 * length lists + length one ≤ length one * length one
  pub fewest : (others : List (List ℕ)) → Exchanged one others other → length lists ≤ length others
