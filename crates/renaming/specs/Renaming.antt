-- The direct orders among the walk actions of a study, by action; and sets of actions, as bits of words, put under the ranks of a list.
-- Assumes nothing.
use Rattle.std.specs.Prelude.{ℕ, ◌<◌, ◌≡◌, true, List, get_or, Result, Ok, Err}
use Rattle.bits.specs.Bits.{bit}
use Rattle.study.specs.Study.{Study}
use Rattle.walks.specs.Walks.{OnAWalk, ComesBefore, Met}
use Rattle.planning.specs.Planning.{LowestOff}
use Rattle.wanting.specs.declared.Off.{Off}

-- bit i of the members is set for each walk action i, and bit i of word j where i comes directly before j
pub record ByAction (t : Study) (members : ℕ) (words : List ℕ) : Type 0 where
  pub member : (i : ℕ) → OnAWalk t i → bit members i ≡ true
  pub only_members : (i : ℕ) → bit members i ≡ true → OnAWalk t i
  pub complete : (i j : ℕ) → OnAWalk t i → OnAWalk t j → ComesBefore t i j → bit (get_or words j 0) i ≡ true
  pub sound : (i j : ℕ) → OnAWalk t i → OnAWalk t j → bit (get_or words j 0) i ≡ true → ComesBefore t i j

abbrev pub OrdersByAction : Study → List ℕ → Result ℕ Off → Type 0
OrdersByAction t words (Ok m) = Met t × ByAction t m words
OrdersByAction t words (Err o) = LowestOff t o.action o.var

-- the word has numbers below n alone
abbrev pub Below : ℕ → ℕ → Type 0
Below n word = (i : ℕ) → bit word i ≡ true → i < n

-- the other word has the ranks of the numbers that the word has
pub record Renamed (ranks : List ℕ) (word other : ℕ) : Type 0 where
  pub has : (i : ℕ) → bit word i ≡ true → bit other (get_or ranks i 0) ≡ true
  pub only : (r : ℕ) → bit other r ≡ true → (i : ℕ) × ((bit word i ≡ true) × (get_or ranks i 0 ≡ r))

-- r and s are the ranks of two members, of which that of rank s is in the other's word
pub record Standing (members : ℕ) (words ranks : List ℕ) (r s : ℕ) : Type 0 where
  pub one : ℕ
  pub other : ℕ
  pub one_member : bit members one ≡ true
  pub other_member : bit members other ≡ true
  pub one_rank : get_or ranks one 0 ≡ s
  pub other_rank : get_or ranks other 0 ≡ r
  pub before : bit (get_or words other 0) one ≡ true

-- the members' words, by rank
pub record Reworded (members : ℕ) (words ranks by_rank : List ℕ) : Type 0 where
  pub has :
      (i j : ℕ) → bit members i ≡ true → bit members j ≡ true → bit (get_or words j 0) i ≡ true
      → bit (get_or by_rank (get_or ranks j 0) 0) (get_or ranks i 0) ≡ true
  pub only : (r s : ℕ) → bit (get_or by_rank r 0) s ≡ true → Standing members words ranks r s
