-- What is found in a chart's list and pairs: the first entry that may not be used, the lowest action amiss, the first pair astray; sets and rows of bits.
-- Assumes nothing.
use Rattle.std.specs.Prelude.{ℕ, ◌≤◌, ◌<◌, ◌≡◌, ◌↔◌, Bool, true, false, not, ◌&&◌, ◌||◌, List, [], length, get_or}
use Rattle.bits.specs.Bits.{within}
use Rattle.orders.specs.Orders.{In}
use Rattle.linking.specs.Linking.{Rows, Linked}
use Rattle.study.specs.Study.{Study}
use Rattle.walks.specs.Walks.{OnAWalk}
use Rattle.charts.specs.Charts.{Pair, Paired}
use Rattle.charts.specs.Faults.{AllUsable, FirstUnusable, NoneAmiss, LowestAmiss, Astray, NoneAstray, FirstAstray}

-- ---- the list

-- 14: the first entry that is not there or out of force, or the list's length
pub record FindsUnusable (t : Study) (list : List ℕ) (r : ℕ) : Type 0 where
  pub all : r ≡ length list → AllUsable t list
  pub first : r < length list → FirstUnusable t list r

-- a set with no member
abbrev pub Empty : List ℕ → Type 0
Empty set = (i : ℕ) → within set i ≡ false

-- a test tells just the numbers that the list has
abbrev pub HasJust : List ℕ → (ℕ → Bool) → Type 0
HasJust list has = (i : ℕ) → (has i ≡ true) ↔ In i list

-- the set has just those
abbrev pub SetOf : List ℕ → List ℕ → Type 0
SetOf list set = HasJust list (within set)

-- .. just the walk actions
abbrev pub SetOfWalks : Study → List ℕ → Type 0
SetOfWalks t set = (i : ℕ) → (within set i ≡ true) ↔ OnAWalk t i

-- just one of two tests holds
abbrev pub unlike : Bool → Bool → Bool
unlike a b = (not a && b) || (not b && a)

-- a test tells what just one of two tests tells, besides what it told
abbrev pub DifferingBy : (one other before after : ℕ → Bool) → Type 0
DifferingBy one other before after = (i : ℕ) → i < 256 → after i ≡ (unlike (one i) (other i) || before i)

-- the set has what is in just one of two sets, besides what it had
abbrev pub Differing : (one other before after : List ℕ) → Type 0
Differing one other before after = DifferingBy (within one) (within other) (within before) (within after)

-- r is the least number that a test tells, or 256
pub record Least (told : ℕ → Bool) (r : ℕ) : Type 0 where
  pub most : r ≤ 256
  pub there : r < 256 → told r ≡ true
  pub none_below : (i : ℕ) → i < r → told i ≡ false

-- 25: the lowest action that is amiss, or 256
pub record FindsAmiss (t : Study) (list : List ℕ) (r : ℕ) : Type 0 where
  pub most : r ≤ 256
  pub lowest : r < 256 → LowestAmiss t list r
  pub none : r ≡ 256 → NoneAmiss t list

-- ---- the pairs

-- no row has a member
abbrev pub AllEmpty : Rows → Type 0
AllEmpty rows = (x y : ℕ) → within (get_or rows x []) y ≡ false

-- just those are linked of which 'x before y' is among the pairs
abbrev pub LinkedBy : List Pair → (ℕ → ℕ → Type 0) → Type 0
LinkedBy pairs linked = (x y : ℕ) → linked x y ↔ Paired pairs x y

-- a test tells whether a pair is astray
pub record TellsStray (list : List ℕ) (p : Pair) (r : Bool) : Type 0 where
  pub astray : r ≡ true → Astray list p
  pub fine : r ≡ false → Astray list p → ⊥

-- 26: the first pair that is astray; or how many pairs there are, and just they are linked
pub record LinksTo (list : List ℕ) (pairs : List Pair) (linked : ℕ → ℕ → Type 0) (r : ℕ) : Type 0 where
  pub most : r ≤ length pairs
  pub first : r < length pairs → FirstAstray list pairs r
  pub none : r ≡ length pairs → NoneAstray list pairs
  pub by_pairs : r ≡ length pairs → LinkedBy pairs linked

-- .. where rows have the links
abbrev pub Links : List ℕ → List Pair → Rows → ℕ → Type 0
Links list pairs rows = LinksTo list pairs (Linked rows)
