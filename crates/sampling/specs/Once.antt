-- What stays true from seed to seed: what comes before what is known, or what is wanted is counted.
-- Assumes nothing.
use Rattle.std.specs.Prelude.{ℕ, ◌≡◌, List, length}
use Rattle.study.specs.Study.{Study}
use Rattle.tables.specs.Rows.{Row}
use Rattle.renaming.specs.Renaming.{ByAction}
use Rattle.stages.specs.Whole.{Orderly, WantsCountedIn}
use Rattle.keeping.specs.declared.Extent.{Extent}

-- few actions, once for all seeds: what comes directly before each is known by action
pub record OrderedOnce (e : Extent) (members : ℕ) (words : List ℕ) (t : Study) : Type 0 where
  pub actions : e.actions ≡ length t.actions
  pub orderly : Orderly e.total t
  pub by_action : ByAction t members words

-- many: the values that they want are counted
abbrev pub CountedOnce : List ℕ → Extent → List Row → List Row → List ℕ → List ℕ → Study → Type 0
CountedOnce file e acts vars steps wants t = WantsCountedIn file e.vars e.actions e.total acts vars steps wants t
