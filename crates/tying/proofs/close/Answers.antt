-- `tying::close` meets its contract: fewer than all are taken, and there is a circle; or all are sorted, and gather one after another.
-- Assumes nothing.
use mathlib.Core.Path.{◌∙◌}
use mathlib.Core.List.{List}
use Prim.Native.Nat.{ℕ, ◌≤◌}
use native.Mathlib.Omega.{arith}
use Rattle.linking.specs.Linking.{chains, circle}
use Rattle.tying.specs.Tying.{Sorts}
use Rattle.tying.proofs.Sorting.{fewer_is_circle, none_circled, all_sorted}
use Rattle.tying.proofs.close.Goals as goal
use Rattle.tying.proofs.close.Goals.{After-take_looking-taken}

pub number_all-requires : goal.number_all-requires
number_all-requires c = omega (arith, c.requires.5)

pub take_looking-taken-requires : goal.take_looking-taken-requires
take_looking-taken-requires c =
    (c.requires.0, c.number_all.ensures.0 ∙ c.requires.5, c.requires.2)

-- what is known once members are taken
module _ (k : After-take_looking-taken) where
  abbrev words_of : List ℕ
  words_of = k.args.words.now

  few : k.take_looking-taken.result ≤ 256
  few = omega (arith, k.take_looking-taken.ensures.upper_bound.0, k.requires.0)

  sorted : k.args.total ≤ k.take_looking-taken.result → Sorts k.take_looking-taken.new.room k.args.total words_of
  sorted h =
      all_sorted k.args.members words_of k.requires.2 few k.take_looking-taken.ensures.upper_bound.1 k.take_looking-taken.ensures.taken_by_name h k.requires.3
      k.take_looking-taken.ensures.upper_bound.0 k.number_all.ensures.1 k.requires.4

pub returns-then-taken-total : goal.returns-then-taken-total
returns-then-taken-total c =
    circle (fewer_is_circle c.args.members (words_of (goal.at.returns-then-taken-total c).After-take_looking-taken) c.requires.2 (few (goal.at.returns-then-taken-total c).After-take_looking-taken) c.take_looking-taken.ensures.upper_bound.1 c.take_looking-taken.ensures.taken_by_name c.requires.1 (omega arith)).1

pub gather_all-requires : goal.gather_all-requires
gather_all-requires c =
    (c.requires.0, c.take_looking-taken.ensures.upper_bound.1, c.requires.1, sorted (goal.at.gather_all-requires c).After-take_looking-taken (omega arith))

pub returns : goal.returns
returns c =
    chains
    (none_circled c.args.members (words_of (goal.at.returns c).After-take_looking-taken) c.requires.2 (few (goal.at.returns c).After-take_looking-taken) c.take_looking-taken.ensures.upper_bound.1 c.take_looking-taken.ensures.taken_by_name (omega arith) c.requires.3)
    c.gather_all.ensures
