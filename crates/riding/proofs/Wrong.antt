-- What is wrong with a ride, rule by rule.
-- Assumes nothing.
use mathlib.Core.Path.{◌≡◌}
use mathlib.Core.Logic.{◌≢◌}
use mathlib.Core.Bool.{Bool, true, false}
use Prim.Native.Nat.{ℕ, ◌≤◌, ◌<◌}
use borrow.Author.Tests.{le-leb, lt-leb, eq-eqb, ne_eqb}
use Rattle.rides.specs.Rides.{ride, highest, wrong_with_lem}

module _ (actions : ℕ) (again : Bool) (action from to : ℕ) where
  pub absent : actions ≤ action → 14 ≡ wrong_with_lem actions again (ride action from to)
  unfolding wrong_with_lem
  absent h = rw (le-leb actions action h)

  module _ (there : action < actions) where
    pub from_high : highest < from → 5 ≡ wrong_with_lem actions again (ride action from to)
    unfolding wrong_with_lem
    from_high h = rw (lt-leb actions action there, lt-leb from highest h)

    module _ (from_low : from ≤ highest) where
      pub to_high : highest < to → 5 ≡ wrong_with_lem actions again (ride action from to)
      unfolding wrong_with_lem
      to_high h = rw (lt-leb actions action there, le-leb from highest from_low, lt-leb to highest h)

      module _ (to_low : to ≤ highest) where
        pub stays : from ≡ to → 6 ≡ wrong_with_lem actions again (ride action from to)
        unfolding wrong_with_lem
        stays e = rw (lt-leb actions action there, le-leb from highest from_low, le-leb to highest to_low, eq-eqb from to e)

        pub twice : from ≢ to → again ≡ true → 7 ≡ wrong_with_lem actions again (ride action from to)
        unfolding wrong_with_lem
        twice d e = rw (lt-leb actions action there, le-leb from highest from_low, le-leb to highest to_low, ne_eqb from to d, e)

        pub right : from ≢ to → again ≡ false → 0 ≡ wrong_with_lem actions again (ride action from to)
        unfolding wrong_with_lem
        right d e = rw (lt-leb actions action there, le-leb from highest from_low, le-leb to highest to_low, ne_eqb from to d, e)
