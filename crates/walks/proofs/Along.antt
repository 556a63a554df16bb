-- Along a walk: the value that is reached after some of its actions, and that each of them is on a walk.
-- Assumes nothing.
use mathlib.Core.Path.{◌≡◌, sym}
use mathlib.Core.Logic.{◌⊎◌, inl, inr}
use mathlib.Core.List.{List}
use Prim.Native.Nat.{ℕ, zero, suc, ◌≤◌, ◌<◌}
use native.Mathlib.Omega.{arith}
use lib.ListN.{length, get_or}
use Rattle.study.specs.Study.{Study}
use Rattle.orders.specs.Orders.{In}
use Rattle.walks.specs.Walks.{Walk, OnAWalk, ValueOnWalk, pre_of, post_of, start_of, goal_of}
use Rattle.orders.proofs.Lists.{entry_in, in_has_place}
use Rattle.walks.proofs.Unique.{walk_var, walk_first, walk_next, walk_last, walk_empty}

-- the value of a variable after the first k actions of its walk
abbrev pub reached : Study → ℕ → List ℕ → ℕ → ℕ
reached t v xs zero = start_of t v
reached t v xs (suc k) = post_of t (get_or xs k 0)

module _ {t : Study} {v : ℕ} {xs : List ℕ} (walk : Walk t v xs) where
  -- the next action leaves it
  pub reached_left : (k : ℕ) → k < length xs → pre_of t (get_or xs k 0) ≡ reached t v xs k
  reached_left zero h = walk_first walk h
  reached_left (suc k) h = walk_next walk k h

  pub reached_last : (k : ℕ) → k ≡ length xs → reached t v xs k ≡ goal_of t v
  reached_last zero e = walk_empty walk (sym e)
  reached_last (suc k) e = walk_last walk k e

  pub on_walk_lem : v < length t.tasks → (k : ℕ) → k < length xs → OnAWalk t (get_or xs k 0)
  on_walk_lem there k h = record {
    there = rw (walk_var walk k h) there;
    list = xs;
    walk = rw (walk_var walk k h) walk;
    on = entry_in xs k h;
  }

-- a value on the walk is reached at some place
pub value_reached : {t : Study} {v q : ℕ} (on : ValueOnWalk t v q) → (k : ℕ) × ((k ≤ length on.list) × (reached t v on.list k ≡ q))
value_reached {t} {v} {q} on = go on.value
  where
    go : (q ≡ start_of t v) ⊎ ((i : ℕ) × (In i on.list × (post_of t i ≡ q))) → (k : ℕ) × ((k ≤ length on.list) × (reached t v on.list k ≡ q))
    go (inl e) = (0, (omega arith, sym e))
    go (inr (i, (h, e))) = let (k, (b, f)) = in_has_place i on.list h in (suc k, (b, rw f e))
