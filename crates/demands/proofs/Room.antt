-- Straight plans of one file and crew have equal length, at most 256: so 256 bytes are room for any plan of any file.
-- Assumes nothing.
use Prim.Native.Nat.{ℕ, ◌≤◌}
use native.Mathlib.Omega.{arith}
use mathlib.Core.Path.{◌≡◌}
use mathlib.Core.List.{List}
use lib.ListN.{length}
use Rattle.study.specs.Study.{Study}
use Rattle.lawful.proofs.Loads.{heard_lawful}
use Rattle.plans.specs.Plans.{StraightPlan}
use Rattle.planning.proofs.Found.{straight_equally_long, straight_plan_short}
use Rattle.demands.specs.Words.{LoadsFor, RoomFor}

module _ (file : List ℕ) (crew : ℕ) (t : Study) (loads : LoadsFor file crew t) where
  pub straight_plans_have_equal_length : (one other : List ℕ) → StraightPlan t one → StraightPlan t other → length one ≡ length other
  straight_plans_have_equal_length one other = straight_equally_long (heard_lawful file crew t loads)

  pub straight_plans_are_short : (list : List ℕ) → StraightPlan t list → length list ≤ 256
  straight_plans_are_short list = straight_plan_short (heard_lawful file crew t loads)

  pub room_in_256_bytes : (before : List ℕ) → 256 ≤ length before → RoomFor t before
  room_in_256_bytes before long list straight = omega (arith, straight_plans_are_short list straight)
