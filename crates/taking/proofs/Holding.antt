-- The conditions of an action, as the tables have them: they can be read, and they hold exactly if the state has each value that they want.
-- Assumes nothing.
use mathlib.Core.Path.{◌≡◌, refl}
use mathlib.Core.List.{List}
use Prim.Native.Nat.{ℕ, ◌+◌, ◌*◌, ◌<◌}
use native.Mathlib.Omega.{arith}
use lib.ListN.{length, get_or}
use Rattle.study.specs.Study.{Study}
use Rattle.walks.specs.Walks.{Wants, conditions_of}
use Rattle.walks.proofs.Wanted.{wanted-each}
use Rattle.tracing.specs.Facts.{Deeds}
use Rattle.wanting.specs.Wanting.{StandAt}
use Rattle.opening.specs.Conditions.{Readable, HoldUpTo}
use Rattle.wanting.proofs.Conditions.{wants_at, stands_here}

pub deeds_stand :
    {file : List ℕ} {a : ℕ} {vars posts places manys : List ℕ} {t : Study} → Deeds file a vars posts places manys t
    → (i : ℕ) → i < length t.actions → StandAt file (get_or places i 0) (get_or manys i 0) t i
deeds_stand deeds i h = record { lawful = deeds.lawful; there = h; holds = deeds.tells_conditions i (omega (arith, deeds.actions)) }

module _ {file : List ℕ} {place many i : ℕ} {t : Study} (stand : StandAt file place many t i) where
  pub stand_readable : Readable file place many
  stand_readable = record {
    room = stand.holds.room;
    var = λ k h. let w = stands_here stand (place + 3 * k) k refl h in omega (arith, w.var, w.low);
  }

  -- what condition k says in the file is wanted
  pub wants_read : (k : ℕ) → k < many → Wants (conditions_of t i) (get_or file (place + 3 * k + 1) 0) (get_or file (place + 3 * k + 2) 0)
  wants_read k h = rw (stand.holds.var k h, stand.holds.value k h) (wants_at (conditions_of t i) k (omega (arith, stand.holds.count)))

  pub hold_all_wanted : (state : List ℕ) → HoldUpTo file place state many → (u q : ℕ) → Wants (conditions_of t i) u q → get_or state u 0 ≡ q
  hold_all_wanted state hold =
      wanted-each (λ u q. get_or state u 0 ≡ q) (conditions_of t i)
      (λ k h. let b : k < many = omega (arith, stand.holds.count) in rw (← stand.holds.var k b, ← stand.holds.value k b) (hold k b))

  pub wanted_all_hold : (state : List ℕ) → ((u q : ℕ) → Wants (conditions_of t i) u q → get_or state u 0 ≡ q) → HoldUpTo file place state many
  wanted_all_hold state f k h = f _ _ (wants_read k h)
