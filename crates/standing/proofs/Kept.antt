-- A record taken without fault keeps every index and every sum in range.
-- Assumes nothing.
use mathlib.Core.Path.{◌≡◌}
use mathlib.Core.Logic.{◌≢◌}
use mathlib.Core.List.{List}
use Prim.Native.Nat.{ℕ, ◌+◌, ◌≤◌, ◌<◌}
use native.Mathlib.Omega.{arith}
use lib.ListN.{get_or, set}
use Rattle.plain.proofs.Lists.{one_set}
use Rattle.advancing.specs.declared.Progress.{Progress}
use Rattle.judging.specs.Faults.{variable_fault_lem, action_fault_lem, condition_fault_lem, task_fault_lem, present_fault_lem, crew_fault_lem}
use Rattle.advancing.specs.Steps.{after_variable, after_action, after_condition, after_task, after_seed, after_times, after_present, after_crew}
use Rattle.standing.specs.Reads.{Bounds}
use Rattle.judging.proofs.Bounds.{variable_bounds, action_bounds, condition_bounds, task_bounds, present_bounds, crew_bounds}

module _ {p : Progress} {counts : List ℕ} (bounds : Bounds p counts) (next : ℕ) where
  pub variable_kept :
      (n : ℕ) → variable_fault_lem p.vars n ≡ 0 → p.last ≢ 5 → next ≡ p.at + 2
      → Bounds (after_variable p next) (set counts p.vars n)
  variable_kept n good before at =
      let (few, _, small) = variable_bounds good in
      let short = bounds.short before in
      let room = bounds.room_for_one before in
      let back = bounds.back before in
      let each : (v : ℕ) → v < p.vars + 1 → get_or (set counts p.vars n) v 0 ≤ 16 =
      λ v h. one_set (λ m. m ≤ 16) counts p.vars n 0 small (omega arith) v (λ o. bounds.small v (omega arith)) in
      search arith

  pub action_kept :
      (v x y : ℕ)
      → action_fault_lem counts p.vars p.actions v x y ≡ 0 → p.last ≢ 5 → next ≡ p.at + 4
      → Bounds (after_action p v next) counts
  action_kept v x y good before at =
      let few = (action_bounds counts good).0 in
      let short = bounds.short before in
      let room = bounds.room_for_one before in
      let back = bounds.back before in
      search arith

  pub condition_kept :
      (v q : ℕ)
      → condition_fault_lem counts p.vars p.own p.above v q ≡ 0 → 2 ≤ p.last → p.last ≤ 3 → next ≡ p.at + 3
      → Bounds (after_condition p v next) counts
  condition_kept v q good low high at =
      let (there, _, _, rising) = condition_bounds counts good in
      let shorter = bounds.shorter low high in
      let room = bounds.room_for_one (λ e. omega arith) in
      let back = bounds.back (λ e. omega arith) in
      let some_action = bounds.some_action low high in
      search arith

  pub times_kept : 2 ≤ p.last → p.last ≤ 3 → next ≡ p.at + 2 → Bounds (after_times p next) counts
  times_kept low high at =
      let shorter = bounds.shorter low high in
      let room = bounds.room_for_one (λ e. omega arith) in
      let back = bounds.back (λ e. omega arith) in
      search arith

  pub task_kept :
      (v x y : ℕ)
      → task_fault_lem counts p.vars p.tasks v x y ≡ 0 → p.last ≢ 5 → next ≡ p.at + 4
      → Bounds (after_task p next) counts
  task_kept v x y good before at =
      let (here, there, _, _) = task_bounds counts good in
      let short = bounds.short before in
      let room = bounds.room_for_one before in
      let back = bounds.back before in
      search arith

  pub seed_kept : p.last ≢ 5 → next ≡ p.at + 5 → Bounds (after_seed p next) counts
  seed_kept before at =
      let short = bounds.short before in
      let room = bounds.room_for_one before in
      search arith

  pub crew_kept : crew_fault_lem p.crews ≡ 0 → p.last ≡ 5 → next ≡ p.at + 1 → Bounds (after_crew p next) counts
  crew_kept good last at =
      let room = crew_bounds good in
      let seeded = bounds.seeded last in
      search arith

  pub present_kept : (n : ℕ) → present_fault_lem n ≡ 0 → p.last ≡ 0 → next ≡ p.at + 2 → Bounds (after_present p n next) counts
  present_kept n good first at =
      let known = present_bounds good in
      let here = bounds.unread first in
      let room = bounds.room_for_one (λ e. omega arith) in
      let back = bounds.back (λ e. omega arith) in
      search arith
