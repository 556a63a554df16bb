-- The faults that the tables tell are those of the definition.
-- Assumes nothing.
use mathlib.Core.Path.{◌≡◌, refl}
use mathlib.Core.Bool.{◌&&◌}
use mathlib.Core.List.{List}
use Prim.Native.Nat.{ℕ}
use native.Mathlib.Omega.{arith}
use lib.Dec.{ltb}
use lib.ListN.{length, get_or}
use borrow.Author.Tests.{ltb-true}
use Rattle.plain.proofs.Tests.{and_same}
use Rattle.study.specs.Reading.{Draft, fault, fault_in, variable, action, condition, task, seed, times, present, crew}
use Rattle.advancing.specs.declared.Progress.{Progress}
use Rattle.tables.specs.Tables.{HoldsCounts}
use Rattle.judging.specs.Faults.{in_table, variable_fault_lem, action_fault_lem, condition_fault_lem, task_fault_lem, seed_fault_lem, times_fault_lem, present_fault_lem, crew_fault_lem}
use Rattle.standing.specs.Reads.{Knows}

in_table_is :
    {n : ℕ} {table counts : List ℕ}
    → HoldsCounts n table counts → (v q : ℕ) → in_table table n v q ≡ (ltb v (length counts) && ltb q (get_or counts v 0))
unfolding in_table
in_table_is {n} {table} {counts} holds v q =
    rw holds.count (and_same (ltb v (length counts)) _ _ (λ e. rw (holds.value v (omega (arith, ltb-true v (length counts) e)))))

module _ {p : Progress} {counts : List ℕ} {d : Draft} (knows : Knows p counts d) where
  pub variable_fault_is : (n : ℕ) → variable_fault_lem p.vars n ≡ fault_in d (variable n)
  unfolding variable_fault_lem fault fault_in
  variable_fault_is n = rw knows.counts.count

  pub action_fault_is : (v x y : ℕ) → action_fault_lem counts p.vars p.actions v x y ≡ fault_in d (action v x y)
  unfolding action_fault_lem fault fault_in
  action_fault_is v x y = rw (in_table_is knows.counts v x, in_table_is knows.counts v y, knows.actions)

  pub condition_fault_is : (v q : ℕ) → condition_fault_lem counts p.vars p.own p.above v q ≡ fault_in d (condition v q)
  unfolding condition_fault_lem fault fault_in
  condition_fault_is v q = rw (in_table_is knows.counts v q, knows.own, knows.above v)

  pub task_fault_is : (v x y : ℕ) → task_fault_lem counts p.vars p.tasks v x y ≡ fault_in d (task v x y)
  unfolding task_fault_lem fault fault_in
  task_fault_is v x y = rw (in_table_is knows.counts v x, in_table_is knows.counts v y, knows.tasks)

  pub seed_fault_is : (n : ℕ) → seed_fault_lem n ≡ fault_in d (seed n)
  unfolding seed_fault_lem fault fault_in
  seed_fault_is n = refl

  pub times_fault_is : (n : ℕ) → times_fault_lem n ≡ fault_in d (times n)
  unfolding times_fault_lem fault fault_in
  times_fault_is n = refl

  pub present_fault_is : (n : ℕ) → present_fault_lem n ≡ fault_in d (present n)
  unfolding present_fault_lem fault fault_in
  present_fault_is n = refl

  pub crew_fault_is : crew_fault_lem p.crews ≡ fault_in d crew
  unfolding crew_fault_lem fault_in
  crew_fault_is = rw knows.crews
