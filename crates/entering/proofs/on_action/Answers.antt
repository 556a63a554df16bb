-- `entering::on_action` meets its contract: the action is entered where it has no fault.
-- Assumes nothing.
use borrow.Enum.Refused.{opened as keys_of}
use mathlib.Core.Path.{◌≡◌, refl}
use mathlib.Core.Bool.{true, false}
use Prim.Native.Nat.{ℕ}
use native.Mathlib.Omega.{arith}
use lib.Dec.{eqb}
use borrow.Author.Rules.{rules}
use borrow.Author.Tests.{eqb-true}
use Rattle.tables.specs.Rows.{count_column}
use Rattle.judging.specs.Faults.{action_fault_lem}
use Rattle.judging.proofs.Bounds.{action_bounds}
use Rattle.advancing.specs.declared.Progress.{Progress}
use Rattle.advancing.specs.Steps.{after_action}
use Rattle.advancing.proofs.Judged.{goes_on, stops}
use Rattle.entering.proofs.Rows.{action_stored}
use Rattle.entering.proofs.on_action.Goals as goal
use Rattle.entering.proofs.on_action.Goals.{In-On, In_default, Start}

abbrev fault-of : Start → ℕ
fault-of s = action_fault_lem (count_column s.args.rows.now) s.args.p.vars s.args.p.actions s.args.v s.args.pre s.args.post

abbrev after : Start → Progress
after s = after_action s.args.p s.args.v s.args.next

faultless : (c : In-On) → eqb ((action_fault_lem (count_column c.args.rows.now) c.args.p.vars c.args.p.actions c.args.v c.args.pre c.args.post)) 0 ≡ true
faultless c = goes_on ((action_fault_lem (count_column c.args.rows.now) c.args.p.vars c.args.p.actions c.args.v c.args.pre c.args.post)) c.args.p.at ((after_action c.args.p c.args.v c.args.next)) c.judge_action-step.ensures c.in-On.in-On-own.keys1

faulty : (c : In_default) → eqb ((action_fault_lem (count_column c.args.rows.now) c.args.p.vars c.args.p.actions c.args.v c.args.pre c.args.post)) 0 ≡ false
faulty c = stops ((action_fault_lem (count_column c.args.rows.now) c.args.p.vars c.args.p.actions c.args.v c.args.pre c.args.post)) c.args.p.at ((after_action c.args.p c.args.v c.args.next)) c.judge_action-step.ensures (keys_of c.in_default.in_default-own.keys2)

pub returns-in_default : goal.returns-in_default
returns-in_default c = let s = faulty c in record { value = rw s (rw s at c.judge_action-step.ensures); by_index = rw s (λ setters. refl) }

pub offset_bounds-acts-i : goal.offset_bounds-acts-i
offset_bounds-acts-i c = omega (arith, (action_bounds _ (eqb-true _ 0 (faultless c))).0)

pub bounds-acts-i : goal.bounds-acts-i
bounds-acts-i c = (action_bounds _ (eqb-true _ 0 (faultless c))).0

pub returns : goal.returns
returns c = let s = faultless c in record { value = rw s (rw s at c.judge_action-step.ensures); by_index = rw s (action_stored _ _ _ _ _ _ (search rules) refl) }
