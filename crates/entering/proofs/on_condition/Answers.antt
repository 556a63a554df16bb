-- `entering::on_condition` meets its contract: the number of conditions is entered where the condition has no fault.
-- Assumes nothing.
use borrow.Enum.Refused.{opened as keys_of}
use mathlib.Core.Path.{◌≡◌, refl, ap}
use mathlib.Core.Bool.{true, false}
use Prim.Native.Nat.{ℕ}
use lib.Dec.{eqb}
use Rattle.tables.specs.Rows.{count_column}
use Rattle.judging.specs.Faults.{condition_fault_lem}
use Rattle.advancing.specs.declared.Progress.{Progress}
use Rattle.advancing.specs.declared.Step.TheVariants.{On}
use Rattle.advancing.specs.Steps.{after_condition}
use Rattle.advancing.proofs.Judged.{goes_on, went_on, stops}
use Rattle.entering.proofs.on_condition.Goals as goal
use Rattle.entering.proofs.on_condition.Goals.{In-On, In_default, Start}

abbrev fault-of : Start → ℕ
fault-of s = condition_fault_lem (count_column s.args.rows.now) s.args.p.vars s.args.p.own s.args.p.above s.args.v s.args.q

abbrev after : Start → Progress
after s = after_condition s.args.p s.args.v s.args.next

faultless : (c : In-On) → (eqb ((condition_fault_lem (count_column c.args.rows.now) c.args.p.vars c.args.p.own c.args.p.above c.args.v c.args.q)) 0 ≡ true) × (c.in-On.after ≡ (after_condition c.args.p c.args.v c.args.next))
faultless c =
    let e = c.judge_condition-step.ensures in
    (goes_on ((condition_fault_lem (count_column c.args.rows.now) c.args.p.vars c.args.p.own c.args.p.above c.args.v c.args.q)) c.args.p.at ((after_condition c.args.p c.args.v c.args.next)) e c.in-On.in-On-own.keys1, went_on ((condition_fault_lem (count_column c.args.rows.now) c.args.p.vars c.args.p.own c.args.p.above c.args.v c.args.q)) c.args.p.at ((after_condition c.args.p c.args.v c.args.next)) e c.in-On.is)

faulty : (c : In_default) → eqb ((condition_fault_lem (count_column c.args.rows.now) c.args.p.vars c.args.p.own c.args.p.above c.args.v c.args.q)) 0 ≡ false
faulty c = stops ((condition_fault_lem (count_column c.args.rows.now) c.args.p.vars c.args.p.own c.args.p.above c.args.v c.args.q)) c.args.p.at ((after_condition c.args.p c.args.v c.args.next)) c.judge_condition-step.ensures (keys_of c.in_default.in_default-own.keys2)

pub returns-in_default : goal.returns-in_default
returns-in_default c = let s = faulty c in record { value = rw s (rw s at c.judge_condition-step.ensures); by_index = rw s (λ setters. refl) }

pub returns : goal.returns
returns c =
    let s = faultless (goal.at.returns c).In-On in
    record { value = rw s.0 (ap On s.1); by_index = rw s.0 (rw s.1 at c.enter_many.ensures) }
