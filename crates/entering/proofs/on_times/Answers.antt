-- `entering::on_times` meets its contract: the action is put out of force where the set lacks the situation and has no fault.
-- Assumes nothing.
use borrow.Enum.Refused.{opened as keys_of}
use mathlib.Core.Path.{◌≡◌, refl}
use mathlib.Core.Bool.{true, false}
use lib.Dec.{eqb}
use Rattle.judging.specs.Faults.{times_fault_lem}
use Rattle.advancing.specs.declared.Progress.{Progress}
use Rattle.advancing.specs.Steps.{after_times}
use Rattle.advancing.proofs.Judged.{goes_on, stops}
use Rattle.entering.proofs.on_times.Goals as goal
use Rattle.entering.proofs.on_times.Goals.{In-On, In_default, Start}

abbrev after : Start → Progress
after s = after_times s.args.p s.args.next

faultless : (c : In-On) → eqb (times_fault_lem c.args.n) 0 ≡ true
faultless c = goes_on (times_fault_lem c.args.n) c.args.p.at ((after_times c.args.p c.args.next)) c.judge_times-step.ensures c.in-On.in-On-own.keys1

faulty : (c : In_default) → eqb (times_fault_lem c.args.n) 0 ≡ false
faulty c = stops (times_fault_lem c.args.n) c.args.p.at ((after_times c.args.p c.args.next)) c.judge_times-step.ensures (keys_of c.in_default.in_default-own.keys2)

pub returns-in_default : goal.returns-in_default
returns-in_default c = let s = faulty c in record { value = rw s (rw s at c.judge_times-step.ensures); by_index = rw s (λ setters. refl) }

pub returns : goal.returns
returns c =
    let s = faultless (goal.at.returns c).In-On in
    record { value = rw s (rw s at c.judge_times-step.ensures); by_index = rw s (rw c.out_by.ensures.0 at c.enter_many.ensures) }
