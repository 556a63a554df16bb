-- `entering::on_seed` meets its contract: the place of the crew's first task is entered where the seed has no fault.
-- Assumes nothing.
use borrow.Enum.Refused.{opened as keys_of}
use mathlib.Core.Path.{◌≡◌, refl}
use mathlib.Core.Bool.{true, false}
use lib.Dec.{eqb}
use Rattle.judging.specs.Faults.{seed_fault_lem}
use Rattle.advancing.specs.declared.Progress.{Progress}
use Rattle.advancing.specs.Steps.{after_seed}
use Rattle.advancing.proofs.Judged.{goes_on, stops}
use Rattle.entering.proofs.on_seed.Goals as goal
use Rattle.entering.proofs.on_seed.Goals.{In-On, In_default, Start}

abbrev after : Start → Progress
after s = after_seed s.args.p s.args.next

faultless : (c : In-On) → eqb (seed_fault_lem c.args.n) 0 ≡ true
faultless c = goes_on (seed_fault_lem c.args.n) c.args.p.at ((after_seed c.args.p c.args.next)) c.judge_seed-step.ensures c.in-On.in-On-own.keys1

faulty : (c : In_default) → eqb (seed_fault_lem c.args.n) 0 ≡ false
faulty c = stops (seed_fault_lem c.args.n) c.args.p.at ((after_seed c.args.p c.args.next)) c.judge_seed-step.ensures (keys_of c.in_default.in_default-own.keys2)

pub returns-in_default : goal.returns-in_default
returns-in_default c = let s = faulty c in record { value = rw s (rw s at c.judge_seed-step.ensures); crews_after = rw s refl }

pub returns : goal.returns
returns c =
    let s = faultless (goal.at.returns c).In-On in
    record { value = rw s (rw s at c.judge_seed-step.ensures); crews_after = rw s refl }
