-- `plan::tell_plan` meets its contract: the tables show each action as the crew's study has it.
-- Assumes nothing.
use native.Mathlib.Omega.{arith}
use Rattle.io.proofs.Counting.{prefix_len_of_le}
use Rattle.tables.specs.Rows.{seen_all}
use Rattle.tables.proofs.Fresh.{fresh_sized}
use Rattle.plan.proofs.Planned.{loaded_text}
use Rattle.plan.proofs.tell_plan.Goals as goal

pub load_for-requires : goal.load_for-requires
load_for-requires c = fresh_sized

pub returns : goal.returns
returns c =
    let held = seen_all c.load_for.new.acts c.load_for.new.vars c.load_for.new.setters in record { prefix_len = prefix_len_of_le _ _ (omega (arith, c.plan.auto.out)); out_after = λ t said usable. loaded_text c.args.file.now c.args.crew c.args.plan.now t held c.load_for.result c.load_for.ensures said usable c.plan.ensures.1 }
