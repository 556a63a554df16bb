-- `reasons::of_step` meets its contract: the reasons by one rule stand behind those by the rule before.
-- Assumes nothing.
use native.Mathlib.Omega.{arith}
use Rattle.walks.specs.Walks.{var_of, pre_of, conditions_of}
use Rattle.explained.specs.Facts.{next}
use Rattle.explained.specs.Reasons.{set_reason, set_reasons}
use Rattle.reasons.proofs.Opened.{var_low, pre_narrow, one_behind_another}
use Rattle.reasons.proofs.of_step.Goals as goal

pub by_next-a-requires : goal.by_next-a-requires
by_next-a-requires c =
    let (t, plan, j, known, step) = c.requires.1 in
    (var_low known step, pre_narrow known step, c.requires.0)

pub by_leaves-requires : goal.by_leaves-requires
by_leaves-requires c =
    let (t, plan, j, known, step) = c.requires.1 in
    (var_low known step, pre_narrow known step, omega (arith, c.by_sets-b.ensures.upper_bound.0, c.by_next-a.ensures.upper_bound.0), c.by_sets-b.ensures.upper_bound.1)

pub returns : goal.returns
returns c =
    record {
      upper_bound = c.by_leaves.ensures.upper_bound;
      facts_after = λ t plan j known step.
          one_behind_another (set_reason t plan next (var_of t j) (pre_of t j)) (set_reasons t plan (conditions_of t j)) _
          (c.by_next-a.ensures.by_index c.args.file.now _ t plan j known step)
          (c.by_sets-b.ensures.by_index _ t plan j known step)
          (c.by_leaves.ensures.by_index c.args.file.now _ _ t plan j known step);
    }
