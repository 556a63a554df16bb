-- `explaining::why_broken` meets its contract: the trace from the variable's goal.
-- Assumes nothing.
use native.Mathlib.Omega.{arith}
use mathlib.Core.Path.{sym, ◌∙◌}
use Rattle.stages.proofs.Stages.{known_moves}
use Rattle.explaining.proofs.Known.{few_variables, known_goal, known_goal_small}
use Rattle.explaining.proofs.why_broken.Goals as goal

pub variable_at-var-requires : goal.variable_at-var-requires
variable_at-var-requires c = let (t, file, n, x, known, there) = c.requires.1 in omega (arith, few_variables known)

pub overflow_cast-v : goal.overflow_cast-v
overflow_cast-v c = let (t, file, n, x, known, there) = c.requires.1 in omega (arith, few_variables known)

pub trace_back-requires : goal.trace_back-requires
trace_back-requires c =
    let (t, file, n, x, known, there) = c.requires.1 in (
      omega (arith, few_variables known),
      rw c.variable_at-var.ensures.goal (known_goal_small known _ there),
      c.requires.0,
      (t, known_moves known),
    )

pub returns : goal.returns
returns c = record {
  upper_bound = c.trace_back.ensures.upper_bound;
  by_index = λ file n x t known there.
      c.trace_back.ensures.traced_from_goal t (known_moves known) (sym (c.variable_at-var.ensures.goal ∙ known_goal known _ there));
}
