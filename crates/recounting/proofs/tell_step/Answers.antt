-- `recounting::tell_step` meets its contract: the step's line, and the lines of its reasons behind it.
-- Assumes nothing.
use mathlib.Core.Path.{refl}
use native.Mathlib.Omega.{arith}
use lib.ListN.{get_or}
use lib.Seq.{length-take-le}
use Rattle.explained.specs.Reasons.{reasons_of}
use Rattle.telling.proofs.Placed.{then}
use Rattle.wording.proofs.Told.{rows_told}
use Rattle.recounting.proofs.tell_step.Goals as goal

pub of_step-n-requires : goal.of_step-n-requires
of_step-n-requires c =
    let (t, ready) = c.requires.2 in
    (refl, (t, _, _, ready.reasonable, ready.step c.args.k c.requires.0 (rw c.wide-action.ensures.0 at c.action_at-act.ensures)))

pub returns : goal.returns
returns c =
    let many = length-take-le c.of_step-n.result c.of_step-n.new.facts (omega (arith, c.of_step-n.ensures.upper_bound.0, c.of_step-n.ensures.upper_bound.1)) in
    record {
      upper_bound = (omega (arith, many, c.lines.ensures.upper_bound.0, c.of_step-n.ensures.upper_bound.0, c.step-begin.ensures.0), omega (arith, c.lines.ensures.upper_bound.1, c.step-begin.auto.out, c.requires.1));
      out_after = λ t ready.
          let opened = rw c.wide-action.ensures.0 at c.action_at-act.ensures in
          let step = ready.step c.args.k c.requires.0 opened in
          let reasons = c.of_step-n.ensures.facts_after t _ _ ready.reasonable step in
          let text = (then c.step-begin.ensures.1 (c.lines.ensures.appends (reasons_of t c.args.plan.now (get_or c.args.plan.now c.args.k 0)) (rows_told _ reasons))).text in
          rw (c.wide-action.ensures.0, step.is_var, step.is_pre, ready.post c.args.k c.requires.0 opened) at text;
    }
