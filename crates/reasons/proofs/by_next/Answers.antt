-- `reasons::by_next` meets its contract: no fact where the start is left, else the one of the action that sets what is left.
-- Assumes nothing.
use mathlib.Core.Path.{refl, sym, ap, ◌∙◌}
use native.Mathlib.Omega.{arith}
use Rattle.explained.specs.Facts.{rows_of}
use Rattle.reasons.proofs.Opened.{next_untold, next_told}
use Rattle.reasons.proofs.by_next.Goals as goal

pub returns-then-act-var : goal.returns-then-act-var
returns-then-act-var c =
    record { upper_bound = (omega arith, c.requires.2); by_index = λ file wanters t plan j known step. ap rows_of (sym (next_untold known step c.wide-v.ensures.0 (c.if-act-var.true ∙ c.variable_at-var.ensures.start))) }

pub returns : goal.returns
returns c =
    record {
      upper_bound = (omega (arith, c.add.ensures.value.0), c.add.ensures.value.1);
      by_index = λ file wanters t plan j known step.
          next_told known step c.wide-v.ensures.0 c.wide.ensures.0
          (λ e. c.if-act-var.false (e ∙ sym c.variable_at-var.ensures.start)) refl c.from.ensures c.add.ensures.facts_after;
    }
