-- `explain::tell_refusal` meets its contract: the refusal's line, and the lines of the facts that explain it.
-- Assumes nothing.
use native.Mathlib.Omega.{arith}
use mathlib.Core.Path.{ap, ◌∙◌}
use mathlib.Core.List.{List, [], ◌++◌}
use Prim.Native.Nat.{ℕ}
use lib.ListN.{take}
use lib.Seq.{length-take-le}
use Rattle.io.proofs.Counting.{prefix_len_of_le}
use Rattle.explain.proofs.Refused.{refusal_explained, no_lines}
use Rattle.explained.specs.Facts.{fact_lines}
use Rattle.wording.proofs.Told.{rows_told}
use Rattle.explain.proofs.tell_refusal.Goals as goal

pub returns : goal.returns
returns c =
    let (buffer, plans) = c.requires.2 in
    let many = length-take-le c.why-n.result c.why-n.new.facts (omega (arith, c.why-n.ensures.upper_bound.0, c.why-n.ensures.upper_bound.1)) in
    record {
      prefix_len = prefix_len_of_le _ _ (omega (arith, many, c.lines.ensures.upper_bound.1, c.lines.ensures.upper_bound.0, c.why-n.ensures.upper_bound.0, c.refused-begin.ensures.0, c.refused-begin.auto.out));
      explained = refusal_explained c.args.file.now c.args.crew buffer c.args.answer _ plans
          (λ t said. let (list, (why, rows)) = c.why-n.ensures.why t said in (list, (why, (c.lines.ensures.appends list (rows_told list rows)).text ∙ ap (λ (a : List ℕ). a ++ fact_lines list) c.refused-begin.ensures.1)))
          (λ number place said.
          (c.lines.ensures.appends [] (rows_told [] (ap (λ (k : ℕ). take k c.why-n.new.facts) (c.why-n.ensures.by_index number place said)))).text
          ∙ no_lines _ ∙ c.refused-begin.ensures.1);
    }
