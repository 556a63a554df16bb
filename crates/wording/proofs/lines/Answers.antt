-- `wording::lines` meets its contract: each line after the last.
-- Assumes nothing.
use mathlib.Core.Path.{◌≡◌, sym, ap, ◌∙◌}
use mathlib.Core.List.{map}
use lib.ListN.{length, get_or, length-map}
use lib.Seq.{take_all}
use Rattle.std.proofs.Common.{arith, rules}
use Rattle.std.proofs.Math.ListN.{get_or-map}
use Rattle.wording.proofs.Told.{no_rows, row_put}
use Rattle.wording.proofs.lines.Goals as goal

pub loop-fact-init : goal.loop-fact-init
loop-fact-init g c = (search rules, search rules, no_rows)

pub loop-fact-preserved : goal.loop-fact-preserved
loop-fact-preserved g c =
    let bytes = g.F.Row.bytes in
    let facts = c.args.facts.now in
    let k = c.loop-fact.fact-index in
    let fact = c.fact-item.result in
    let many : length (map bytes facts) ≡ length facts = length-map facts bytes in
    let here : get_or (map bytes facts) k (bytes fact) ≡ bytes fact = get_or-map bytes facts k fact ∙ ap bytes (sym c.fact-item.is) in (
      omega arith,
      search rules,
      row_put (map bytes facts) k (bytes fact) (omega (arith, many)) c.loop-fact.invariant.2
          (λ f e. c.line-at.ensures.appends f (c.row.ensures ∙ (sym here ∙ e))),
    )

pub returns-clause-appends : goal.returns-clause-appends
returns-clause-appends g c list e =
    let bytes = g.F.Row.bytes in
    let facts = c.args.facts.now in
    let many : length (map bytes facts) ≡ length facts = length-map facts bytes in
    c.loop-fact.invariant.2 list (take_all c.loop-fact.fact-index (map bytes facts) (omega (arith, many)) ∙ e)
