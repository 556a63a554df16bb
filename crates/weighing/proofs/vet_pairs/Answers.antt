-- `weighing::vet_pairs` meets its contract: a pair is astray or all are linked; the links form a circle or are closed; a direct order lacks or none.
-- Assumes nothing.
use mathlib.Core.Path.{refl, sym, ◌∙◌}
use Rattle.charts.specs.Charts.{chart_of, pairs_of}
use Rattle.weighing.proofs.Fresh.{fresh_shaped, fresh_all_empty}
use Rattle.vetting.proofs.Pairing.{links_leave, linked_astray, ring_charts, closed_charts}
use Rattle.weighing.proofs.vet_pairs.Goals as goal

pub link_all-requires : goal.link_all-requires
link_all-requires c = (fresh_shaped, fresh_all_empty)

pub returns-in-Some : goal.returns-in-Some
returns-in-Some c t x known listed =
    rw c.refusal.ensures
    (linked_astray (chart_of c.args.actions.now c.args.pairs.now) listed (c.in-Some.ensures.by_index c.args.actions.now c.requires.0) c.in-Some.ensures.there)

pub close-requires : goal.close-requires
close-requires c =
    let links = c.in_default.ensures.by_index c.args.actions.now c.requires.0 in (
      c.link_all.ensures.shaped,
      λ x y link.
          (c.requires.0 x).1 (links_leave (pairs_of c.args.pairs.now) (links.by_pairs refl) c.args.actions.now (links.none refl) x y link),
    )

pub returns-then-is_err : goal.returns-then-is_err
returns-then-is_err c t x known listed =
    rw c.refusal-then-is_err.ensures
    (ring_charts (chart_of c.args.actions.now c.args.pairs.now) (c.in_default.ensures.by_index c.args.actions.now c.requires.0) refl
    c.close.ensures.closes (sym c.is_err.ensures.value ∙ c.if-is_err.true) listed)

pub weigh_orders-lack-requires : goal.weigh_orders-lack-requires
weigh_orders-lack-requires c = c.requires.1

pub returns : goal.returns
returns c t x known listed =
    rw (c.told.ensures, ← c.many_pairs-many.ensures c.args.pairs.now refl)
    (closed_charts (chart_of c.args.actions.now c.args.pairs.now) (c.in_default.ensures.by_index c.args.actions.now c.requires.0) refl listed
    c.close.ensures.closes (sym c.is_err.ensures.value ∙ c.if-is_err.false) (c.weigh_orders-lack.ensures t x known listed.usably.within.plannable))
