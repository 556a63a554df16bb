-- `vetting::vet_ties` meets its contract: a pair is astray or all are tied; the ties form a circle or are closed; a direct order lacks or none.
-- Assumes nothing.
use Prim.Native.Nat.{ℕ}
use mathlib.Core.Path.{refl, sym, ◌∙◌}
use mathlib.Core.List.{List}
use lib.ListN.{length}
use Rattle.tying.specs.Tying.{Tied, Among}
use Rattle.listing.specs.Listing.{LinksTo}
use Rattle.charts.specs.Charts.{Pair, chart_of}
use Rattle.comparing.specs.Comparing.{ListedIn}
use Rattle.vetting.proofs.Few.{fresh_untied}
use Rattle.vetting.proofs.Pairing.{links_leave, links_lead, linked_astray, lacks_same, ring_charts, closed_charts}
use Rattle.vetting.proofs.vet_ties.Goals as goal

-- all that are tied are members
among :
    (list : List ℕ) (pairs : List Pair) (members : ℕ) (ties : List ℕ) → ListedIn list members → LinksTo list pairs (Tied ties) (length pairs)
    → Among members ties
among list pairs members ties is links x y tie = (
  (is x).1 (links_leave pairs (links.by_pairs refl) list (links.none refl) x y tie),
  (is y).1 (links_lead pairs (links.by_pairs refl) list (links.none refl) x y tie),
)

pub tie_all-requires : goal.tie_all-requires
tie_all-requires c = (refl, c.requires.2, fresh_untied)

pub returns-in-Some : goal.returns-in-Some
returns-in-Some c t directs listed =
    rw c.refusal.ensures
    (linked_astray (chart_of c.args.actions.now c.args.pairs.now) listed (c.in-Some.ensures.by_index c.args.actions.now c.requires.3) c.in-Some.ensures.there)

pub close-requires : goal.close-requires
close-requires c =
    let p = c.requires in
    (p.0, c.tie_all.ensures.ties_len, p.1, among c.args.actions.now _ _ _ p.3 (c.in_default.ensures.by_index c.args.actions.now p.3), p.2, p.4)

pub returns-then-is_err : goal.returns-then-is_err
returns-then-is_err c t directs listed =
    rw c.refusal-then-is_err.ensures
    (ring_charts (chart_of c.args.actions.now c.args.pairs.now) (c.in_default.ensures.by_index c.args.actions.now c.requires.3) refl
    c.close.ensures (sym c.is_err.ensures.value ∙ c.if-is_err.true) listed)

pub lowest-lack-requires : goal.lowest-lack-requires
lowest-lack-requires c = c.requires.2

pub returns : goal.returns
returns c t directs listed =
    rw (c.told.ensures, ← c.many_pairs-many.ensures c.args.pairs.now refl)
    (closed_charts (chart_of c.args.actions.now c.args.pairs.now) (c.in_default.ensures.by_index c.args.actions.now c.requires.3) refl listed
    c.close.ensures (sym c.is_err.ensures.value ∙ c.if-is_err.false) (lacks_same directs c.lowest-lack.ensures))
