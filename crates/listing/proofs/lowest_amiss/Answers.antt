-- `listing::lowest_amiss` meets its contract: each turn puts one more entry into the sets; what repeats or is in just one of list and members is in one set, whose least is answered.
-- Assumes nothing.
use mathlib.Core.Path.{◌≡◌, sym, ◌∙◌}
use mathlib.Core.Bool.{true}
use Prim.Native.Nat.{ℕ, ◌<◌}
use native.Mathlib.Omega.{arith}
use Rattle.orders.proofs.Lists.{in_has_place}
use Rattle.listing.proofs.Gathering.{none_by, again_by, new_by, all_by}
use Rattle.listing.proofs.Amiss.{same_set, finds}
use Rattle.listing.proofs.lowest_amiss.Goals as goal
use Rattle.listing.proofs.lowest_amiss.Goals.{then-contains, else-contains}

pub loop-i-init : goal.loop-i-init
loop-i-init g c = none_by c.empty-listed.ensures c.empty-amiss.ensures

pub loop-i-preserved : goal.loop-i-preserved
loop-i-preserved g c =
    let by = c.loop-i.invariant in
    let h = c.loop-i-test.true in
    elim c.if-contains.branch [
      | then-contains w ↦ rw w.amiss-is (again_by by h (sym c.contains.ensures ∙ w.if-contains.true) c.add-in-loop-i.ensures w.add.ensures)
      | else-contains w ↦ rw w.amiss-is (new_by by h (sym c.contains.ensures ∙ w.if-contains.false) c.add-in-loop-i.ensures)
    ]

pub returns : goal.returns
returns g c =
    let list = c.args.list.now in
    let (set, again) = all_by c.loop-i.invariant c.loop-i-test.false in
    let low : (i : ℕ) → g.S.ActionSet.has c.loop-i.listed i ≡ true → i < 256 =
    λ i w. let (k, (l, e)) = in_has_place i list ((set i).0 w) in omega (arith, c.type_inv.list k) in
    let differ = c.add_unlike.ensures in
    record {
      set_of = λ none.
          same_set list _ _ _ _ low c.requires.few_members differ (λ i h. (rw none at c.least.ensures).none_below i (omega arith)) set;
      finds_amiss = λ t walks.
          finds record { listed_low = low; walking_low = c.requires.few_members; set = set; again = again; walks = walks; differ = differ } c.least.ensures;
    }
