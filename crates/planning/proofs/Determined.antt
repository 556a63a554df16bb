-- The answer of planning and the buffer afterwards are determined.
-- Assumes nothing.
use Prim.Native.Nat.{ℕ, ◌<◌}
use native.Mathlib.Omega.{arith}
use mathlib.Core.Path.{◌≡◌, refl, sym, ◌∙◌}
use mathlib.Core.List.{List}
use lib.ListN.{length}
use Rattle.answer.specs.declared.Answer.{Answer}
use Rattle.ranking.specs.Ranking.{Tested, tested}
use Rattle.std.specs.Prelude.{Ok, Err}
use Rattle.ranking.specs.declared.Unranked.TheVariants.{Length, Entry}
use Rattle.ranking.proofs.Fine.{fine_is_rank_list}
use Rattle.study.specs.Study.{Study}
use Rattle.study.specs.Reading.{Said, says, refused, reading_for}
use Rattle.lawful.specs.Lawful.{Lawful}
use Rattle.lawful.proofs.Loads.{LawfulIfHeard, hearing_lawful}
use Rattle.orders.proofs.Lists.{counted_unique}
use Rattle.walks.proofs.Breaks.{breaks_determined}
use Rattle.planning.specs.Planning.{LowestWithout, LowestOff, Plans, PlansFile}
use Rattle.planning.proofs.Bars.{without_bars_walks, off_bars_met}
use Rattle.planning.proofs.Found.{first_plan_determined}
use Rattle.planning.proofs.Ways.{Fault, Barred, without, off, on_ring, Laid, short, fits, Way, at_fault, barred, planned, way_of, barred_has_none}

-- 9
fault_determined : (ranks : List ℕ) (r : Tested) (x y x' y' : ℕ) → Fault ranks r x y → Fault ranks r x' y' → (x ≡ x') × (y ≡ y')
fault_determined ranks (Ok tt) x y x' y' f g = absurd f
fault_determined ranks (Err Length) x y x' y' f g = (f.0 ∙ sym g.0, f.1 ∙ sym g.1)
fault_determined ranks (Err (Entry k)) x y x' y' f g = (f.0 ∙ sym g.0, f.1 ∙ sym g.1)

-- 10: one variable is the lowest, and its trace breaks off in one way
without_not_below : {t : Study} {v x w y : ℕ} → LowestWithout t v x → LowestWithout t w y → v < w → ⊥
without_not_below {t} {v} a b h = let (list, walk) = b.lower v h in a.without list walk

pub without_determined : {t : Study} {v x w y : ℕ} → Lawful t → LowestWithout t v x → LowestWithout t w y → (v ≡ w) × (x ≡ y)
without_determined {t} {v} {x} {w} {y} lawful a b =
    let e : v ≡ w = omega (arith, without_not_below a b, without_not_below b a) in
    (e, breaks_determined lawful (rw e at a.breaks) b.breaks)

-- 11: one action is the lowest, and one variable of it
action_not_below : {t : Study} {i u j w : ℕ} → LowestOff t i u → LowestOff t j w → i < j → ⊥
action_not_below {t} {i} {u} a b h = a.off (b.lower_actions i h a.on_walk_lem u a.value a.wants_it)

variable_not_below : {t : Study} {i u w : ℕ} → LowestOff t i u → LowestOff t i w → u < w → ⊥
variable_not_below {t} {i} {u} a b h = a.off (b.lower_vars u a.value h a.wants_it)

pub off_determined : {t : Study} {i u j w : ℕ} → LowestOff t i u → LowestOff t j w → (i ≡ j) × (u ≡ w)
off_determined {t} {i} {u} {j} {w} a b =
    let e : i ≡ j = omega (arith, action_not_below a b, action_not_below b a) in
    let c : LowestOff t i w = rw e b in
    (e, omega (arith, variable_not_below a c, variable_not_below c a))

-- 10, 11, 12: one bar, as an earlier one bars what a later one takes for given
pub barred_determined : {t : Study} {r r' : Answer} → Lawful t → Barred t r → Barred t r' → r ≡ r'
barred_determined lawful (without a) (without b) = let (e, f) = without_determined lawful a b in cc
barred_determined lawful (without a) (off walks b) = absurd (without_bars_walks a walks)
barred_determined lawful (without a) (on_ring walks met c n) = absurd (without_bars_walks a walks)
barred_determined lawful (off walks a) (without b) = absurd (without_bars_walks b walks)
barred_determined lawful (off _ a) (off _ b) = let (e, f) = off_determined a b in cc
barred_determined lawful (off _ a) (on_ring _ met c n) = absurd (off_bars_met a met)
barred_determined lawful (on_ring walks met c n) (without b) = absurd (without_bars_walks b walks)
barred_determined lawful (on_ring _ met c n) (off _ b) = absurd (off_bars_met b met)
barred_determined lawful (on_ring _ _ _ n) (on_ring _ _ _ m) = let e = counted_unique n m in cc

-- 13, 0
laid_determined :
    {list before after after' : List ℕ} {r r' : Answer} → Laid list before r after → Laid list before r' after'
    → (r ≡ r') × (after ≡ after')
laid_determined (short h) (short k) = (refl, refl)
laid_determined (short h) (fits k) = absurd (omega arith)
laid_determined (fits h) (short k) = absurd (omega arith)
laid_determined (fits h) (fits k) = (refl, refl)

module _ {t : Study} (lawful : Lawful t) {ranks before : List ℕ} where
  way_determined :
      {r r' : Answer} {after after' : List ℕ} → Way t ranks before r after → Way t ranks before r' after' → (r ≡ r') × (after ≡ after')
  way_determined (at_fault {first = x} {second = y} f) (at_fault {first = x'} {second = y'} g) =
      let (d, e) = fault_determined ranks (tested ranks (length t.actions)) x y x' y' f g in (cc, refl)
  way_determined (at_fault f) (barred fine b) = absurd (rw fine at f)
  way_determined (at_fault f) (planned fine p l) = absurd (rw fine at f)
  way_determined (barred fine b) (at_fault f) = absurd (rw fine at f)
  way_determined (barred _ a) (barred _ b) = (barred_determined lawful a b, refl)
  way_determined (barred _ b) (planned _ p l) = absurd (barred_has_none lawful b p.straight)
  way_determined (planned fine p l) (at_fault f) = absurd (rw fine at f)
  way_determined (planned _ p l) (barred _ b) = absurd (barred_has_none lawful b p.straight)
  way_determined (planned fine p l) (planned _ q m) =
      let e = first_plan_determined (fine_is_rank_list fine) p q in laid_determined (rw e at l) m

  pub plans_determined :
      {r r' : Answer} {after after' : List ℕ} → Plans t ranks before r after → Plans t ranks before r' after' → (r ≡ r') × (after ≡ after')
  plans_determined p q = way_determined (way_of p) (way_of q)

pub plans_file_determined :
    (said : Said Study) → LawfulIfHeard said → (ranks before : List ℕ) {r r' : Answer} {after after' : List ℕ}
    → PlansFile said ranks before r after → PlansFile said ranks before r' after' → (r ≡ r') × (after ≡ after')
plans_file_determined (says t) lawful ranks before p q = plans_determined lawful p q
plans_file_determined (refused number place) lawful ranks before p q = (p.0 ∙ sym q.0, p.1 ∙ sym q.1)

-- .. and so for every file and crew, as what a crew hears is a lawful study
pub file_plans_determined :
    (file : List ℕ) (crew : ℕ) (ranks before : List ℕ) {r r' : Answer} {after after' : List ℕ}
    → PlansFile (reading_for file crew) ranks before r after → PlansFile (reading_for file crew) ranks before r' after' → (r ≡ r') × (after ≡ after')
file_plans_determined file crew = plans_file_determined (reading_for file crew) (hearing_lawful file crew)
