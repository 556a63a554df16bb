-- What is told of refusal 11 is true, and one text: the condition, and the walk that it is off.
-- Assumes nothing.
use Prim.Native.Nat.{ℕ, ◌<◌}
use native.Mathlib.Omega.{arith}
use native.Mathlib.Decide.{dec_lt}
use mathlib.Core.Path.{◌≡◌, refl, sym, ap, ◌∙◌}
use mathlib.Core.Logic.{inl, inr}
use mathlib.Core.List.{List, [], ◌∷◌, map}
use lib.ListN.{length}
use Rattle.study.specs.Study.{Condition, Study, condition_at}
use Rattle.lawful.specs.Lawful.{Lawful, LawfulConditions}
use Rattle.lawful.proofs.Conditions.{rising_lt}
use Rattle.orders.specs.Orders.{In}
use Rattle.walks.specs.Walks.{var_of, start_of, goal_of, Walk, OnAWalk, Wants}
use Rattle.walks.proofs.Leads.{leads_in, on_walk_usable}
use Rattle.walks.proofs.Unique.{walk_unique}
use Rattle.walks.proofs.Wanted.{wanted-each}
use Rattle.planning.specs.Planning.{LowestOff}
use Rattle.explained.specs.Facts.{Fact}
use Rattle.explained.specs.Refusals.{walk_fact, WalkedPast}
use Rattle.explained.specs.Meaning.{Says, Each}

-- ---- one text

wants_index : (cs : List Condition) (v q : ℕ) → Wants cs v q → (k : ℕ) × ((k < length cs) × (((condition_at cs k).var ≡ v) × ((condition_at cs k).value ≡ q)))
wants_index cs =
    wanted-each (λ v q. (k : ℕ) × ((k < length cs) × (((condition_at cs k).var ≡ v) × ((condition_at cs k).value ≡ q)))) cs (λ k h. (k, (h, (refl, refl))))

-- an action wants one value of a variable at most
pub wants-one :
    {counts : List ℕ} {own : ℕ} {cs : List Condition} → LawfulConditions counts own cs → (v p q : ℕ) → Wants cs v p → Wants cs v q → p ≡ q
wants-one {counts} {own} {cs} lawful v p q a b =
    let (j, (there, (e, f))) = wants_index cs v p a in
    let (k, (here, (g, h))) = wants_index cs v q b in
    same j k there here e f g h (dec_lt j k) (dec_lt k j)
  where
    same :
        (j k : ℕ) → j < length cs → k < length cs → (condition_at cs j).var ≡ v → (condition_at cs j).value ≡ p → (condition_at cs k).var ≡ v
        → (condition_at cs k).value ≡ q → Dec (j < k) → Dec (k < j) → p ≡ q
    same j k there here e f g h (yes l) m = absurd (omega (arith, rising_lt lawful j k l here))
    same j k there here e f g h (no l) (yes m) = absurd (omega (arith, rising_lt lawful k j m there))
    same j k there here e f g h (no l) (no m) = let z : j ≡ k = omega arith in sym f ∙ ap (λ (n : ℕ). (condition_at cs n).value) z ∙ h

module _ {t : Study} (lawful : Lawful t) {i u : ℕ} (on : OnAWalk t i) where
  pub walked_past_once : {a b : List Fact} → WalkedPast t i u a → WalkedPast t i u b → a ≡ b
  walked_past_once p q =
      let e : p.value ≡ q.value = wants-one (lawful.action i (on_walk_usable on).there).conditions u p.value q.value p.wants_it q.wants_it in
      let f : p.list ≡ q.list = walk_unique lawful p.walks q.walks in
      p.told ∙ (rw (e, f)) ∙ sym q.told

-- ---- true

walk_true :
    {t : Study} {u : ℕ} (whole : List ℕ) → u < length t.tasks → Walk t u whole → (list : List ℕ) → ((x : ℕ) → In x list → In x whole)
    → Each (Says t) (map (walk_fact t u) list)
walk_true {t} {u} whole there w [] all = tt
walk_true {t} {u} whole there w (x ∷ rest) all =
    let own : var_of t x ≡ u = (leads_in t u (start_of t u) whole (goal_of t u) w.leads x (all x (inl refl))).1 in (
      (record { there = rw own there; list = whole; walk = rw own w; on = all x (inl refl) }, (own, (refl, refl))),
      walk_true whole there w rest (λ y h. all y (inr h)),
    )

pub walked_past_true :
    {t : Study} {i u : ℕ} {facts : List Fact} → Lawful t → LowestOff t i u → u < length t.tasks → WalkedPast t i u facts → Each (Says t) facts
walked_past_true {t} {i} {u} lawful off there p =
    rw p.told (
      (off.on_walk_lem, (p.wants_it, rw (← same) at off.off)),
      (refl, walk_true p.list there p.walks p.list (λ x h. h)),
    )
  where
    same : p.value ≡ off.value
    same = wants-one (lawful.action i (on_walk_usable off.on_walk_lem).there).conditions u p.value off.value p.wants_it off.wants_it
