-- What is so between the steps of taking: what is taken was taken greedily, the state is where that leads, and the tables of wants and of what holds are right.
-- Assumes nothing.
use mathlib.Core.Path.{◌≡◌, sym, ◌∙◌}
use mathlib.Core.List.{List}
use Prim.Native.Nat.{ℕ, zero, suc, ◌+◌, ◌*◌, ◌≤◌, ◌<◌}
use native.Mathlib.Omega.{arith}
use native.Mathlib.Decide.{dec_lt}
use lib.ListN.{length, get_or, take}
use lib.Seq.{get_or-take}
use Rattle.study.specs.Study.{Study}
use Rattle.lawful.specs.Lawful.{Lawful}
use Rattle.plans.specs.Plans.{State, value_of}
use Rattle.orders.specs.Orders.{In, None}
use Rattle.orders.proofs.Members.{takes_distinct, takes_members}
use Rattle.orders.proofs.Grown.{GreedySoFar, greedy_so_far_takes}
use Rattle.walks.specs.Walks.{Walk, OnAWalk, ComesBefore, var_of, pre_of}
use Rattle.walks.proofs.Unique.{walk_there, walk_var}
use Rattle.walks.proofs.Leads.{on_walk_usable}
use Rattle.walks.proofs.Along.{reached, reached_left, on_walk_lem}
use Rattle.walks.proofs.Straight.{Stands, Kept}
use Rattle.tracing.specs.Steps.{Rowed}
use Rattle.wanting.specs.Wanting.{wanted, StandAt}
use Rattle.opening.specs.Opening.{step_of}
use Rattle.choosing.specs.Choosing.{HeldRight}
use Rattle.taking.specs.Taking.{Prepared}
use Rattle.tracing.proofs.StepTable.{step_ahead, step_at_end}
use Rattle.taking.proofs.Holding.{deeds_stand}
use Rattle.taking.proofs.StillWanted.{Part}

-- `list` has all actions on walks, `taken` those that are taken
pub record Going (ranks file places manys steps wants state held : List ℕ) (list taken : List ℕ) (t : Study) : Type 0 where
  pub past : List State
  pub kept : Kept t (λ y. In y taken) (take (length t.tasks) state) past
  pub greedy : GreedySoFar (OnAWalk t) (ComesBefore t) (λ i. get_or ranks i 0) None taken
  pub counts : (u q : ℕ) → u < 32 → q < 16 → get_or wants (16 * u + q) 0 + wanted t taken u q ≡ wanted t list u q
  pub right : (v : ℕ) → v < length t.tasks → HeldRight file places manys steps state held v

-- i is the next action of v
pub record Ahead (t : Study) (taken state : List ℕ) (v i : ℕ) : Type 0 where
  pub on : OnAWalk t i
  pub var : var_of t i ≡ v
  pub pre : pre_of t i ≡ get_or state v 0
  pub free : In i taken → ⊥

reached_narrow : {t : Study} → Lawful t → {v : ℕ} {xs : List ℕ} → v < length t.tasks → Walk t v xs → (k : ℕ) → k ≤ length xs → reached t v xs k < 16
reached_narrow lawful there walk zero h =
    let has = lawful.has_start _ there in
    omega (arith, has.small, lawful.few_values _ has.there)
reached_narrow lawful there walk (suc k) h =
    let has = (lawful.action _ (walk_there walk k h)).has_post in
    omega (arith, has.small, lawful.few_values _ has.there)

module _ {file : List ℕ} {n a total : ℕ} {vars posts places manys steps wants₀ state₀ : List ℕ} {t : Study}
    (prep : Prepared file n a total vars posts places manys steps wants₀ state₀ t) where
  pub rows : Rowed t (length t.tasks) steps
  rows = rw prep.variables at prep.rowed

  pub action_stands : (i : ℕ) → OnAWalk t i → StandAt file (get_or places i 0) (get_or manys i 0) t i
  action_stands i on = deeds_stand prep.deeds i (on_walk_usable on).there

  module _ {ranks wants state held taken : List ℕ} (going : Going ranks file places manys steps wants state held prep.list taken t) where
    pub part : Part t taken
    part =
        let takes = greedy_so_far_takes (OnAWalk t) (ComesBefore t) (λ i. get_or ranks i 0) None taken going.greedy in
        record {
          once = takes_distinct (OnAWalk t) (ComesBefore t) None taken takes;
          only = takes_members (OnAWalk t) (ComesBefore t) None taken takes;
        }

    pub value_is : (v : ℕ) → v < length t.tasks → value_of (take (length t.tasks) state) v ≡ get_or state v 0
    value_is v h = get_or-take (length t.tasks) state v 0 h

    module _ (v : ℕ) (there : v < length t.tasks) where
      abbrev own : List ℕ
      own = (rows v there).0

      abbrev walk : Walk t v own
      walk = (rows v there).1.0

      abbrev stands : Stands t (λ y. In y taken) (take (length t.tasks) state) v own
      stands = going.kept.stands v there own walk

      stands_value : get_or state v 0 ≡ reached t v own stands.place
      stands_value = sym (value_is v there) ∙ stands.value

      pub narrow : get_or state v 0 < 16
      narrow = rw stands_value (reached_narrow prep.deeds.lawful there walk stands.place stands.within)

      pub ahead : (i : ℕ) → step_of steps state v ≡ i + 2 → Ahead t taken state v i
      ahead i is = go (dec_lt stands.place (length own))
        where
          go : Dec (stands.place < length own) → Ahead t taken state v i
          go (yes b) =
              let e = step_ahead rows prep.deeds.lawful there walk stands.place b in
              let same : get_or own stands.place 0 ≡ i = omega (arith, rw (← stands_value) at e) in
              rw (← same)
              record {
                on = on_walk_lem walk there stands.place b;
                var = walk_var walk stands.place b;
                pre = reached_left walk stands.place b ∙ sym stands_value;
                free = λ k. omega (arith, stands.undone stands.place b k);
              }
          go (no b) =
              let e = step_at_end rows prep.deeds.lawful there walk stands.place (omega (arith, stands.within)) in
              absurd (omega (arith, rw (← stands_value) at e))
