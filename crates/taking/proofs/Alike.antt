-- Between the steps, what looks ready by the tables is ready, and what is ready looks so.
-- Assumes nothing.
use mathlib.Core.Path.{◌≡◌, sym, ap, ◌∙◌}
use mathlib.Core.List.{List}
use Prim.Native.Nat.{ℕ, ◌+◌, ◌*◌, ◌≤◌, ◌<◌}
use native.Mathlib.Omega.{arith}
use lib.ListN.{length, get_or}
use Rattle.study.specs.Study.{Study}
use Rattle.orders.specs.Orders.{In, Ready}
use Rattle.orders.proofs.Lists.{in_decided}
use Rattle.walks.specs.Walks.{OnAWalk, ComesBefore, next, sets, leaves, var_of, pre_of, post_of, conditions_of, Wants}
use Rattle.walks.proofs.Leads.{on_walk_usable}
use Rattle.walks.proofs.Wanted.{wanted_there}
use Rattle.walks.proofs.Straight.{own_value, wanted_met}
use Rattle.wanting.specs.Wanting.{wanted}
use Rattle.choosing.specs.Choosing.{LooksReady}
use Rattle.taking.specs.Taking.{Prepared}
use Rattle.tracing.proofs.StepTable.{on_walk_step}
use Rattle.taking.proofs.Holding.{hold_all_wanted, wanted_all_hold}
use Rattle.taking.proofs.StillWanted.{none_left, all_taken}
use Rattle.taking.proofs.Between.{Going, Ahead, rows, action_stands, part, value_is, narrow, ahead}

module _ {file : List ℕ} {n a total : ℕ} {vars posts places manys steps wants₀ state₀ : List ℕ} {t : Study}
    (prep : Prepared file n a total vars posts places manys steps wants₀ state₀ t)
    {ranks wants state held taken : List ℕ} (going : Going ranks file places manys steps wants state held prep.list taken t) where
  abbrev pub ReadyNow : ℕ → Type 0
  ReadyNow i = Ready (OnAWalk t) (ComesBefore t) (λ y. In y taken) i

  pub few_tasks : length t.tasks ≤ 32
  few_tasks = omega (arith, prep.deeds.lawful.a_task_each, prep.deeds.lawful.few_variables)

  -- an action on a walk whose value is set is taken
  set_taken : (z : ℕ) → OnAWalk t z → get_or state (var_of t z) 0 ≡ post_of t z → In z taken
  set_taken z on e = go (in_decided z taken)
    where
      go : Dec (In z taken) → In z taken
      go (yes h) = h
      go (no free) = absurd ((going.kept.fresh z on free).0 (value_is prep going (var_of t z) on.there ∙ e))

  module _ {v i : ℕ} (there : v < length t.tasks) (looks : LooksReady file places manys steps wants state v i) where
    abbrev here : Ahead t taken state v i
    here = ahead prep going v there i looks.next

    all_wanted_taken : wanted t taken (var_of t i) (pre_of t i) ≡ wanted t prep.list (var_of t i) (pre_of t i)
    all_wanted_taken =
        rw (here.var, here.pre)
        (omega (arith, looks.unwanted, going.counts v (get_or state v 0) (omega (arith, few_tasks)) (narrow prep going v there)))

    before_taken : (y : ℕ) → OnAWalk t y → ComesBefore t y i → In y taken
    before_taken y on (next e f) = set_taken y on (ap (λ (u : ℕ). get_or state u 0) (e ∙ here.var) ∙ sym here.pre ∙ sym f)
    before_taken y on (sets w) = set_taken y on (hold_all_wanted (action_stands prep i here.on) state looks.hold (var_of t y) (post_of t y) w)
    before_taken y on (leaves w) = none_left t (var_of t i) (pre_of t i) prep.members (part prep going) all_wanted_taken y on w

    pub looks_so_is : ReadyNow i
    looks_so_is = record { is_member = here.on; not_taken = here.free; all_before = before_taken }

  module _ {i : ℕ} (ready : ReadyNow i) where
    own_there : var_of t i < length t.tasks
    own_there = ready.is_member.there

    pub state_is : get_or state (var_of t i) 0 ≡ pre_of t i
    state_is = sym (value_is prep going (var_of t i) own_there) ∙ own_value going.kept ready

    wanted_holds : (u q : ℕ) → Wants (conditions_of t i) u q → get_or state u 0 ≡ q
    wanted_holds u q w =
        let has = wanted_there (prep.deeds.lawful.action i (on_walk_usable ready.is_member).there).conditions u q w in
        sym (value_is prep going u (omega (arith, has, prep.deeds.lawful.a_task_each)))
        ∙ wanted_met going.kept ready prep.deeds.lawful prep.met u q w

    none_wanted : get_or wants (16 * var_of t i + pre_of t i) 0 ≡ 0
    none_wanted =
        omega (
          arith,
          going.counts (var_of t i) (pre_of t i) (omega (arith, few_tasks)) (rw (← state_is) (narrow prep going (var_of t i) own_there)),
          all_taken t (var_of t i) (pre_of t i) prep.members (part prep going) (λ x on w. ready.all_before x on (leaves w)),
        )

    pub is_so_looks : LooksReady file places manys steps wants state (var_of t i) i
    is_so_looks = record {
      next = rw state_is (on_walk_step (rows prep) prep.deeds.lawful ready.is_member);
      unwanted = rw state_is none_wanted;
      hold = wanted_all_hold (action_stands prep i ready.is_member) state wanted_holds;
    }
