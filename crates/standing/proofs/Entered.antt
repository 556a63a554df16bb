-- A record taken without fault: all the tables with its entry answer to the draft with it.
-- Assumes nothing.
use mathlib.Core.Path.{◌≡◌, refl, sym, ap, ◌∙◌}
use mathlib.Core.Bool.{Bool, true, false}
use mathlib.Core.List.{List, [], ◌∷◌, ◌++◌}
use Prim.Native.Nat.{ℕ, ◌+◌, ◌-◌, ◌*◌, ◌/◌, ◌%◌, ◌≤◌, ◌<◌}
use native.Mathlib.Omega.{arith}
use lib.Dec.{eqb}
use lib.ListN.{length, get_or, set, length-set, get_or-append}
use lib.Seq.{get_or-set_same, get_or_at}
use borrow.Author.Tests.{eq-eqb, ne_eqb}
use Rattle.plain.specs.Choose.{pick}
use Rattle.plain.proofs.Lists.{length_more}
use Rattle.bits.specs.Bits.{bit}
use Rattle.study.specs.Study.{Task, Crew, always, in_force, action_at, task_at, crew_at, no_task, no_crew}
use Rattle.study.specs.Reading.{Draft, fault_in, with, manned, placed, drafted, variable, action, condition, task, seed, times, present, crew, with_condition, within}
use Rattle.lawful.proofs.Faults.{faultless_in}
use Rattle.lawful.proofs.Order.{stage, stage_same}
use Rattle.standing.proofs.Grows.{each_next, each_entered, set_below, last_entered}
use Rattle.standing.proofs.Actions.{one_action, actions_more, action_changed}
use Rattle.standing.proofs.OneCondition.{conditions_more}
use Rattle.standing.proofs.Knowing.{variable_known, action_known, condition_known, times_known, task_known, seed_known, present_known, crew_known}
use Rattle.advancing.specs.declared.Progress.{Progress}
use Rattle.tables.specs.Tables.{Tables, tables, HoldsConditions, seed_at_lem, HoldsCrew, HoldsCrews}
use Rattle.advancing.specs.Steps.{after_variable, after_action, after_condition, after_task, after_seed, after_times, after_present, after_crew, with_many, out_by_lem}
use Rattle.standing.specs.Reads.{Behind, Stands}

-- what the row's byte tells, where it has the situation's part
out_by_tells : (b : Bool) {many : ℕ} → many ≤ 32 → (eqb ((many + pick b 0 64) / 64) 0 ≡ b) × ((many + pick b 0 64) % 64 ≡ many)
out_by_tells true {many} small = (eq-eqb ((many + 0) / 64) 0 (omega arith), omega arith)
out_by_tells false {many} small = (ne_eqb ((many + 64) / 64) 0 (λ e. omega (arith, e)), omega arith)

-- no task has been read
none_behind : {file : List ℕ} {at n : ℕ} {tasks : List Task} → n ≡ 0 → n ≡ length tasks → Behind file at n tasks
none_behind none same = record { count = same; room = omega arith; start = λ v h. absurd (omega arith); goal = λ v h. absurd (omega arith) }

-- no crew has been read, so nothing is said of how many variables there are
no_crew-held :
    {file begins : List ℕ} {n m count : ℕ} {crews : List Crew} → HoldsCrews file n count begins crews → count ≡ 0 → HoldsCrews file m count begins crews
no_crew-held held none = record { long = held.long; count_is = held.count_is; few = held.few; crew = λ c h. absurd (omega arith) }

module _ {file : List ℕ} {p : Progress} {t : Tables} {begins : List ℕ} {d : Draft} (stands : Stands file p t begins d) (next : ℕ) where
  pub variable_entered :
      (n : ℕ)
      → fault_in d (variable n) ≡ 0
      → stage p.last ≤ 1
      → Stands file (after_variable p next) (tables (set t.counts p.vars n) t.acts t.starts t.goals) begins (drafted d p.at 1 (variable n))
  unfolding with manned placed
  variable_entered n good early = record {
    knows = variable_known stands.knows next n good stands.sized.counts;
    sized = omega (arith, length-set t.counts p.vars n);
    actions = stands.actions;
    no_actions = λ h. absurd (omega arith);
    placed = stands.placed;
    places = stands.places;
    no_tasks = λ h. (stands.no_tasks (omega arith));
    tasks = λ h. none_behind (stands.no_tasks (omega arith)) stands.knows.tasks;
    no_crews = λ h. (stands.no_crews (omega arith));
    crews = no_crew-held stands.crews (stands.no_crews (omega arith));
    next-condition = λ h. absurd (omega arith);
    counted = λ h. absurd (omega arith);
    still_in = λ h. absurd (omega arith);
  }

  pub action_entered :
      (v x y : ℕ)
      → fault_in d (action v x y) ≡ 0
      → stage p.last ≤ 3
      → p.situation ≤ 7
      → next ≡ p.at + 4
      → next ≤ length file
      → Stands file (after_action p v next) (tables t.counts (one_action t.acts p.actions v x y next) t.starts t.goals) begins (drafted d p.at 2 (action v x y))
  unfolding with manned placed
  action_entered v x y good early known at room =
      let (few, has_pre, has_post, differ) = faultless_in d (action v x y) good in
      let narrow : y < 16 = omega (arith, stands.knows.counts.small v (omega arith), stands.knows.counts.value v (omega arith)) in
      record {
        knows = action_known stands.knows next v x y;
        sized = omega (
          arith,
          length-set t.acts.vars p.actions v,
          length-set t.acts.pres p.actions x,
          length-set t.acts.posts p.actions y,
          length-set t.acts.places p.actions next,
          length-set t.acts.manys p.actions 0,
          length-set t.acts.outs p.actions 0,
        );
        actions = actions_more stands.sized stands.actions v x y next (omega arith) (omega arith) narrow (omega (arith, stands.knows.situation)) room;
        no_actions = λ h. absurd (omega arith);
        placed = omega (arith, length_more d.places p.at, length_more d.study.actions (record { var = v; pre = x; post = y; conditions = []; situations = always }));
        places =
            each_entered (λ i z. z ≡ get_or (d.places ++ (p.at ∷ [])) i 0 + 4) t.acts.places p.actions next (omega arith)
            (λ i h. rw (get_or-append d.places (p.at ∷ []) 0 i (omega arith)) (stands.places i h))
            (rw (get_or_at d.places p.at [] 0 p.actions (omega arith)) at);
        no_tasks = λ h. (stands.no_tasks early);
        tasks = λ h. none_behind (stands.no_tasks early) stands.knows.tasks;
        no_crews = λ h. (stands.no_crews early);
        crews = stands.crews;
        next-condition = λ h g. omega (arith, last_entered t.acts.places p.actions next (omega arith));
        counted = λ h g. last_entered t.acts.manys p.actions 0 (omega arith);
        still_in = λ h g. last_entered t.acts.outs p.actions 0 (omega arith);
      }

  -- a record that changes the last action
  module _ (low : 2 ≤ p.last) (high : p.last ≤ 3) (some : 1 ≤ p.actions) (small : p.many ≤ 32) where
    early : stage p.last ≤ 3
    early = omega (arith, stage_same p.last (omega arith))

    last_conditions : HoldsConditions file (get_or t.acts.places (p.actions - 1) 0) p.many (action_at d.study.actions (p.actions - 1)).conditions
    last_conditions = rw (← stands.counted low high) (stands.actions.action (p.actions - 1) (omega arith)).conditions

    still_in_force : in_force d.study.situation (action_at d.study.actions (p.actions - 1)) ≡ true
    still_in_force = sym (stands.actions.action (p.actions - 1) (omega arith)).force ∙ rw (stands.still_in low high)

    same : p.actions - 1 ≡ length d.study.actions - 1
    same = omega (arith, stands.actions.count)

    pub condition_entered :
        (v q : ℕ)
        → next ≡ p.at + 3
        → next ≤ length file
        → get_or file (p.at + 1) 0 ≡ v
        → get_or file (p.at + 2) 0 ≡ q
        → Stands file (after_condition p v next)
        (tables t.counts (with_many t.acts (p.actions - 1) (p.many + 1)) t.starts t.goals)
        begins (drafted d p.at 3 (condition v q))
    unfolding with manned placed in_force
    condition_entered v q at room is_var is-value =
        let fits : (p.many + 1) % 64 ≡ p.many + 1 = omega arith in
        record {
          knows = condition_known stands.knows next v q some;
          sized = omega (arith, length-set t.acts.manys (p.actions - 1) ((p.many + 1) % 64), length-set t.acts.outs (p.actions - 1) ((p.many + 1) / 64));
          actions = rw (← same)
              (action_changed stands.sized stands.actions (p.actions - 1) (p.many + 1) (with_condition (action_at d.study.actions (p.actions - 1)) v q) (omega arith) refl refl refl
              (rw (eq-eqb ((p.many + 1) / 64) 0 (omega arith)) (sym still_in_force))
              (rw fits (conditions_more (record { var = v; value = q }) last_conditions (omega (arith, stands.next-condition low high)) (rw (stands.next-condition low high) is_var) (rw (stands.next-condition low high) is-value))));
          no_actions = λ h. absurd (omega arith);
          placed = stands.placed ∙ sym (length-set d.study.actions _ _);
          places = stands.places;
          no_tasks = λ h. (stands.no_tasks early);
          tasks = λ h. none_behind (stands.no_tasks early) stands.knows.tasks;
          no_crews = λ h. (stands.no_crews early);
          crews = stands.crews;
          next-condition = λ h g. omega (arith, stands.next-condition low high);
          counted = λ h g. get_or-set_same t.acts.manys (p.actions - 1) _ 0 (omega arith) ∙ omega arith;
          still_in = λ h g. get_or-set_same t.acts.outs (p.actions - 1) _ 0 (omega arith) ∙ omega arith;
        }

    pub times_entered :
        (n : ℕ)
        → Stands file (after_times p next)
        (tables t.counts (with_many t.acts (p.actions - 1) (p.many + out_by_lem n p.situation)) t.starts t.goals)
        begins (drafted d p.at 7 (times n))
    unfolding with manned placed in_force
    times_entered n =
        let tells = out_by_tells (bit n p.situation) small in
        record {
          knows = times_known stands.knows next n some;
          sized = omega (arith, length-set t.acts.manys (p.actions - 1) ((p.many + out_by_lem n p.situation) % 64), length-set t.acts.outs (p.actions - 1) ((p.many + out_by_lem n p.situation) / 64));
          actions = rw (← same)
              (action_changed stands.sized stands.actions (p.actions - 1) (p.many + out_by_lem n p.situation) (within (action_at d.study.actions (p.actions - 1)) n) (omega arith) refl refl refl
              (tells.0 ∙ ap (bit n) stands.knows.situation)
              (rw tells.1 last_conditions));
          no_actions = λ h. absurd (omega arith);
          placed = stands.placed ∙ sym (length-set d.study.actions _ _);
          places = stands.places;
          no_tasks = λ h. (stands.no_tasks early);
          tasks = λ h. none_behind (stands.no_tasks early) stands.knows.tasks;
          no_crews = λ h. (stands.no_crews early);
          crews = stands.crews;
          next-condition = λ h g. absurd (omega arith);
          counted = λ h g. absurd (omega arith);
          still_in = λ h g. absurd (omega arith);
        }

  pub task_entered :
      (v x y : ℕ)
      → fault_in d (task v x y) ≡ 0
      → stage p.last ≤ 4
      → next ≡ p.at + 4
      → get_or file (p.at + 2) 0 ≡ x
      → get_or file (p.at + 3) 0 ≡ y
      → Stands file (after_task p next) t begins (drafted d p.at 4 (task v x y))
  unfolding with manned placed
  task_entered v x y good early at is-start is-goal = record {
    knows = task_known stands.knows next v x y;
    sized = stands.sized;
    actions = stands.actions;
    no_actions = λ h. absurd (omega arith);
    placed = stands.placed;
    places = stands.places;
    no_tasks = λ h. absurd (omega arith);
    tasks = λ h. record {
      count = omega (arith, length_more old new, before.count);
      room = omega (arith, before.room);
      start = each_next (λ u. get_or file (next - 4 * (p.tasks + 1) + 4 * u + 2) 0 ≡ (task_at (old ++ (new ∷ [])) u).start) p.tasks
          (λ u h. rw (same_place u 2, get_or-append old (new ∷ []) no_task u (omega (arith, before.count))) (before.start u h))
          (rw (same_place p.tasks 2, here 2, get_or_at old new [] no_task p.tasks (sym before.count)) is-start);
      goal = each_next (λ u. get_or file (next - 4 * (p.tasks + 1) + 4 * u + 3) 0 ≡ (task_at (old ++ (new ∷ [])) u).goal) p.tasks
          (λ u h. rw (same_place u 3, get_or-append old (new ∷ []) no_task u (omega (arith, before.count))) (before.goal u h))
          (rw (same_place p.tasks 3, here 3, get_or_at old new [] no_task p.tasks (sym before.count)) is-goal);
    };
    no_crews = λ h. absurd (omega arith);
    crews = stands.crews;
    next-condition = λ h g. absurd (omega arith);
    counted = λ h g. absurd (omega arith);
    still_in = λ h g. absurd (omega arith);
  }
    where
      old : List Task
      old = d.study.tasks

      new : Task
      new = record { start = x; goal = y }

      before : Behind file p.at p.tasks old
      before = stands.tasks (λ e. omega (arith, ap stage e))

      same_place : (u k : ℕ) → next - 4 * (p.tasks + 1) + 4 * u + k ≡ p.at - 4 * p.tasks + 4 * u + k
      same_place u k = omega (arith, before.room)

      here : (k : ℕ) → p.at - 4 * p.tasks + 4 * p.tasks + k ≡ p.at + k
      here k = omega (arith, before.room)

  pub seed_entered :
      (n : ℕ)
      → p.last ≡ 4
      → p.tasks ≡ p.vars
      → p.crews < 8
      → p.at + 5 ≤ length file
      → n ≡ seed_at_lem file p.at
      → Stands file (after_seed p next) t (set begins p.crews (p.at - 4 * p.tasks)) (drafted d p.at 5 (seed n))
  unfolding with manned placed
  seed_entered n last all room whole is-seed = record {
    knows = seed_known stands.knows next n;
    sized = stands.sized;
    actions = stands.actions;
    no_actions = λ h. absurd (omega arith);
    placed = stands.placed;
    places = stands.places;
    no_tasks = λ h. absurd (omega arith);
    tasks = λ h. absurd (h refl);
    no_crews = λ h. absurd (omega arith);
    crews = record {
      long = length-set begins p.crews first ∙ stands.crews.long;
      count_is = omega (arith, length_more d.crews new, stands.crews.count_is);
      few = omega arith;
      crew = each_next (λ c. HoldsCrew file (get_or (set begins p.crews first) c 0) p.vars (crew_at (d.crews ++ (new ∷ [])) c)) p.crews
          (λ c h. rw (set_below begins p.crews c first 0 h, get_or-append d.crews (new ∷ []) no_crew c (omega (arith, stands.crews.count_is))) (stands.crews.crew c h))
          (rw (get_or-set_same begins p.crews first 0 (omega (arith, stands.crews.long)), get_or_at d.crews new [] no_crew p.crews (sym stands.crews.count_is)) held);
    };
    next-condition = λ h g. absurd (omega arith);
    counted = λ h g. absurd (omega arith);
    still_in = λ h g. absurd (omega arith);
  }
    where
      before : Behind file p.at p.tasks d.study.tasks
      before = stands.tasks (λ e. omega arith)

      first : ℕ
      first = p.at - 4 * p.tasks

      new : Crew
      new = record { tasks = d.study.tasks; seed = n }

      end : first + 4 * p.vars ≡ p.at
      end = omega (arith, before.room)

      held : HoldsCrew file first p.vars new
      held = record {
        count = omega (arith, before.count);
        room = omega (arith, before.room);
        start = λ v h. before.start v (omega arith);
        goal = λ v h. before.goal v (omega arith);
        seed = rw end (sym is-seed);
      }

  pub crew_entered : Stands file (after_crew p next) t begins (drafted d p.at 9 crew)
  unfolding with manned placed
  crew_entered = record {
    knows = crew_known stands.knows next;
    sized = stands.sized;
    actions = stands.actions;
    no_actions = λ h. absurd (omega arith);
    placed = stands.placed;
    places = stands.places;
    no_tasks = λ h. refl;
    tasks = λ h. none_behind refl refl;
    no_crews = λ h. absurd (omega arith);
    crews = stands.crews;
    next-condition = λ h g. absurd (omega arith);
    counted = λ h g. absurd (omega arith);
    still_in = λ h g. absurd (omega arith);
  }

  pub present_entered : (n : ℕ) → p.last ≡ 0 → Stands file (after_present p n next) t begins (drafted d p.at 8 (present n))
  unfolding with manned placed
  present_entered n first = record {
    knows = present_known stands.knows next n;
    sized = stands.sized;
    actions = record {
      count = stands.actions.count;
      few = stands.actions.few;
      action = λ i h. absurd (omega (arith, stands.no_actions first));
    };
    no_actions = λ h. absurd (omega arith);
    placed = stands.placed;
    places = stands.places;
    no_tasks = λ h. (stands.no_tasks (omega (arith, ap stage first)));
    tasks = λ h. none_behind (stands.no_tasks (omega (arith, ap stage first))) stands.knows.tasks;
    no_crews = λ h. (stands.no_crews (omega (arith, ap stage first)));
    crews = stands.crews;
    next-condition = λ h g. absurd (omega arith);
    counted = λ h g. absurd (omega arith);
    still_in = λ h g. absurd (omega arith);
  }
