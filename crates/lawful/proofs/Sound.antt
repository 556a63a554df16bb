-- Every draft met while reading is sound: what has been read is lawful as far as it goes, and nothing has been read that is to come later.
-- Assumes nothing.
use mathlib.Core.Path.{◌≡◌, refl, sym, ap, ◌∙◌, subst}
use mathlib.Core.Logic.{◌≢◌}
use mathlib.Core.Option.{none}
use mathlib.Core.List.{List, [], ◌∷◌, ◌++◌}
use Prim.Native.Nat.{ℕ, suc, ◌-◌, ◌≤◌, ◌<◌}
use native.Mathlib.Omega.{arith}
use native.Mathlib.Decide.{dec_lt}
use lib.ListN.{length, get_or, set, length-set}
use lib.Seq.{get_or_at}
use borrow.Author.Tests.{ltb-true, ltb-false}
use Rattle.plain.proofs.Lists.{length_more, each_more, each_set, set_keeps}
use Rattle.study.specs.Study.{Action, Task, Crew, Roster, Study, always, action_at, task_at, crew_at, study_of, no_action, no_task, no_crew}
use Rattle.study.specs.Reading.{Record, variable, action, condition, task, seed, times, present, crew, Draft, blank, tasks_left, first_repeat, last_action, with_condition, with, manned, drafted, roster_of}
use Rattle.study.specs.Uses.{first_unused}
use Rattle.study.proofs.Repeats.{none_repeats}
use Rattle.study.proofs.Uses.{none_unused}
use Rattle.lawful.specs.Lawful.{Has, LawfulAction, LawfulCrew, PostUnique, Lawful, LawfulRoster}
use Rattle.lawful.proofs.Order.{stage, stage_same, Follows}
use Rattle.lawful.proofs.Faults.{FaultlessIn}
use Rattle.lawful.proofs.Grown.{has_more, action_more, with-condition, with_situations}

pub record SoundCounts (counts : List ℕ) : Type 0 where
  pub few : length counts ≤ 32
  pub some_values : (v : ℕ) → v < length counts → 2 ≤ get_or counts v 0
  pub few_values : (v : ℕ) → v < length counts → get_or counts v 0 ≤ 16

pub record SoundActions (counts : List ℕ) (actions : List Action) : Type 0 where
  pub few : length actions ≤ 256
  pub each : (i : ℕ) → i < length actions → LawfulAction counts (action_at actions i)

pub record SoundTasks (counts : List ℕ) (tasks : List Task) : Type 0 where
  pub few : length tasks ≤ length counts
  pub has_start : (v : ℕ) → v < length tasks → Has counts v (task_at tasks v).start
  pub has_goal : (v : ℕ) → v < length tasks → Has counts v (task_at tasks v).goal

pub record Complete (s : Study) : Type 0 where
  pub a_task_each : length s.tasks ≡ length s.counts
  pub seed_low : 1 ≤ s.seed
  pub seed_high : s.seed ≤ 2147483646

pub record SoundCrews (counts : List ℕ) (crews : List Crew) : Type 0 where
  pub few : length crews ≤ 8
  pub each : (c : ℕ) → c < length crews → LawfulCrew counts (crew_at crews c)

pub record Sound (d : Draft) : Type 0 where
  pub situation : d.study.situation ≤ 7
  pub counts : SoundCounts d.study.counts
  pub actions : SoundActions d.study.counts d.study.actions
  pub tasks : SoundTasks d.study.counts d.study.tasks
  pub nothing_yet : d.last ≡ 0 → d.study ≡ blank.study
  pub some_variable : 1 ≤ stage d.last → 1 ≤ length d.study.counts
  pub no_actions : stage d.last ≤ 1 → d.study.actions ≡ []
  pub some_action : 2 ≤ d.last → d.last ≤ 3 → 1 ≤ length d.study.actions
  pub still_always : 2 ≤ d.last → d.last ≤ 3 → (last_action d.study).situations ≡ always
  pub no_tasks : stage d.last ≤ 3 → d.study.tasks ≡ []
  pub complete : d.last ≡ 5 → Complete d.study
  pub crews : SoundCrews d.study.counts d.crews
  pub no_crews : stage d.last ≤ 3 → d.crews ≡ []
  pub some_crew : d.last ≡ 5 → 1 ≤ length d.crews
  pub room_for_one : d.last ≢ 5 → length d.crews < 8

no_crew_sound : {counts : List ℕ} {crews : List Crew} → crews ≡ [] → SoundCrews counts crews
no_crew_sound {counts} e = subst (SoundCrews counts) (sym e) (record { few = omega arith; each = λ c h. absurd (omega arith) })

pub blank_sound : Sound blank
blank_sound = record {
  situation = omega arith;
  counts = record { few = omega arith; some_values = λ v h. absurd (omega arith); few_values = λ v h. absurd (omega arith) };
  actions = record { few = omega arith; each = λ i h. absurd (omega arith) };
  tasks = record { few = omega arith; has_start = λ v h. absurd (omega arith); has_goal = λ v h. absurd (omega arith) };
  nothing_yet = λ _. refl;
  some_variable = λ h. absurd (omega arith);
  no_actions = λ _. refl;
  some_action = λ h. absurd (omega arith);
  still_always = λ h. absurd (omega arith);
  no_tasks = λ _. refl;
  complete = λ h. absurd (omega arith);
  crews = no_crew_sound refl;
  no_crews = λ _. refl;
  some_crew = λ h. absurd (omega arith);
  room_for_one = λ h. omega arith;
}

module _ {d : Draft} (sound : Sound d) (at kind : ℕ) where
  abbrev Extends : Record → Type 0
  Extends r = Follows (tasks_left d.study) d.last kind r → FaultlessIn d r → Sound (drafted d at kind r)

  pub variable_sound : (n : ℕ) → Extends (variable n)
  unfolding with manned
  variable_sound n (is, early) (few, low, high) = record {
    situation = sound.situation;
    counts = record {
      few = omega (arith, one_more);
      some_values = each_more (λ _ m. 2 ≤ m) old n 0 sound.counts.some_values low;
      few_values = each_more (λ _ m. m ≤ 16) old n 0 sound.counts.few_values high;
    };
    actions = record { few = sound.actions.few; each = λ i h. action_more old n (sound.actions.each i h) };
    tasks = record {
      few = omega (arith, one_more, sound.tasks.few);
      has_start = λ v h. has_more old n (sound.tasks.has_start v h);
      has_goal = λ v h. has_more old n (sound.tasks.has_goal v h);
    };
    nothing_yet = λ e. absurd (omega arith);
    some_variable = λ h. omega (arith, one_more);
    no_actions = λ h. sound.no_actions early;
    some_action = λ h. absurd (omega arith);
    still_always = λ h. absurd (omega arith);
    no_tasks = λ h. sound.no_tasks (omega arith);
    complete = λ h. absurd (omega arith);
    crews = no_crew_sound (sound.no_crews (omega arith));
    no_crews = λ h. sound.no_crews (omega arith);
    some_crew = λ h. absurd (omega arith);
    room_for_one = λ h. omega (arith, ap length (sound.no_crews (omega arith)));
  }
    where
      old : List ℕ
      old = d.study.counts

      one_more : length (old ++ (n ∷ [])) ≡ suc (length old)
      one_more = length_more old n

  pub action_sound : (v p q : ℕ) → Extends (action v p q)
  unfolding with manned
  action_sound v p q (is, low, high) (few, has_pre, has_post, differ) = record {
    situation = sound.situation;
    counts = sound.counts;
    actions = record {
      few = omega (arith, one_more);
      each = each_more (λ _ a. LawfulAction d.study.counts a) old new no_action sound.actions.each lawful;
    };
    tasks = sound.tasks;
    nothing_yet = λ e. absurd (omega arith);
    some_variable = λ h. sound.some_variable low;
    no_actions = λ h. absurd (omega (arith, ap stage is));
    some_action = λ h g. omega (arith, one_more);
    still_always = λ h g. ap (λ (a : Action). a.situations) (get_or_at old new [] no_action _ (omega (arith, one_more)));
    no_tasks = λ h. sound.no_tasks high;
    complete = λ h. absurd (omega arith);
    crews = sound.crews;
    no_crews = λ h. sound.no_crews high;
    some_crew = λ h. absurd (omega arith);
    room_for_one = λ h. omega (arith, ap length (sound.no_crews high));
  }
    where
      old : List Action
      old = d.study.actions

      new : Action
      new = record { var = v; pre = p; post = q; conditions = []; situations = always }

      one_more : length (old ++ (new ∷ [])) ≡ suc (length old)
      one_more = length_more old new

      lawful : LawfulAction d.study.counts new
      lawful = record {
        has_pre = has_pre;
        has_post = has_post;
        changes = differ;
        conditions = record { has = λ k h. absurd (omega arith); other = λ k h. absurd (omega arith); rising = λ k h. absurd (omega arith) };
      }

  -- the last action, and the actions with another in its place
  abbrev newest : ℕ
  newest = length d.study.actions - 1

  newest_lawful : 2 ≤ d.last → d.last ≤ 3 → LawfulAction d.study.counts (last_action d.study)
  newest_lawful low high = sound.actions.each newest (omega (arith, sound.some_action low high))

  changed_sound : {a : Action} → LawfulAction d.study.counts a → SoundActions d.study.counts (set d.study.actions newest a)
  changed_sound {a} lawful = record {
    few = omega (arith, length-set d.study.actions newest a, sound.actions.few);
    each = each_set (LawfulAction d.study.counts) d.study.actions newest a no_action sound.actions.each lawful;
  }

  pub condition_sound : (v q : ℕ) → Extends (condition v q)
  unfolding with manned
  condition_sound v q (is, low, high) (has, other, rises) = record {
    situation = sound.situation;
    counts = sound.counts;
    actions = changed_sound (with-condition (newest_lawful low high) has other rises);
    tasks = sound.tasks;
    nothing_yet = λ e. absurd (omega arith);
    some_variable = λ h. sound.some_variable (omega (arith, stage_same d.last (omega arith)));
    no_actions = λ h. absurd (omega (arith, ap stage is));
    some_action = λ h g. omega (arith, same_length, sound.some_action low high);
    still_always = λ h g. rw same_length (set_keeps (λ (a : Action). a.situations) old newest new no_action refl newest ∙ sound.still_always low high);
    no_tasks = λ h. sound.no_tasks (omega (arith, stage_same d.last (omega arith)));
    complete = λ h. absurd (omega arith);
    crews = sound.crews;
    no_crews = λ h. sound.no_crews (omega (arith, stage_same d.last (omega arith)));
    some_crew = λ h. absurd (omega arith);
    room_for_one = λ h. sound.room_for_one (λ e. omega arith);
  }
    where
      old : List Action
      old = d.study.actions

      new : Action
      new = with_condition (last_action d.study) v q

      same_length : length (set old newest new) ≡ length old
      same_length = length-set old newest new

  pub times_sound : (n : ℕ) → Extends (times n)
  unfolding with manned
  times_sound n (is, low, high) differ = record {
    situation = sound.situation;
    counts = sound.counts;
    actions = changed_sound (with_situations n (newest_lawful low high));
    tasks = sound.tasks;
    nothing_yet = λ e. absurd (omega arith);
    some_variable = λ h. sound.some_variable (omega (arith, stage_same d.last (omega arith)));
    no_actions = λ h. absurd (omega (arith, ap stage is));
    some_action = λ h g. absurd (omega arith);
    still_always = λ h g. absurd (omega arith);
    no_tasks = λ h. sound.no_tasks (omega (arith, stage_same d.last (omega arith)));
    complete = λ h. absurd (omega arith);
    crews = sound.crews;
    no_crews = λ h. sound.no_crews (omega (arith, stage_same d.last (omega arith)));
    some_crew = λ h. absurd (omega arith);
    room_for_one = λ h. sound.room_for_one (λ e. omega arith);
  }

  pub task_sound : (v p q : ℕ) → Extends (task v p q)
  unfolding with manned
  task_sound v p q (is, low, high, left) (next, has_start, has_goal) = record {
    situation = sound.situation;
    counts = sound.counts;
    actions = sound.actions;
    tasks = record {
      few = omega (arith, length_more old new, ltb-true (length old) (length d.study.counts) left);
      has_start = each_more (λ u t. Has d.study.counts u t.start) old new no_task sound.tasks.has_start (rw next at has_start);
      has_goal = each_more (λ u t. Has d.study.counts u t.goal) old new no_task sound.tasks.has_goal (rw next at has_goal);
    };
    nothing_yet = λ e. absurd (omega arith);
    some_variable = λ h. sound.some_variable low;
    no_actions = λ h. absurd (omega (arith, ap stage is));
    some_action = λ h g. absurd (omega arith);
    still_always = λ h g. absurd (omega arith);
    no_tasks = λ h. absurd (omega (arith, ap stage is));
    complete = λ h. absurd (omega arith);
    crews = sound.crews;
    no_crews = λ h. absurd (omega (arith, ap stage is));
    some_crew = λ h. absurd (omega arith);
    room_for_one = λ h. sound.room_for_one (λ e. omega (arith, ap stage e));
  }
    where
      old : List Task
      old = d.study.tasks

      new : Task
      new = record { start = p; goal = q }

  pub seed_sound : (n : ℕ) → Extends (seed n)
  unfolding with manned
  seed_sound n (is, last, left) (low, high) = record {
    situation = sound.situation;
    counts = sound.counts;
    actions = sound.actions;
    tasks = sound.tasks;
    nothing_yet = λ e. absurd (omega arith);
    some_variable = λ h. sound.some_variable (omega (arith, ap stage last));
    no_actions = λ h. absurd (omega (arith, ap stage is));
    some_action = λ h g. absurd (omega arith);
    still_always = λ h g. absurd (omega arith);
    no_tasks = λ h. absurd (omega (arith, ap stage is));
    complete = λ h. record {
      a_task_each = omega (arith, sound.tasks.few, ltb-false (length d.study.tasks) (length d.study.counts) left);
      seed_low = low;
      seed_high = high;
    };
    crews = record {
      few = omega (arith, length_more d.crews new, sound.room_for_one (λ e. omega arith));
      each = each_more (λ _ k. LawfulCrew d.study.counts k) d.crews new no_crew sound.crews.each lawful;
    };
    no_crews = λ h. absurd (omega (arith, ap stage is));
    some_crew = λ h. omega (arith, length_more d.crews (record { tasks = d.study.tasks; seed = n }));
    room_for_one = λ h. absurd (h is);
  }
    where
      new : Crew
      new = record { tasks = d.study.tasks; seed = n }

      lawful : LawfulCrew d.study.counts new
      lawful = record {
        a_task_each = omega (arith, sound.tasks.few, ltb-false (length d.study.tasks) (length d.study.counts) left);
        has_start = sound.tasks.has_start;
        has_goal = sound.tasks.has_goal;
        seed_low = low;
        seed_high = high;
      }

  pub crew_sound : Extends crew
  unfolding with manned
  crew_sound (is, last) few = record {
    situation = sound.situation;
    counts = sound.counts;
    actions = sound.actions;
    tasks = record { few = omega arith; has_start = λ v h. absurd (omega arith); has_goal = λ v h. absurd (omega arith) };
    nothing_yet = λ e. absurd (omega arith);
    some_variable = λ h. sound.some_variable (omega (arith, ap stage last));
    no_actions = λ h. absurd (omega (arith, ap stage is));
    some_action = λ h g. absurd (omega arith);
    still_always = λ h g. absurd (omega arith);
    no_tasks = λ h. refl;
    complete = λ h. absurd (omega arith);
    crews = sound.crews;
    no_crews = λ h. absurd (omega (arith, ap stage is));
    some_crew = λ h. absurd (omega arith);
    room_for_one = λ h. few;
  }

  pub present_sound : (n : ℕ) → Extends (present n)
  unfolding with manned
  present_sound n (is, first) (few, differ) = record {
    situation = few;
    counts = sound.counts;
    actions = sound.actions;
    tasks = sound.tasks;
    nothing_yet = λ e. absurd (omega arith);
    some_variable = λ h. absurd (omega (arith, ap stage is));
    no_actions = λ h. sound.no_actions (omega (arith, ap stage first));
    some_action = λ h g. absurd (omega arith);
    still_always = λ h g. absurd (omega arith);
    no_tasks = λ h. sound.no_tasks (omega (arith, ap stage first));
    complete = λ h. absurd (omega arith);
    crews = no_crew_sound (sound.no_crews (omega (arith, ap stage first)));
    no_crews = λ h. sound.no_crews (omega (arith, ap stage first));
    some_crew = λ h. absurd (omega arith);
    room_for_one = λ h. sound.room_for_one (λ e. omega arith);
  }

-- where nothing repeats, no two set the same
none_repeats_unique : (s : Study) → first_repeat s ≡ none → PostUnique s.situation s.actions
none_repeats_unique s e i j hi hj fi fj v p = from (dec_lt i j) (dec_lt j i)
  where
    from : Dec (i < j) → Dec (j < i) → i ≡ j
    from (yes less) _ =
        absurd (none_repeats s.situation e j (record { there = hj; in_force_lem = fj; earlier = i; before = less; earlier_in_force = fi; same_var = v; same_post = p }))
    from (no _) (yes more) =
        absurd (none_repeats s.situation e i (record { there = hi; in_force_lem = fi; earlier = j; before = more; earlier_in_force = fj; same_var = sym v; same_post = sym p }))
    from (no less) (no more) = omega (arith, less, more)

pub end_lawful :
    {d : Draft} → Sound d → d.last ≡ 5 → first_repeat d.study ≡ none → first_unused d.study ≡ none → LawfulRoster (roster_of d)
end_lawful {d} sound last none-repeated all_used = record {
  situation = sound.situation;
  some_variable = sound.some_variable (omega (arith, ap stage last));
  few_variables = sound.counts.few;
  some_values = sound.counts.some_values;
  few_values = sound.counts.few_values;
  few_actions = sound.actions.few;
  action = sound.actions.each;
  post_unique = none_repeats_unique d.study none-repeated;
  used = none_unused d.study all_used;
  some_crew = sound.some_crew last;
  few_crews = sound.crews.few;
  crew = sound.crews.each;
}

-- the study of a crew of a lawful roster
pub crew_lawful : {r : Roster} → LawfulRoster r → (c : ℕ) → c < length r.crews → Lawful (study_of r (crew_at r.crews c))
crew_lawful {r} lawful c there =
    let k = lawful.crew c there in
    record {
      situation = lawful.situation;
      some_variable = lawful.some_variable;
      few_variables = lawful.few_variables;
      some_values = lawful.some_values;
      few_values = lawful.few_values;
      few_actions = lawful.few_actions;
      action = lawful.action;
      post_unique = lawful.post_unique;
      used = lawful.used;
      a_task_each = k.a_task_each;
      has_start = k.has_start;
      has_goal = k.has_goal;
      seed_low = k.seed_low;
      seed_high = k.seed_high;
    }
