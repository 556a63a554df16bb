-- A record taken without fault: the counts and the numbers with its entry answer to the draft with it.
-- Assumes nothing.
use mathlib.Core.Path.{◌≡◌, refl, sym, ap, ◌∙◌}
use mathlib.Core.Bool.{Bool, ◌||◌}
use mathlib.Core.List.{List, []}
use Prim.Native.Nat.{ℕ, ◌-◌, ◌≤◌}
use native.Mathlib.Numerals.{add-one}
use native.Mathlib.Omega.{arith}
use lib.Dec.{eqb}
use lib.ListN.{length, set, length-set}
use borrow.Author.Tests.{le-leb}
use Rattle.bits.specs.Bits.{bit, marked}
use Rattle.bits.proofs.Words.{bit-marked}
use Rattle.study.specs.Study.{Action, no_action, always}
use Rattle.study.specs.Reading.{Draft, fault_in, with, drafted, variable, action, condition, task, seed, times, present, crew, manned, above, last_action, with_condition, within}
use Rattle.study.specs.Uses.{uses}
use Rattle.study.proofs.Uses.{uses_with_action, uses_with_condition, uses_with_times}
use Rattle.plain.proofs.Lists.{length_more}
use Rattle.lawful.proofs.Faults.{faultless_in}
use Rattle.advancing.specs.declared.Progress.{Progress}
use Rattle.advancing.specs.Steps.{after_variable, after_action, after_condition, after_task, after_seed, after_times, after_present, after_crew}
use Rattle.standing.specs.Reads.{Knows}
use Rattle.standing.proofs.Grows.{each_entered, table_more, last_more, last_set}
use Rattle.standing.proofs.OneCondition.{above_more}

module _ {p : Progress} {counts : List ℕ} {d : Draft} (knows : Knows p counts d) (next : ℕ) where
  pub variable_known :
      (n : ℕ)
      → fault_in d (variable n) ≡ 0
      → length counts ≡ 32
      → Knows (after_variable p next) (set counts p.vars n) (drafted d p.at 1 (variable n))
  unfolding with manned
  variable_known n good wide = let (few, low, high) = faultless_in d (variable n) good in record {
    situation = knows.situation;
    counts = record {
      count = omega (arith, length_more d.study.counts n);
      few = omega arith;
      small = each_entered (λ _ m. m ≤ 16) counts p.vars n (omega arith) knows.counts.small high;
      value = table_more d.study.counts n 0 (λ m. m) counts p.vars knows.counts.count (omega arith) knows.counts.value;
    };
    actions = knows.actions;
    tasks = knows.tasks;
    last = refl;
    own = knows.own;
    above = knows.above;
    used = knows.used;
    crews = knows.crews;
  }

  -- a variable put into the set, and used besides
  one_more_used :
      (v z : ℕ) {after : Bool} → after ≡ (eqb v z || uses d.study.actions z) → bit (marked p.used v) z ≡ after
  one_more_used v z is = bit-marked p.used v z ∙ rw (knows.used z) (sym is)

  pub action_known : (v x y : ℕ) → Knows (after_action p v next) counts (drafted d p.at 2 (action v x y))
  unfolding with manned above
  action_known v x y =
      record {
        situation = knows.situation;
        counts = knows.counts;
        actions = omega (arith, length_more d.study.actions new);
        tasks = knows.tasks;
        last = refl;
        own = sym (ap (λ a. a.var) last);
        above = λ z. rw (last, le-leb 0 z (omega arith));
        used = λ z. one_more_used v z (uses_with_action d.study v x y z);
        crews = knows.crews;
      }
    where
      new : Action
      new = record { var = v; pre = x; post = y; conditions = []; situations = always }

      last : last_action (with d.study (action v x y)) ≡ new
      last = last_more d.study.actions new no_action

  pub condition_known :
      (v q : ℕ)
      → 1 ≤ p.actions
      → Knows (after_condition p v next) counts (drafted d p.at 3 (condition v q))
  unfolding with manned
  condition_known v q some = record {
    situation = knows.situation;
    counts = knows.counts;
    actions = knows.actions ∙ sym (length-set d.study.actions (length d.study.actions - 1) (with_condition (last_action d.study) v q));
    tasks = knows.tasks;
    last = refl;
    own = knows.own ∙ sym (ap (λ a. a.var) last);
    above = λ z. rw (last, above_more (last_action d.study).conditions (record { var = v; value = q }) z, add-one);
    used = λ z. one_more_used v z (uses_with_condition d.study (omega arith) v q z);
    crews = knows.crews;
  }
    where
      last : last_action (with d.study (condition v q)) ≡ with_condition (last_action d.study) v q
      last = last_set d.study.actions (with_condition (last_action d.study) v q) no_action (omega arith)

  pub times_known : (n : ℕ) → 1 ≤ p.actions → Knows (after_times p next) counts (drafted d p.at 7 (times n))
  unfolding with manned
  times_known n some = record {
    situation = knows.situation;
    counts = knows.counts;
    actions = knows.actions ∙ sym (length-set d.study.actions (length d.study.actions - 1) (within (last_action d.study) n));
    tasks = knows.tasks;
    last = refl;
    own = knows.own ∙ sym (ap (λ a. a.var) last);
    above = λ z. rw last (knows.above z);
    used = λ z. knows.used z ∙ sym (uses_with_times d.study (omega arith) n z);
    crews = knows.crews;
  }
    where
      last : last_action (with d.study (times n)) ≡ within (last_action d.study) n
      last = last_set d.study.actions (within (last_action d.study) n) no_action (omega arith)

  pub task_known : (v x y : ℕ) → Knows (after_task p next) counts (drafted d p.at 4 (task v x y))
  unfolding with manned
  task_known v x y = record {
    situation = knows.situation;
    counts = knows.counts;
    actions = knows.actions;
    tasks = omega (arith, length_more d.study.tasks (record { start = x; goal = y }));
    last = refl;
    own = knows.own;
    above = knows.above;
    used = knows.used;
    crews = knows.crews;
  }

  pub seed_known : (n : ℕ) → Knows (after_seed p next) counts (drafted d p.at 5 (seed n))
  unfolding with manned
  seed_known n = record {
    situation = knows.situation;
    counts = knows.counts;
    actions = knows.actions;
    tasks = knows.tasks;
    last = refl;
    own = knows.own;
    above = knows.above;
    used = knows.used;
    crews = omega (arith, length_more d.crews (record { tasks = d.study.tasks; seed = n }), knows.crews);
  }

  pub present_known : (n : ℕ) → Knows (after_present p n next) counts (drafted d p.at 8 (present n))
  unfolding with manned
  present_known n = record {
    situation = refl;
    counts = knows.counts;
    actions = knows.actions;
    tasks = knows.tasks;
    last = refl;
    own = knows.own;
    above = knows.above;
    used = knows.used;
    crews = knows.crews;
  }

  pub crew_known : Knows (after_crew p next) counts (drafted d p.at 9 crew)
  unfolding with manned
  crew_known = record {
    situation = knows.situation;
    counts = knows.counts;
    actions = knows.actions;
    tasks = refl;
    last = refl;
    own = knows.own;
    above = knows.above;
    used = knows.used;
    crews = knows.crews;
  }
