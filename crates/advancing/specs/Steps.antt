-- What one record does to the tables, and where the reading stands after it.
-- Assumes nothing.
use Rattle.std.specs.Prelude.{ℕ, ◌+◌, ◌/◌, ◌%◌, List, eqb, set}
use Rattle.plain.specs.Choose.{pick}
use Rattle.bits.specs.Bits.{bit, marked}
use Rattle.tables.specs.Tables.{ActionTables, action_tables}
use Rattle.advancing.specs.declared.Progress.{Progress}
use Rattle.advancing.specs.declared.Step.{Step}
use Rattle.advancing.specs.declared.Step.TheVariants.{On, Refused}

-- where the reading stands after each record

abbrev pub after_variable : Progress → ℕ → Progress
after_variable p next =
    record {
      at = next;
      situation = p.situation;
      vars = p.vars + 1;
      actions = p.actions;
      tasks = p.tasks;
      last = 1;
      own = p.own;
      above = p.above;
      many = p.many;
      crews = p.crews;
      used = p.used;
    }

abbrev pub after_action : Progress → ℕ → ℕ → Progress
after_action p v next =
    record {
      at = next;
      situation = p.situation;
      vars = p.vars;
      actions = p.actions + 1;
      tasks = p.tasks;
      last = 2;
      own = v;
      above = 0;
      many = 0;
      crews = p.crews;
      used = marked p.used v;
    }

abbrev pub after_condition : Progress → ℕ → ℕ → Progress
after_condition p v next =
    record {
      at = next;
      situation = p.situation;
      vars = p.vars;
      actions = p.actions;
      tasks = p.tasks;
      last = 3;
      own = p.own;
      above = v + 1;
      many = p.many + 1;
      crews = p.crews;
      used = marked p.used v;
    }

abbrev pub after_task : Progress → ℕ → Progress
after_task p next =
    record {
      at = next;
      situation = p.situation;
      vars = p.vars;
      actions = p.actions;
      tasks = p.tasks + 1;
      last = 4;
      own = p.own;
      above = p.above;
      many = p.many;
      crews = p.crews;
      used = p.used;
    }

abbrev pub after_seed : Progress → ℕ → Progress
after_seed p next =
    record {
      at = next;
      situation = p.situation;
      vars = p.vars;
      actions = p.actions;
      tasks = p.tasks;
      last = 5;
      own = p.own;
      above = p.above;
      many = p.many;
      crews = p.crews + 1;
      used = p.used;
    }

abbrev pub after_times : Progress → ℕ → Progress
after_times p next =
    record {
      at = next;
      situation = p.situation;
      vars = p.vars;
      actions = p.actions;
      tasks = p.tasks;
      last = 7;
      own = p.own;
      above = p.above;
      many = p.many;
      crews = p.crews;
      used = p.used;
    }

abbrev pub after_present : Progress → ℕ → ℕ → Progress
after_present p n next =
    record {
      at = next;
      situation = n;
      vars = p.vars;
      actions = p.actions;
      tasks = p.tasks;
      last = 8;
      own = p.own;
      above = p.above;
      many = p.many;
      crews = p.crews;
      used = p.used;
    }

abbrev pub after_crew : Progress → ℕ → Progress
after_crew p next =
    record {
      at = next;
      situation = p.situation;
      vars = p.vars;
      actions = p.actions;
      tasks = 0;
      last = 9;
      own = p.own;
      above = p.above;
      many = p.many;
      crews = p.crews;
      used = p.used;
    }

-- on, unless there is a fault
abbrev pub unless_fault : ℕ → Progress → Progress → Step
unless_fault f p after = pick (eqb f 0) (On after) (Refused f p.at)

-- a table with one entry more, unless there is a fault
abbrev pub stored : ℕ → List ℕ → ℕ → ℕ → List ℕ
stored f table i x = pick (eqb f 0) (set table i x) table

-- the tables of actions with one action more, unless there is a fault
abbrev pub stored_action : ℕ → ℕ → ℕ → ℕ → ℕ → ℕ → ActionTables → ActionTables
stored_action f i v p q next t =
    record {
      setters = t.setters;
      vars = stored f t.vars i v;
      pres = stored f t.pres i p;
      posts = stored f t.posts i q;
      places = stored f t.places i next;
      manys = stored f t.manys i 0;
      outs = stored f t.outs i 0;
    }

-- the tables of actions with the byte that tells how many conditions an action has, and 64 more where it is out of force
abbrev pub with_many : ActionTables → ℕ → ℕ → ActionTables
with_many t i byte =
    action_tables t.setters t.vars t.pres t.posts t.places (set t.manys i (byte % 64)) (set t.outs i (byte / 64))

-- .. unless there is a fault
abbrev pub stored_many : ℕ → ActionTables → ℕ → ℕ → ActionTables
stored_many f t i byte =
    action_tables t.setters t.vars t.pres t.posts t.places (stored f t.manys i (byte % 64)) (stored f t.outs i (byte / 64))

-- 64 where an action with such a set of situations is out of force
abbrev pub out_by_lem : ℕ → ℕ → ℕ
out_by_lem n situation = pick (bit n situation) 0 64
