-- `explaining::why_off` meets its contract: the condition, and the walk of its variable.
-- Assumes nothing.
use native.Mathlib.Omega.{arith}
use mathlib.Core.Path.{refl, ◌∙◌}
use Rattle.stages.proofs.Stages.{walks_rowed, known_walkable, known_walked}
use Rattle.explaining.proofs.Known.{few_variables, few_actions, known_start, known_stands, known_posts, known_row, off_there, off_variable_lem}
use Rattle.explaining.proofs.why_off.Goals as goal

pub walk_all-requires : goal.walk_all-requires
walk_all-requires c =
    let (t, x, known, walks, off) = c.requires.1 in
    (refl, known_walkable known)

pub action_at-act-requires : goal.action_at-act-requires
action_at-act-requires c =
    let (t, x, known, walks, off) = c.requires.1 in
    omega (arith, off_there off, few_actions known)

pub variable_at-var-requires : goal.variable_at-var-requires
variable_at-var-requires c =
    let (t, x, known, walks, off) = c.requires.1 in
    omega (arith, off_variable_lem off known.lawful, few_variables known)

pub overflow_cast-u : goal.overflow_cast-u
overflow_cast-u c =
    let (t, x, known, walks, off) = c.requires.1 in
    omega (arith, off_variable_lem off known.lawful, few_variables known)

pub wanted_value-value-requires : goal.wanted_value-value-requires
wanted_value-value-requires c =
    let (t, x, known, walks, off) = c.requires.1 in
    let row = c.action_at-act.ensures in
    (t, c.args.i, rw (row.place, row.many) (known_stands known _ (off_there off)))

pub overflow_cast-i : goal.overflow_cast-i
overflow_cast-i c =
    let (t, x, known, walks, off) = c.requires.1 in
    omega (arith, off_there off, few_actions known)

pub overflow_cast-u-2 : goal.overflow_cast-u-2
overflow_cast-u-2 c =
    let (t, x, known, walks, off) = c.requires.1 in
    omega (arith, off_variable_lem off known.lawful, few_variables known)

pub walk_past-requires : goal.walk_past-requires
walk_past-requires c =
    let (t, x, known, walks, off) = c.requires.1 in
    let there = off_variable_lem off known.lawful in
    let (list, (walk, row)) = known_row known (walks_rowed c.walk_all.result walks (known_walked known (c.walk_all.ensures.walks_all t))) _ there in (
      c.requires.0,
      (
        t,
        list,
        record { lawful = known.lawful; there = there; tells_post = known_posts known; walk = walk; row = row },
        c.variable_at-var.ensures.start ∙ known_start known _ there,
      ),
    )

pub returns : goal.returns
returns c =
    let row = c.action_at-act.ensures in record {
      upper_bound = c.walk_past.ensures.upper_bound;
      by_index = λ x t known walks off.
          let there = off_variable_lem off known.lawful in
          let (list, (walk, entered)) = known_row known (walks_rowed c.walk_all.result walks (known_walked known (c.walk_all.ensures.walks_all t))) _ there in
          let value = c.wanted_value-value.ensures t c.args.i (rw (row.place, row.many) (known_stands known _ (off_there off))) off.value off.wants_it in
          let told =
          c.walk_past.ensures.facts_after t list
          (record { lawful = known.lawful; there = there; tells_post = known_posts known; walk = walk; row = entered })
          (c.variable_at-var.ensures.start ∙ known_start known _ there) in
          (_, (record { value = off.value; wants_it = off.wants_it; list = list; walks = walk; told = refl }, rw value at told));
    }
