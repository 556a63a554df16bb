-- What was loaded is all that a run or a replay needs, and a table of 32 entries can hold the start.
-- Assumes nothing.
use mathlib.Core.Path.{◌≡◌, sym, ◌∙◌}
use mathlib.Core.List.{List}
use Prim.Native.Nat.{ℕ, ◌≤◌, ◌<◌}
use native.Mathlib.Omega.{arith}
use lib.Seq.{get_or-take, length-take-le, ext_get_or}
use lib.ListN.{length}
use Rattle.study.specs.Study.{Study, action_at}
use Rattle.study.specs.Reading.{says, reading_for}
use Rattle.lawful.specs.Lawful.{Lawful}
use Rattle.lawful.proofs.Loads.{heard_lawful}
use Rattle.plans.specs.Plans.{start_state}
use Rattle.plans.proofs.States.{start_value, start-length}
use Rattle.tables.specs.Tables.{Holds}
use Rattle.tables.specs.Rows.{Row, start_column, OpensAction, Begins, seen_all}
use Rattle.tables.specs.declared.Act.{Act}
use Rattle.barring.specs.Telling.{Tells, Prepared, shown}

module _
    {file : List ℕ} (crew : ℕ) {n actions x : ℕ} {t : Study} (acts vars : List Row) {setters : List ℕ}
    (says_so : reading_for file crew ≡ says t) (holds : Holds file n actions x (seen_all acts vars setters) t)
  where
    lawful : Lawful t
    lawful = heard_lawful file crew t says_so

    row_tells : (i : ℕ) {act : Act} → i < actions → OpensAction acts i act → Tells file act (action_at t.actions i)
    row_tells i h opens =
        let held = holds.actions.action i h in
        let a = lawful.action i (omega (arith, holds.actions.count)) in
        record {
          var = opens.var ∙ held.var;
          pre = opens.pre ∙ held.pre;
          post = opens.post ∙ held.post;
          conditions = rw (opens.place, opens.many) held.conditions;
          small = omega (arith, a.has_pre.there, lawful.few_variables);
          smalls = λ k g. omega (arith, (a.conditions.has k g).there, lawful.few_variables);
        }

    pub prepared : Prepared file n actions acts vars t
    prepared =
        record {
          ready = record { lawful = lawful; count = holds.actions.count; action = row_tells; force = λ i h. (holds.actions.action i h).force };
          counted = holds.counts.count;
          tasks = holds.tasks;
        }

module _
    {file : List ℕ} {n actions : ℕ} {acts vars : List Row} {t : Study}
    (prepared : Prepared file n actions acts vars t)
  where
    pub few : n ≤ 32
    few = omega (arith, prepared.counted, prepared.ready.lawful.few_variables)

    -- the table holds the starts
    pub starts_shown : {first : List ℕ} → Begins n (start_column vars) first → shown t first ≡ start_state t
    starts_shown {first} begins =
        let law = prepared.ready.lawful in
        let long = length-take-le (length t.counts) first (omega (arith, begins.long, law.few_variables)) in
        ext_get_or 0 (shown t first) (start_state t) (omega (arith, long, start-length t, law.a_task_each))
        (λ v h.
        let there : v < n = omega (arith, long, h, prepared.counted) in
        get_or-take (length t.counts) first v 0 (omega (arith, long, h))
        ∙ begins.start v there ∙ prepared.tasks.start v there ∙ sym (start_value t v))
