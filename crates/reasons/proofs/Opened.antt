-- What is known of a step and of the values that it leaves and wants: how large they are, and the one reason that is told of each.
-- Assumes nothing.
use mathlib.Core.Path.{◌≡◌, refl, sym, ap, ◌∙◌}
use mathlib.Core.Logic.{◌≢◌}
use mathlib.Core.List.{List, [], ◌∷◌, ◌++◌, append_assoc, map-append}
use Prim.Native.Nat.{ℕ, ◌+◌, ◌*◌, ◌<◌}
use native.Mathlib.Omega.{arith}
use lib.ListN.{length, get_or}
use borrow.Author.Tests.{eq-eqb, ne_eqb}
use Rattle.study.specs.Study.{Study}
use Rattle.walks.specs.Walks.{var_of, pre_of, start_of}
use Rattle.walks.proofs.Traces.{setter_of_usable}
use Rattle.facts.specs.declared.Fact.{Fact as FactRow}
use Rattle.facts.specs.declared.Fact.TheVariants.{After}
use Rattle.facts.specs.declared.Rule.TheVariants.{Next}
use Rattle.tables.specs.declared.Act.{Act}
use Rattle.tracing.proofs.Ranges.{pre_small}
use Rattle.tracing.proofs.Setters.{names_usable}
use Rattle.wanting.specs.Wanting.{StandAt}
use Rattle.explained.specs.Facts.{Fact, Rule, next, after, row_of, rows_of}
use Rattle.explained.specs.Reasons.{set_reason}
use Rattle.explained.specs.Wanters.{Sets}
use Rattle.reasons.specs.Known.{SetIn, Reasonable, Step}

-- rows that stand behind others, by the facts that they tell
pub one_behind_another :
    (a b c : List Fact) {first second third : List FactRow} → first ≡ rows_of a → second ≡ first ++ rows_of b → third ≡ second ++ rows_of c
    → third ≡ rows_of (a ++ (b ++ c))
one_behind_another a b c e f g =
    rw (g, f, e, map-append row_of a (b ++ c), map-append row_of b c) (append_assoc (rows_of a) (rows_of b) (rows_of c))

module _
    {firsts setters : List ℕ} {sets : Sets} {places : List ℕ} {t : Study} {plan : List ℕ}
    (known : Reasonable firsts setters sets places t plan) where
  -- a value that is the start, as the table tells it, has no reason
  pub start_untold : (r : Rule) {v q : ℕ} → v < length t.tasks → q ≡ get_or firsts v 0 → set_reason t plan r v q ≡ []
  start_untold r {v} {q} there e = rw (eq-eqb q (start_of t v) (e ∙ known.starts v there))

  -- another has the action that the table of setters names, at the step that the table of places tells
  pub setter_told :
      (r : Rule) {v q i : ℕ} → v < length t.tasks → q ≢ get_or firsts v 0 → (q ≢ start_of t v → SetIn t plan v q)
      → i ≡ get_or setters (16 * v + q) 0
      → set_reason t plan r v q ≡ after r (get_or places i 0) i v q ∷ []
  setter_told r {v} {q} {i} there off set is =
      let away : q ≢ start_of t v = λ e. off (e ∙ sym (known.starts v there)) in
      let s = set away in
      let e : i ≡ s.by = is ∙ names_usable setters refl known.names s.by s.usable s.var s.post in
      rw (
        ne_eqb q (start_of t v) away,
        setter_of_usable known.lawful s.by s.usable s.var s.post,
        e,
        known.placed s.by s.in_plan,
      )

  module _ {file : List ℕ} {act : Act} {j : ℕ} (step : Step file act t plan j) where
    pub var_there : var_of t j < length t.tasks
    var_there = omega (arith, (known.lawful.action j step.there).has_pre.there, known.lawful.a_task_each)

    pub var_low : act.var < 32
    var_low = omega (arith, var_there, step.is_var, known.lawful.a_task_each, known.lawful.few_variables)

    pub pre_narrow : act.pre < 16
    pre_narrow = omega (arith, pre_small known.lawful j step.there, step.is_pre)

    pub stand_there : StandAt file act.place act.many t j
    stand_there = record { lawful = known.lawful; there = step.there; holds = step.conditions }

    -- rule (a), with the variable as it is read
    module _ {x : ℕ} (is_var : x ≡ act.var) where
      pub next_untold : act.pre ≡ get_or firsts x 0 → set_reason t plan next (var_of t j) (pre_of t j) ≡ []
      next_untold e = start_untold next var_there (sym step.is_pre ∙ (rw (is_var, step.is_var) at e))

      -- .. with the action that the table of setters names, and where its place is looked up
      pub next_told :
          {y i m : ℕ} {rows : List FactRow} → y ≡ act.pre → act.pre ≢ get_or firsts x 0 → i ≡ get_or setters (16 * x + y) 0 → m ≡ i
          → rows ≡ After Next (get_or places m 0) i act.var act.pre ∷ []
          → rows ≡ rows_of (set_reason t plan next (var_of t j) (pre_of t j))
      next_told {i = i} is_pre off is is_m told =
          let reason =
          setter_told next var_there (rw (is_var, step.is_var, step.is_pre) at off) step.set_left
          (rw (is_var, is_pre, step.is_var, step.is_pre) at is) in
          rw (told, is_m, step.is_var, step.is_pre) (ap rows_of (sym reason))
