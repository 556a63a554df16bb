-- From what is loaded to what the stages ask, and from what they ensure to what planning a file for a crew answers.
-- Assumes nothing.
use mathlib.Core.Path.{◌≡◌, sym, subst, ◌∙◌}
use mathlib.Core.List.{List}
use Prim.Native.Nat.{ℕ}
use lib.ListN.{length}
use Rattle.answer.specs.declared.Answer.{Answer}
use Rattle.study.specs.Study.{Study}
use Rattle.study.specs.Reading.{says, reading_for}
use Rattle.lawful.proofs.Loads.{heard_lawful}
use Rattle.tables.specs.Tables.{Tables, Holds}
use Rattle.draw.specs.Draw.{drawn}
use Rattle.planning.specs.Planning.{Plans}
use Rattle.planning.specs.Seeded.{PlansSeeded}
use Rattle.stages.specs.Whole.{Known}

-- what is loaded is known
pub loaded_known :
    {file : List ℕ} (crew : ℕ) {n a x : ℕ} {tables : Tables} {t : Study}
    → reading_for file crew ≡ says t → Holds file n a x tables t → Known file n a x tables.acts tables.starts tables.goals t
loaded_known {file} crew {t = t} said holds =
    let lawful = heard_lawful file crew t said in
    record {
      lawful = lawful;
      variables = holds.counts.count ∙ sym lawful.a_task_each;
      actions = holds.actions;
      setters = holds.setters;
      tasks = holds.tasks;
      seed = holds.seed;
    }

pub seeded_plans :
    (file : List ℕ) (crew : ℕ) {t : Study} {x a : ℕ} {before after : List ℕ} {r : Answer}
    → reading_for file crew ≡ says t → x ≡ t.seed → a ≡ length t.actions
    → Plans t (drawn x a) before r after → PlansSeeded (reading_for file crew) before r after
seeded_plans file crew {t} {x} {a} {before} {after} {r} said seed actions p =
    rw said
    (subst (λ (k : ℕ). Plans t (drawn k (length t.actions)) before r after) seed
    (subst (λ (k : ℕ). Plans t (drawn x k) before r after) actions p))
