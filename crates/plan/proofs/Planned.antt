-- Where planning answers 0: the file says a study to the crew, the plan has 256 steps at most, and each is an action of the study. And what the tables show of it.
-- Assumes nothing.
use mathlib.Core.Path.{◌≡◌, refl, sym, ap, ◌∙◌}
use mathlib.Core.List.{List, [], ◌∷◌, ◌++◌}
use Prim.Native.Nat.{ℕ, zero, suc, ◌≤◌, ◌<◌}
use native.Mathlib.Omega.{arith}
use lib.ListN.{length, get_or, take, drop, replicate}
use lib.Seq.{take-append_seam}
use borrow.Author.Tests.{eq-eqb}
use Rattle.std.specs.Prelude.{Result, Ok, Err}
use Rattle.answer.specs.declared.Answer.{Answer}
use Rattle.answer.specs.declared.Refusal.{Refusal}
use Rattle.study.specs.Study.{Action, Study, action_at}
use Rattle.study.specs.Reading.{Said, says, refused, reading_for}
use Rattle.study.proofs.Refusals.{NumberedIfHeard, heard_some, refusals_heard}
use Rattle.plans.specs.Plans.{State, Runs, after}
use Rattle.planning.specs.Planning.{Plans, wrong_length, wrong_entry, no_walk, off_walk_lem, ring, no_room, a_plan}
use Rattle.planning.specs.Seeded.{PlansSeeded}
use Rattle.tables.specs.Tables.{Tables, Holds, Loads}
use Rattle.tables.specs.declared.Loaded.{Loaded}
use Rattle.telling.specs.Text.{shown_of, shown_in, plan_text, first_line}
use Rattle.plan.specs.Printed.{actions_of, Printed}
use Rattle.telling.proofs.Shown.{Agree, lines_agree}

runs_usable :
    (t : Study) (s end : State) (list : List ℕ) → Runs t s list end → (k : ℕ) → k < length list → get_or list k 0 < length t.actions
runs_usable t s end [] r k h = absurd (omega arith)
runs_usable t s end (i ∷ rest) r zero h = r.0.there
runs_usable t s end (i ∷ rest) r (suc k) h = runs_usable t (after s (action_at t.actions i)) end rest r.2 k (omega arith)

pub record Planned (said : Said Study) (r : Answer) (buffer : List ℕ) : Type 0 where
  pub study : Study
  pub its : said ≡ says study
  pub few : r.first ≤ 256
  pub usable : (k : ℕ) → k < r.first → get_or (take r.first buffer) k 0 < length study.actions

plans_planned :
    {t : Study} {ranks before buffer : List ℕ} {r : Answer}
    → Plans t ranks before r buffer → length before ≡ 256 → r.number ≡ 0 → Planned (says t) r buffer
plans_planned (wrong_length _) l e = absurd (omega arith)
plans_planned (wrong_entry _) l e = absurd (omega arith)
plans_planned (no_walk _ _) l e = absurd (omega arith)
plans_planned (off_walk_lem _ _ _) l e = absurd (omega arith)
plans_planned (ring _ _ _ _ _) l e = absurd (omega arith)
plans_planned (no_room _ _ _) l e = absurd (omega arith)
plans_planned {t} {before = before} (a_plan {list} _ p fits) l e =
    record {
      study = t;
      its = refl;
      few = omega arith;
      usable = λ k h. rw (take-append_seam list (drop (length list) before)) (runs_usable t _ p.straight.plan.end list p.straight.plan.runs k h);
    }

said_planned :
    (said : Said Study) {r : Answer} {buffer : List ℕ}
    → NumberedIfHeard said → PlansSeeded said (replicate 256 0) r buffer → r.number ≡ 0 → Planned said r buffer
said_planned (says t) n p e = plans_planned p refl e
said_planned (refused number place) n p e = absurd (omega (arith, ap (λ (a : Answer). a.number) p.0, heard_some n))

pub planned :
    (file : List ℕ) (crew : ℕ) {r : Answer} {buffer : List ℕ}
    → PlansSeeded (reading_for file crew) (replicate 256 0) r buffer → r.number ≡ 0 → Planned (reading_for file crew) r buffer
planned file crew p e = said_planned (reading_for file crew) (refusals_heard file crew) p e

pub printed_plan :
    {said : Said Study} {r : Answer} {buffer text : List ℕ}
    → PlansSeeded said (replicate 256 0) r buffer → r.number ≡ 0 → (p : Planned said r buffer)
    → text ≡ plan_text (shown_of p.study.actions) (take r.first buffer) → Printed said text
printed_plan {said} {r} {buffer} plans e p told =
    let same : p.study.actions ≡ actions_of said = ap actions_of (sym p.its) in
    record {
      answer = r;
      buffer = buffer;
      plans = plans;
      told = rw (eq-eqb r.number 0 e) (told ∙ ap (λ (a : List Action). plan_text (shown_of a) (take r.first buffer)) same);
    }

-- what was loaded shows each action as the study has it
held_agree :
    {file : List ℕ} {nv na x : ℕ} {t : Study} (tables : Tables) → Holds file nv na x tables t
    → (a : ℕ) → a < length t.actions → Agree (shown_in tables.acts.vars tables.acts.pres tables.acts.posts) (shown_of t.actions) a
held_agree tables holds a h =
    let action = holds.actions.action a (omega (arith, holds.actions.count)) in
    record { var = action.var; pre = action.pre; post = action.post }

loaded_agree :
    (file : List ℕ) (crew : ℕ) (t : Study) (tables : Tables) (found : Result Loaded Refusal) → Loads file crew tables found → reading_for file crew ≡ says t
    → (a : ℕ) → a < length t.actions → Agree (shown_in tables.acts.vars tables.acts.pres tables.acts.posts) (shown_of t.actions) a
loaded_agree file crew t tables (Ok loaded) (s, said, holds) e =
    let same : s ≡ t = cc in held_agree tables (rw same at holds)
loaded_agree file crew t tables (Err refusal) said e = absurd (let z : ◌≡◌ {A = ℕ} 0 1 = cc in omega arith)

pub loaded_text :
    (file : List ℕ) (crew : ℕ) (list : List ℕ) (t : Study) (tables : Tables) (found : Result Loaded Refusal) {text : List ℕ}
    → Loads file crew tables found → reading_for file crew ≡ says t
    → ((k : ℕ) → k < length list → get_or list k 0 < length t.actions)
    → text ≡ plan_text (shown_in tables.acts.vars tables.acts.pres tables.acts.posts) list
    → text ≡ plan_text (shown_of t.actions) list
loaded_text file crew list t tables found loads said usable e =
    e
    ∙ ap (λ (l : List ℕ). first_line (length list) ++ l)
    (lines_agree _ _ 0 list (λ k h. loaded_agree file crew t tables found loads said (get_or list k 0) (usable k h)))
