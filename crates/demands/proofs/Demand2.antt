-- Demand 2, the list in the buffer is run: what planning leaves in the buffer with answer 0, run on the same file for the same crew, is answered 0, and the state then left is the goal.
-- Assumes nothing.
use Prim.Native.Nat.{ℕ, ◌≤◌}
use native.Mathlib.Omega.{arith}
use mathlib.Core.Path.{◌≡◌, refl, ap, ◌∙◌}
use mathlib.Core.List.{List}
use lib.ListN.{length, take}
use lib.Seq.{take_at}
use Rattle.answer.specs.declared.Answer.{Answer}
use Rattle.answer.specs.Answers.{done}
use Rattle.study.specs.Study.{Study}
use Rattle.study.specs.Reading.{Said, says, refused, reading_for}
use Rattle.study.proofs.Refusals.{NumberedIfHeard, heard_some, refusals_heard}
use Rattle.lawful.specs.Lawful.{Lawful}
use Rattle.lawful.proofs.Loads.{heard_lawful}
use Rattle.plans.specs.Plans.{start_state, Reached, StraightPlan}
use Rattle.plans.proofs.States.{start-length}
use Rattle.plans.proofs.Running.{runs_length}
use Rattle.runs.specs.Run.{RunAllows}
use Rattle.runs.proofs.Answers.{straight_ends, straight_answer}
use Rattle.planning.specs.Planning.{PlansFile, PlanAllows}
use Rattle.planning.specs.Seeded.{seed_ranks, SeededAllows}
use Rattle.planning.proofs.Exact.{answer_0_is_first}
use Rattle.demands.specs.Words.{LoadsFor}

-- ---- a straight plan that is run

module _
    (file : List ℕ) (crew : ℕ) (t : Study) (loads : LoadsFor file crew t) (list : List ℕ) (straight : StraightPlan t list)
    (state : List ℕ) (room : length t.counts ≤ length state) (answer : Answer) (left : List ℕ) (allowed : RunAllows file crew list state answer left)
  where
    lawful : Lawful t
    lawful = heard_lawful file crew t loads

    long : length straight.plan.end ≡ length t.counts
    long = runs_length t (start_state t) list straight.plan.end straight.plan.runs ∙ start-length t ∙ lawful.a_task_each

    -- it is answered 0 with the number of variables
    pub straight_plan_is_answered_0 : answer ≡ done (length t.counts) 0
    straight_plan_is_answered_0 = (rw loads at allowed).0 ∙ straight_answer t (length state) list room lawful straight

    -- .. and the state left in the first bytes is the goal
    pub straight_plan_leaves_the_goal : Reached t (take (length t.counts) left)
    straight_plan_leaves_the_goal =
        rw ((rw loads at allowed).1, straight_ends t (length state) list room straight, take_at straight.plan.end _ (length t.counts) long)
        straight.plan.reached

-- ---- where planning answers 0 the file loads and has the crew, and what is left is a straight plan

record Left (file : List ℕ) (crew : ℕ) (after : List ℕ) (r : Answer) : Type 0 where
  study : Study
  loads : LoadsFor file crew study
  straight : StraightPlan study (take r.first after)

said_left :
    (file : List ℕ) (crew : ℕ) (said : Said Study) → reading_for file crew ≡ said → NumberedIfHeard said
    → (ranks before : List ℕ) (r : Answer) (after : List ℕ) → PlansFile said ranks before r after → r.number ≡ 0 → Left file crew after r
said_left file crew (says t) e n ranks before r after p z = record { study = t; loads = e; straight = (answer_0_is_first p z).straight }
said_left file crew (refused number place) e n ranks before r after p z =
    absurd (omega (arith, ap (λ (a : Answer). a.number) p.0, heard_some n))

left_is_run :
    {file : List ℕ} {crew : ℕ} {after : List ℕ} {r : Answer} → Left file crew after r
    → (state : List ℕ) → 32 ≤ length state
    → (answer : Answer) (left : List ℕ) → RunAllows file crew (take r.first after) state answer left → answer.number ≡ 0
left_is_run {file} {crew} {after} {r} l state room answer left q =
    let room' : length l.study.counts ≤ length state = omega (arith, (heard_lawful file crew l.study l.loads).few_variables) in
    ap (λ (a : Answer). a.number)
    (straight_plan_is_answered_0 file crew l.study l.loads (take r.first after) l.straight state room' answer left q)

-- ---- the theorems: a file was planned for a crew and answered 0; 32 bytes are room for the end state of any file

pub planned_list_is_run :
    (file : List ℕ) (crew : ℕ) (ranks before : List ℕ) (r : Answer) (after : List ℕ) → PlanAllows file crew ranks before r after → r.number ≡ 0
    → (state : List ℕ) → 32 ≤ length state
    → (answer : Answer) (left : List ℕ) → RunAllows file crew (take r.first after) state answer left → answer.number ≡ 0
planned_list_is_run file crew ranks before r after p z =
    left_is_run (said_left file crew (reading_for file crew) refl (refusals_heard file crew) ranks before r after p z)

pub seeded_list_is_run :
    (file : List ℕ) (crew : ℕ) (before : List ℕ) (r : Answer) (after : List ℕ) → SeededAllows file crew before r after → r.number ≡ 0
    → (state : List ℕ) → 32 ≤ length state
    → (answer : Answer) (left : List ℕ) → RunAllows file crew (take r.first after) state answer left → answer.number ≡ 0
seeded_list_is_run file crew = planned_list_is_run file crew (seed_ranks (reading_for file crew))
