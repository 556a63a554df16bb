-- The whole run on what was loaded: how it begins, and the ways it ends.
-- Assumes nothing.
use mathlib.Core.Path.{◌≡◌, refl, sym, ◌∙◌}
use mathlib.Core.List.{List, [], ◌++◌}
use Prim.Native.Nat.{ℕ, ◌≤◌, ◌<◌}
use native.Mathlib.Omega.{arith}
use lib.ListN.{length, take, drop}
use lib.Seq.{length-take-le}
use Rattle.std.specs.Prelude.{None, Some, Ok, Err}
use Rattle.answer.specs.Answers.{done, refusal}
use Rattle.answer.specs.declared.Answer.{Answer}
use Rattle.study.specs.Study.{Study}
use Rattle.study.specs.Reading.{says, refused, reading_for}
use Rattle.plans.specs.Plans.{start_state}
use Rattle.tables.specs.Rows.{Row, start_column, Begins}
use Rattle.runs.specs.Run.{stops, Failing, none, fails, away, at_goal, ran, run_on, RunAllows}
use Rattle.runs.proofs.Answers.{ran-short, ran_fits}
use Rattle.barring.specs.Telling.{Prepared, shown}
use Rattle.barring.proofs.Loaded.{few, starts_shown}
use Rattle.stepping.specs.Stepping.{Small, Went}
use Rattle.finishing.specs.Finishing.{Ends, fails_of}
use Rattle.finishing.proofs.Goals.{away-shown}

pub file_refused :
    (file : List ℕ) (crew : ℕ) (plan before : List ℕ) {answer : Answer} {number place : ℕ}
    → reading_for file crew ≡ refused number place → answer ≡ refusal number place → RunAllows file crew plan before answer before
unfolding ran
file_refused file crew plan before e given = rw e (given, refl)

is_at : (f : Failing) (v : ℕ) → Some v ≡ fails_of f → f ≡ fails v
is_at none v e = cc
is_at (fails w) v e = cc

is_nowhere : (f : Failing) → None ≡ fails_of f → f ≡ none
is_nowhere none e = refl
is_nowhere (fails w) e = cc

module _
    {file : List ℕ} {n actions : ℕ} {acts vars : List Row} {t : Study}
    (prepared : Prepared file n actions acts vars t)
  where
    -- the table holds the starts
    module _ {first : List ℕ} (begins : Begins n (start_column vars) first) where
      pub small_starts : Small n first
      small_starts =
          let law = prepared.ready.lawful in
          record {
            few = few prepared;
            value =
                λ v h.
                let has = law.has_start v (omega (arith, prepared.tasks.count)) in
                omega (arith, begins.start v h, prepared.tasks.start v h, has.small, law.few_values v has.there);
          }

      module _ (plan : List ℕ) where
        pub stopped : {answer : Answer} → run_on t [] (shown t first) 0 plan ≡ stops answer → run_on t [] (start_state t) 0 plan ≡ stops answer
        stopped went = rw (starts_shown prepared begins) at went

        module _ (table : List ℕ) (went : Went t plan first table (Ok tt)) where
          ran_to : (f : Failing) → away table 0 t.tasks ≡ f → run_on t [] (start_state t) 0 plan ≡ at_goal (shown t table) f
          ran_to f e =
              (rw (starts_shown prepared begins) at went.0)
              ∙ (rw (away-shown (length t.counts) table 0 t.tasks (omega (arith, prepared.ready.lawful.a_task_each)), e))

          pub off_goal : {v : ℕ} → Some v ≡ fails_of (away table 0 t.tasks) → Ends t plan table (Err (refusal 17 v))
          off_goal {v} e = ran_to (fails v) (is_at _ v e)

          pub at_goal_lem : None ≡ fails_of (away table 0 t.tasks) → Ends t plan table (Ok tt)
          at_goal_lem e = (ran_to none (is_nowhere _ e), went.1)

    module _ (crew : ℕ) (says_so : reading_for file crew ≡ says t) (plan before : List ℕ) where
      pub room_too_short : {answer : Answer} → length before < n → answer ≡ refusal 13 n → RunAllows file crew plan before answer before
      room_too_short h given = rw (says_so, ran-short t (length before) plan (omega (arith, prepared.counted)), ← prepared.counted) (given, refl)

      -- the buffer is long enough
      module _ (enough : n ≤ length before) where
        ran_is : ran (reading_for file crew) (length before) plan ≡ run_on t [] (start_state t) 0 plan
        ran_is = rw says_so (ran_fits t (length before) plan (omega (arith, prepared.counted)))

        pub left_alone : {answer : Answer} → run_on t [] (start_state t) 0 plan ≡ stops answer → RunAllows file crew plan before answer before
        left_alone ends = rw (ran_is, ends) (refl, refl)

        pub handed_over :
            (table : List ℕ) → Ends t plan table (Ok tt) → {answer : Answer} → answer ≡ done n 0
            → {after : List ℕ} → after ≡ take n table ++ drop n before → RunAllows file crew plan before answer after
        handed_over table (comes, table-long) given copied =
            let fits : n ≤ length table = omega (arith, table-long, few prepared) in
            let long : length (shown t table) ≡ n = length-take-le (length t.counts) table (omega (arith, fits, prepared.counted)) ∙ sym prepared.counted in
            rw (ran_is, comes, long, ← prepared.counted) (given, copied)
