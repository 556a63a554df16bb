-- The test of a row of the table, and the law that turns it into what the row says, for any row.
-- Assumes nothing.
use Prim.Native.Nat.{ℕ}
use mathlib.Core.Path.{◌≡◌, refl, sym, ◌∙◌}
use mathlib.Core.Bool.{Bool, ◌&&◌}
use mathlib.Core.List.{List}
use lib.Dec.{T, eqb}
use lib.ListN.{length}
use Rattle.answer.specs.declared.Answer.{Answer}
use Rattle.draw.specs.Draw.{draw_answer, draw_leaves}
use Rattle.study.specs.Reading.{reading_for}
use Rattle.lawful.proofs.Loads.{hearing_lawful}
use Rattle.runs.specs.Run.{ran, run_answer, run_leaves}
use Rattle.planning.proofs.Determined.{file_plans_determined}
use Rattle.worked.specs.Table.{Call, draw, plan, run, Allows, Row, answers, straight_plans_lem, Holds}
use Rattle.reference.proofs.Tests.{Says, so, says_same, says_equal, says_both, alike, says_alike}
use Rattle.reference.proofs.Reference.{Outcome, gives, planned_file, planned_file_allowed}
use Rattle.worked.proofs.Straights.{straight_plans_in, straight_plans_in_file}

-- ---- tests that two are equal

abbrev same_bytes : List ℕ → List ℕ → Bool
same_bytes = alike eqb

says_same_bytes : (xs ys : List ℕ) → Says (xs ≡ ys) (same_bytes xs ys)
says_same_bytes = says_alike says_equal

abbrev same_answer : Answer → Answer → Bool
same_answer a b = eqb a.number b.number && (eqb a.first b.first && eqb a.second b.second)

says_same_answer : (a b : Answer) → Says (a ≡ b) (same_answer a b)
says_same_answer a b =
    says_same (λ (d, (e, f)). λ i. record { number = d i; first = e i; second = f i }) (λ e. (cc, (cc, cc)))
    (says_both (says_equal a.number b.number) (says_both (says_equal a.first b.first) (says_equal a.second b.second)))

-- ---- what a call gives

unfoldable pub outcome : Call → List ℕ → Outcome
outcome (draw seed count) before = gives (draw_answer seed count (length before)) (draw_leaves seed count before)
outcome (plan file ranks) before = planned_file (reading_for file 0) ranks before
outcome (run file list) before =
    gives (run_answer (ran (reading_for file 0) (length before) list)) (run_leaves (ran (reading_for file 0) (length before) list) before)

outcome_allowed : (call : Call) (before : List ℕ) → Allows call before (outcome call before).answer (outcome call before).bytes
unfolding outcome
outcome_allowed (draw seed count) before = (refl, refl)
outcome_allowed (plan file ranks) before = planned_file_allowed (reading_for file 0) (hearing_lawful file 0) ranks before
outcome_allowed (run file list) before = (refl, refl)

allowed_determined :
    (call : Call) (before : List ℕ) {r r' : Answer} {bytes bytes' : List ℕ}
    → Allows call before r bytes → Allows call before r' bytes' → (r ≡ r') × (bytes ≡ bytes')
allowed_determined (draw seed count) before a b = (a.0 ∙ sym b.0, a.1 ∙ sym b.1)
allowed_determined (plan file ranks) before a b = file_plans_determined file 0 ranks before a b
allowed_determined (run file list) before a b = (a.0 ∙ sym b.0, a.1 ∙ sym b.1)

-- ---- the test of a row, and the law

unfoldable pub test : Row → Bool
test (answers call before answer after) = same_answer (outcome call before).answer answer && same_bytes (outcome call before).bytes after
test (straight_plans_lem file lists) = alike same_bytes (straight_plans_in (reading_for file 0)) lists

pub test_holds : (row : Row) → T (test row) → Holds row
unfolding test
test_holds (answers call before answer after) h =
    let (e, f) = so (says_both (says_same_answer (outcome call before).answer answer) (says_same_bytes (outcome call before).bytes after)) h in
    let allowed : Allows call before answer after = rw (e, f) at (outcome_allowed call before) in
    record { allowed = allowed; only = λ r bytes a. allowed_determined call before a allowed }
test_holds (straight_plans_lem file lists) h = λ list.
    let e = so (says_alike says_same_bytes (straight_plans_in (reading_for file 0)) lists) h in
    rw e at (straight_plans_in_file (reading_for file 0) (hearing_lawful file 0) list)
