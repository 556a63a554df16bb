-- What the theorems on crews speak of: two files that agree on what a crew of each sees, calls that are answered alike, calls that are all refused with one answer, and a crew alone in its file.
-- Assumes nothing.
use Rattle.std.specs.Prelude.{◌≡◌, ◌↔◌, List, [], ◌∷◌, ℕ, ◌<◌, length}
use Rattle.answer.specs.Allowing.{Allowing, AllowsOnly}
use Rattle.answer.specs.declared.Answer.{Answer}
use Rattle.study.specs.Study.{Roster, Study, crew_at}
use Rattle.runs.specs.Run.{RunAllows}
use Rattle.planning.specs.Planning.{PlanAllows}
use Rattle.planning.specs.Seeded.{SeededAllows}
use Rattle.varied.specs.Report.{ReportAllows}
use Rattle.charts.specs.Answers.{ChartAllows}
use Rattle.replays.specs.Replay.{ReplayAllows}
use Rattle.journeys.specs.Allowed.{JourneysAllows}
use Rattle.demands.specs.Words.{LoadsAs}

-- both files load and have the crew, c of the one and d of the other; they agree on situation, variables, actions and that crew's tasks and seed
pub record Agree (f : List ℕ) (c : ℕ) (g : List ℕ) (d : ℕ) : Type 0 where
  pub one : Roster
  pub other : Roster
  pub one_loads : LoadsAs f one
  pub other_loads : LoadsAs g other
  pub one_there : c < length one.crews
  pub other_there : d < length other.crews
  pub situation : one.situation ≡ other.situation
  pub counts : one.counts ≡ other.counts
  pub actions : one.actions ≡ other.actions
  pub crew : crew_at one.crews c ≡ crew_at other.crews d

-- two calls allow the same answers with the same bytes, and what the one gives is what the other gives
pub record Alike (one other : Allowing) : Type 0 where
  pub same : (r : Answer) (after : List ℕ) → one r after ↔ other r after
  pub equal : (r r' : Answer) (after after' : List ℕ) → one r after → other r' after' → (r ≡ r') × (after ≡ after')

-- the same of calls that write nothing
pub record AlikeOne (one other : Answer → Type 0) : Type 0 where
  pub same : (r : Answer) → one r ↔ other r
  pub equal : (r r' : Answer) → one r → other r' → r ≡ r'

-- every call that names a crew, lent the same
pub record AnsweredAlike (f : List ℕ) (c : ℕ) (g : List ℕ) (d : ℕ) : Type 0 where
  pub plan : (ranks before : List ℕ) → Alike (PlanAllows f c ranks before) (PlanAllows g d ranks before)
  pub seeded : (before : List ℕ) → Alike (SeededAllows f c before) (SeededAllows g d before)
  pub run : (list before : List ℕ) → Alike (RunAllows f c list before) (RunAllows g d list before)
  pub report : (first n : ℕ) (before : List ℕ) → Alike (ReportAllows f c first n before) (ReportAllows g d first n before)
  pub chart : (actions pairs : List ℕ) → AlikeOne (ChartAllows f c actions pairs) (ChartAllows g d actions pairs)
  pub replay : (log before : List ℕ) → Alike (ReplayAllows f c log before) (ReplayAllows g d log before)
  pub journeys :
      (ranks rides : List ℕ) (start : ℕ) (before : List ℕ) → Alike (JourneysAllows f c ranks rides start before) (JourneysAllows g d ranks rides start before)

-- every call that names the crew gives this answer and no other, and the buffer is as it was
pub record RefusedWith (file : List ℕ) (crew : ℕ) (answer : Answer) : Type 0 where
  pub plan : (ranks before : List ℕ) → AllowsOnly (PlanAllows file crew ranks before) answer before
  pub seeded : (before : List ℕ) → AllowsOnly (SeededAllows file crew before) answer before
  pub run : (list before : List ℕ) → AllowsOnly (RunAllows file crew list before) answer before
  pub report : (first n : ℕ) (before : List ℕ) → AllowsOnly (ReportAllows file crew first n before) answer before
  pub chart : (actions pairs : List ℕ) (r : Answer) → ChartAllows file crew actions pairs r ↔ (r ≡ answer)
  pub replay : (log before : List ℕ) → AllowsOnly (ReplayAllows file crew log before) answer before
  pub journeys : (ranks rides : List ℕ) (start : ℕ) (before : List ℕ) → AllowsOnly (JourneysAllows file crew ranks rides start before) answer before

-- a study as the roster of one crew
abbrev pub alone : Study → Roster
alone t = record {
  situation = t.situation;
  counts = t.counts;
  actions = t.actions;
  crews = record { tasks = t.tasks; seed = t.seed } ∷ [];
}
