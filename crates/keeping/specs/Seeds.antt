-- What the first seed tells of all, and what is kept and reported of the seeds' plans.
-- Assumes nothing.
use Rattle.std.specs.Prelude.{ℕ, ◌+◌, ◌*◌, ◌≤◌, ◌≡◌, List, ◌++◌, length, take, drop}
use Rattle.std.specs.declared.ops.ControlFlow.{ControlFlow}
use Rattle.std.specs.declared.ops.ControlFlow.TheVariants.{Break, Continue}
use Rattle.answer.specs.declared.Answer.{Answer}
use Rattle.study.specs.Study.{Study}
use Rattle.draw.specs.Draw.{drawn}
use Rattle.handing.specs.Handing.{Taken}
use Rattle.varied.specs.Outcomes.{Outcome, planned, ComesTo, Come}
use Rattle.varied.specs.Report.{Reports}
use Rattle.varied.specs.Figures.{plans_among, report_of}
use Rattle.varied.proofs.Alike.{AllPlans}
use Rattle.matching.specs.Kept.{Kept}
use Rattle.keeping.specs.declared.Extent.{Extent}

-- the seeds are in range, and one to 64
pub record InRange (first seeds : ℕ) : Type 0 where
  pub low : 1 ≤ first
  pub high : first + seeds ≤ 2147483647
  pub some : 1 ≤ seeds
  pub few : seeds ≤ 64

-- so many were taken with the first seed, and stand in the room from 256 on
pub record TakenFirst (t : Study) (e : Extent) (taken : ℕ) (room : List ℕ) : Type 0 where
  pub so : Taken t (drawn e.first (length t.actions)) e.total taken room
  pub within : taken ≤ e.total
  pub sized : length room ≡ 512

-- .. and are its plan
abbrev pub FirstTaken : Study → Extent → List ℕ → Type 0
FirstTaken t e room = ComesTo t e.first (planned (take e.total (drop 256 room)))

-- what the first seed tells: the answer of all, or its plan, for which the report has room
abbrev pub Judges : Study → Extent → List ℕ → List ℕ → List ℕ → ControlFlow Answer ℕ → Type 0
Judges t e room before after (Break answer) = Reports t e.first e.seeds before answer after
Judges t e room before after (Continue n) = (after ≡ before) × (n ≡ 5 + e.actions * e.total) × (n ≤ length before) × FirstTaken t e room

-- the first k seeds give plans, which are kept
pub record KeptAll (t : Study) (first k len base stride : ℕ) (region : List ℕ) : Type 0 where
  pub outcomes : List Outcome
  pub each : length outcomes ≡ k
  pub come : Come t first outcomes
  pub plans : AllPlans len outcomes
  pub kept : Kept region base stride len (plans_among outcomes)

-- all seeds give plans, and the report on them stands in front
pub record Reported (t : Study) (first seeds len : ℕ) (before after : List ℕ) : Type 0 where
  pub outcomes : List Outcome
  pub each : length outcomes ≡ seeds
  pub come : Come t first outcomes
  pub plans : AllPlans len outcomes
  pub whole : after ≡ report_of (length t.actions) outcomes ++ drop (length (report_of (length t.actions) outcomes)) before
