-- A study of at most 64 actions that can be planned, in words: its walk actions, and what comes directly before each.
-- Assumes nothing.
use Rattle.std.specs.Prelude.{ℕ, ◌≤◌, ◌≡◌, ◌↔◌, Bool, true, Result, Ok, Err, List, length, get_or}
use Rattle.study.specs.Study.{Study}
use Rattle.orders.specs.Orders.{Counted}
use Rattle.walks.specs.Walks.{OnAWalk}
use Rattle.tracing.specs.Facts.{TellsForce}
use Rattle.hanging.specs.Hanging.{InWord}
use Rattle.tying.specs.Tying.{Low}
use Rattle.charts.specs.Faults.{Direct}
use Rattle.charts.specs.Charts.{Chart}
use Rattle.charts.specs.Answers.{Plannable, Charts}
use Rattle.comparing.specs.Comparing.{Wanted}
use Rattle.answer.specs.declared.Answer.{Answer}
use Rattle.vetting.specs.declared.WalkActions.{WalkActions}

-- there is a straight plan, and a test tells the walk actions
pub record WalksTold (t : Study) (count : ℕ) (outs : List ℕ) (told : ℕ → Bool) : Type 0 where
  pub plannable : Plannable t
  pub actions : count ≡ length t.actions
  pub force : TellsForce count outs t
  pub walks : (i : ℕ) → (told i ≡ true) ↔ OnAWalk t i

-- `members` has the walk actions, so many in all, and word j those that come directly before j
pub record InWords (t : Study) (count total members : ℕ) (outs words : List ℕ) : Type 0 where
  pub plannable : Plannable t
  pub actions : count ≡ length t.actions
  pub force : TellsForce count outs t
  pub few : total ≤ 256
  pub counted : Counted (InWord members) total
  pub low : Low members
  pub walks : (i : ℕ) → InWord members i ↔ OnAWalk t i
  pub directs : (i j : ℕ) → Wanted members words i j ↔ Direct t i j

-- no word has a bit
abbrev pub AllZero : List ℕ → Type 0
AllZero words = (j : ℕ) → get_or words j 0 ≡ 0

-- the study is in words; or every chart of it is answered so
abbrev pub Readies : Study → ℕ → List ℕ → List ℕ → Result WalkActions Answer → Type 0
Readies t count outs words (Ok r) = InWords t count r.total r.members outs words
Readies t count outs words (Err r) = (c : Chart) → Charts t c r
