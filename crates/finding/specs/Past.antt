-- A walk entered in the table of steps, to be followed from its start on.
-- Assumes nothing.
use Rattle.std.specs.Prelude.{ℕ, ◌<◌, List, ◌∷◌, map, length}
use Rattle.study.specs.Study.{Study}
use Rattle.lawful.specs.Lawful.{Lawful}
use Rattle.tables.specs.Rows.{Row, post_column}
use Rattle.walks.specs.Walks.{Walk, post_of, start_of, goal_of}
use Rattle.tracing.specs.Facts.{Tells}
use Rattle.tracing.specs.Steps.{RowTo}
use Rattle.explained.specs.Facts.{Fact, wants, start}
use Rattle.explained.specs.Refusals.{walk_fact}

pub record Past (u : ℕ) (acts : List Row) (steps : List ℕ) (t : Study) (list : List ℕ) : Type 0 where
  pub lawful : Lawful t
  pub there : u < length t.tasks
  pub tells_post : Tells post_of (length t.actions) (post_column acts) t
  pub walk : Walk t u list
  pub row : RowTo t u list (goal_of t u) steps

-- the condition of action i, and the walk that passes it by
abbrev pub past_facts : Study → ℕ → ℕ → ℕ → List ℕ → List Fact
past_facts t i u value list = wants i u value ∷ start u (start_of t u) ∷ map (walk_fact t u) list
