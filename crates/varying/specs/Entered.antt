-- What stays true from seed to seed: the walks are entered.
-- Assumes nothing.
use Rattle.std.specs.Prelude.{ℕ, ◌≡◌, List, length}
use Rattle.study.specs.Study.{Study}
use Rattle.lawful.specs.Lawful.{Lawful}
use Rattle.tables.specs.Tables.{ActionTables, HoldsActions, NamesSetters}
use Rattle.tables.specs.Rows.{Row, start_column, seen}
use Rattle.walks.specs.Walks.{start_of}
use Rattle.tracing.specs.Facts.{Tells}
use Rattle.tracing.specs.Steps.{Rowed, Members}
use Rattle.keeping.specs.declared.Extent.{Extent}

-- the tables hold a lawful study, and every variable's walk is entered in the table of steps
pub record Entered (file : List ℕ) (e : Extent) (acts : ActionTables) (starts steps : List ℕ) (t : Study) : Type 0 where
  pub lawful : Lawful t
  pub variables : e.vars ≡ length t.tasks
  pub actions : HoldsActions file t.situation e.actions acts t.actions
  pub setters : NamesSetters t.situation e.actions acts.setters t.actions
  pub tells_starts : Tells start_of e.vars starts t
  pub rowed : Rowed t e.vars steps
  pub list : List ℕ
  pub members : Members t list
  pub counted : length list ≡ e.total

-- the same of tables in rows
abbrev pub EnteredIn : List ℕ → Extent → List Row → List Row → List ℕ → List ℕ → Study → Type 0
EnteredIn file e acts vars setters steps t = Entered file e (seen setters acts) (start_column vars) steps t
