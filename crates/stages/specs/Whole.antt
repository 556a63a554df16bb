-- A loaded study in the planner's hands: what is known before each stage.
-- Assumes nothing.
use Rattle.std.specs.Prelude.{ℕ, ◌≡◌, List, length, Ok}
use Rattle.ranking.specs.Ranking.{tested}
use Rattle.study.specs.Study.{Study}
use Rattle.lawful.specs.Lawful.{Lawful}
use Rattle.tables.specs.Tables.{ActionTables, HoldsActions, NamesSetters, HoldsTasks}
use Rattle.tables.specs.Rows.{Row, var_column, post_column, place_column, many_column, start_column, goal_column, seen}
use Rattle.walks.specs.Walks.{Walks, Met, start_of}
use Rattle.tracing.specs.Facts.{Tells, Deeds}
use Rattle.tracing.specs.Steps.{Rowed, Members}
use Rattle.wanting.specs.Wanting.{Counts}

-- the tables hold a lawful study
pub record Known (file : List ℕ) (n a x : ℕ) (acts : ActionTables) (starts goals : List ℕ) (t : Study) : Type 0 where
  pub lawful : Lawful t
  pub variables : n ≡ length t.tasks
  pub actions : HoldsActions file t.situation a acts t.actions
  pub setters : NamesSetters t.situation a acts.setters t.actions
  pub tasks : HoldsTasks n starts goals t.tasks
  pub seed : x ≡ t.seed

-- .. and the ranks are a rank list of it
pub record Given (file ranks : List ℕ) (n a : ℕ) (acts : ActionTables) (starts goals : List ℕ) (t : Study) : Type 0 where
  pub lawful : Lawful t
  pub variables : n ≡ length t.tasks
  pub actions : HoldsActions file t.situation a acts t.actions
  pub setters : NamesSetters t.situation a acts.setters t.actions
  pub tasks : HoldsTasks n starts goals t.tasks
  pub ranked : tested ranks a ≡ Ok tt

-- .. and every variable has a walk, entered in the table of steps
pub record Walking (file ranks : List ℕ) (n total : ℕ) (acts : ActionTables) (starts steps : List ℕ) (t : Study) : Type 0 where
  pub lawful : Lawful t
  pub variables : n ≡ length t.tasks
  pub actions : HoldsActions file t.situation (length ranks) acts t.actions
  pub setters : NamesSetters t.situation (length ranks) acts.setters t.actions
  pub tells_starts : Tells start_of n starts t
  pub ranked : tested ranks (length t.actions) ≡ Ok tt
  pub rowed : Rowed t n steps
  pub list : List ℕ
  pub members : Members t list
  pub counted : length list ≡ total

-- so many actions are on walks, and every condition is on its walk: what is left is to take them
pub record Orderly (total : ℕ) (t : Study) : Type 0 where
  pub lawful : Lawful t
  pub walks : Walks t
  pub met : Met t
  pub list : List ℕ
  pub members : Members t list
  pub counted : length list ≡ total

-- .. and the values that they want are counted, in a table of their own
pub record WantsCounted (file : List ℕ) (n a total : ℕ) (vars posts places manys starts steps wants : List ℕ) (t : Study) : Type 0 where
  pub orderly : Orderly total t
  pub variables : n ≡ length t.tasks
  pub deeds : Deeds file a vars posts places manys t
  pub tells_starts : Tells start_of n starts t
  pub rowed : Rowed t n steps
  pub wanted : (list : List ℕ) → Members t list → Counts t list wants

-- the same of tables in rows
abbrev pub KnownIn : List ℕ → ℕ → ℕ → ℕ → List Row → List Row → List ℕ → Study → Type 0
KnownIn file n a x acts vars setters t = Known file n a x (seen setters acts) (start_column vars) (goal_column vars) t

abbrev pub GivenIn : List ℕ → List ℕ → ℕ → ℕ → List Row → List Row → List ℕ → Study → Type 0
GivenIn file ranks n a acts vars setters t = Given file ranks n a (seen setters acts) (start_column vars) (goal_column vars) t

abbrev pub WalkingIn : List ℕ → List ℕ → ℕ → ℕ → List Row → List Row → List ℕ → List ℕ → Study → Type 0
WalkingIn file ranks n total acts vars setters steps t = Walking file ranks n total (seen setters acts) (start_column vars) steps t

abbrev pub WantsCountedIn : List ℕ → ℕ → ℕ → ℕ → List Row → List Row → List ℕ → List ℕ → Study → Type 0
WantsCountedIn file n a total acts vars steps wants t =
    WantsCounted file n a total (var_column acts) (post_column acts) (place_column acts) (many_column acts) (start_column vars) steps wants t
