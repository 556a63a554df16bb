-- What the loaded tables tell of a study, one fact for each table that a function is lent.
-- Assumes nothing.
use Rattle.std.specs.Prelude.{ℕ, ◌<◌, ◌≡◌, List, eqb, length, get_or}
use Rattle.study.specs.Study.{Study, in_force, action_at}
use Rattle.lawful.specs.Lawful.{Lawful}
use Rattle.tables.specs.Tables.{HoldsConditions, NamesSetters}
use Rattle.tables.specs.Rows.{Row, var_column, pre_column, post_column, place_column, many_column, out_column}
use Rattle.walks.specs.Walks.{var_of, pre_of, post_of, conditions_of}

-- entry i of the table, for each i below the count, is that number of action or variable i
abbrev pub Tells : (Study → ℕ → ℕ) → ℕ → List ℕ → Study → Type 0
Tells number count table t = (i : ℕ) → i < count → get_or table i 0 ≡ number t i

-- the table of setters names each action in force for the value that it sets
abbrev pub NamesUsable : ℕ → List ℕ → Study → Type 0
NamesUsable a setters t = NamesSetters t.situation a setters t.actions

-- entry i of the table is 0 where action i is in force
abbrev pub TellsForce : ℕ → List ℕ → Study → Type 0
TellsForce a outs t = (i : ℕ) → i < a → eqb (get_or outs i 0) 0 ≡ in_force t.situation (action_at t.actions i)

-- where the conditions of each action stand in the file
abbrev pub TellsConditions : List ℕ → ℕ → List ℕ → List ℕ → Study → Type 0
TellsConditions file a places manys t = (i : ℕ) → i < a → HoldsConditions file (get_or places i 0) (get_or manys i 0) (conditions_of t i)

-- the actions' moves: variable, pre and post of each, which are in force, and which sets a value
pub record Moves (a : ℕ) (setters vars pres posts outs : List ℕ) (t : Study) : Type 0 where
  pub lawful : Lawful t
  pub actions : a ≡ length t.actions
  pub tells_var : Tells var_of a vars t
  pub tells_pre : Tells pre_of a pres t
  pub tells_post : Tells post_of a posts t
  pub tells_force : TellsForce a outs t
  pub names : NamesUsable a setters t

-- the actions' conditions, with the variable and pre of each
pub record Wishes (file : List ℕ) (a : ℕ) (vars pres places manys : List ℕ) (t : Study) : Type 0 where
  pub lawful : Lawful t
  pub actions : a ≡ length t.actions
  pub tells_var : Tells var_of a vars t
  pub tells_pre : Tells pre_of a pres t
  pub tells_conditions : TellsConditions file a places manys t

-- the actions' conditions, with the variable and post of each
pub record Deeds (file : List ℕ) (a : ℕ) (vars posts places manys : List ℕ) (t : Study) : Type 0 where
  pub lawful : Lawful t
  pub actions : a ≡ length t.actions
  pub tells_var : Tells var_of a vars t
  pub tells_post : Tells post_of a posts t
  pub tells_conditions : TellsConditions file a places manys t

-- .. as the rows hold them
abbrev pub MovesIn : ℕ → List ℕ → List Row → Study → Type 0
MovesIn a setters acts t = Moves a setters (var_column acts) (pre_column acts) (post_column acts) (out_column acts) t

abbrev pub WishesIn : List ℕ → ℕ → List Row → Study → Type 0
WishesIn file a acts t = Wishes file a (var_column acts) (pre_column acts) (place_column acts) (many_column acts) t
