-- The tables as they are kept, in rows: each column of the rows is one of the plain tables.
-- Assumes nothing.
use Rattle.std.specs.Prelude.{ℕ, ◌+◌, ◌*◌, ◌/◌, ◌%◌, ◌<◌, ◌≡◌, Bool, ◌&&◌, List, [], ◌∷◌, eqb, length, get_or}
use Rattle.tables.specs.Tables.{ActionTables, Tables, action_tables, tables}
use Rattle.tables.specs.declared.Act.{Act}
use Rattle.tables.specs.declared.Var.{Var}

abbrev pub Row : Type 0
Row = List ℕ

-- what f takes of each row
unfoldable pub column : (Row → ℕ) → List Row → List ℕ
column f [] = []
column f (row ∷ rows) = f row ∷ column f rows

abbrev pub field : ℕ → Row → ℕ
field k row = get_or row k 0

-- an action's row: variable, pre, post, how many conditions, with 64 more where it is out of force, and the place of the first in two bytes, the low one first
abbrev pub place_in : Row → ℕ
place_in row = field 4 row + 256 * field 5 row

abbrev pub many_in : Row → ℕ
many_in row = field 3 row % 64

abbrev pub out_in : Row → ℕ
out_in row = field 3 row / 64

abbrev pub var_column : List Row → List ℕ
var_column acts = column (field 0) acts

abbrev pub pre_column : List Row → List ℕ
pre_column acts = column (field 1) acts

abbrev pub post_column : List Row → List ℕ
post_column acts = column (field 2) acts

abbrev pub many_column : List Row → List ℕ
many_column acts = column many_in acts

abbrev pub out_column : List Row → List ℕ
out_column acts = column out_in acts

abbrev pub place_column : List Row → List ℕ
place_column acts = column place_in acts

-- a variable's row: how many values, start and goal
abbrev pub count_column : List Row → List ℕ
count_column vars = column (field 0) vars

abbrev pub start_column : List Row → List ℕ
start_column vars = column (field 1) vars

abbrev pub goal_column : List Row → List ℕ
goal_column vars = column (field 2) vars

abbrev pub seen : (setters : List ℕ) → (acts : List Row) → ActionTables
seen setters acts = action_tables setters (var_column acts) (pre_column acts) (post_column acts) (place_column acts) (many_column acts) (out_column acts)

abbrev pub seen_all : (acts vars : List Row) → (setters : List ℕ) → Tables
seen_all acts vars setters = tables (count_column vars) (seen setters acts) (start_column vars) (goal_column vars)

abbrev pub opened_action : Row → Act
opened_action row = record { var = field 0 row; pre = field 1 row; post = field 2 row; many = many_in row; place = place_in row }

-- the row's action is in force and sets the variable to the value
abbrev pub sets_in_row : List Row → ℕ → ℕ → ℕ → Bool
sets_in_row acts i v q =
    eqb (get_or (var_column acts) i 0) v && (eqb (get_or (post_column acts) i 0) q && eqb (get_or (out_column acts) i 0) 0)

abbrev pub opened_variable_lem : Row → Var
opened_variable_lem row = record { count = field 0 row; start = field 1 row; goal = field 2 row }

-- row i of the actions, opened
pub record OpensAction (acts : List Row) (i : ℕ) (r : Act) : Type 0 where
  pub var : r.var ≡ get_or (var_column acts) i 0
  pub pre : r.pre ≡ get_or (pre_column acts) i 0
  pub post : r.post ≡ get_or (post_column acts) i 0
  pub many : r.many ≡ get_or (many_column acts) i 0
  pub place : r.place ≡ get_or (place_column acts) i 0

-- row v of the variables, opened
pub record OpensVariable (vars : List Row) (v : ℕ) (r : Var) : Type 0 where
  pub count : r.count ≡ get_or (count_column vars) v 0
  pub start : r.start ≡ get_or (start_column vars) v 0
  pub goal : r.goal ≡ get_or (goal_column vars) v 0

-- the first n entries of a table of 32 are those variables' starts
pub record Begins (n : ℕ) (starts table : List ℕ) : Type 0 where
  pub long : length table ≡ 32
  pub start : (v : ℕ) → v < n → get_or table v 0 ≡ get_or starts v 0
