-- What taking starts from: the walks are entered, every condition is on its walk and counted, and the state is the start. And what it leaves.
-- Assumes nothing.
use Rattle.std.specs.Prelude.{ℕ, ◌≤◌, ◌≡◌, List, length, get_or, take, drop}
use Rattle.study.specs.Study.{Study}
use Rattle.orders.specs.Orders.{None, Greedy}
use Rattle.walks.specs.Walks.{OnAWalk, ComesBefore, Met, start_of}
use Rattle.tables.specs.Rows.{Row, var_column, post_column, place_column, many_column}
use Rattle.tracing.specs.Facts.{Tells, Deeds}
use Rattle.tracing.specs.Steps.{Rowed, Members}
use Rattle.wanting.specs.Wanting.{Counts}

pub record Prepared (file : List ℕ) (n a total : ℕ) (vars posts places manys steps wants state : List ℕ) (t : Study) : Type 0 where
  pub deeds : Deeds file a vars posts places manys t
  pub variables : n ≡ length t.tasks
  pub rowed : Rowed t n steps
  pub met : Met t
  pub list : List ℕ
  pub members : Members t list
  pub counted : length list ≡ total
  pub wanted : Counts t list wants
  pub at_start_lem : Tells start_of n state t

-- the same of the actions' table in rows
abbrev pub PreparedRows : List ℕ → ℕ → ℕ → ℕ → List Row → List ℕ → List ℕ → List ℕ → Study → Type 0
PreparedRows file n a total acts steps wants state t =
    Prepared file n a total (var_column acts) (post_column acts) (place_column acts) (many_column acts) steps wants state t

-- of the ready walk actions the one of least rank was taken, each time, until all were taken or none was ready
abbrev pub TakenGreedily : Study → List ℕ → List ℕ → Type 0
TakenGreedily t ranks list = Greedy (OnAWalk t) (ComesBefore t) (λ i. get_or ranks i 0) None list

-- r actions, at most all, stand in the room from 256 on, and of every study that was prepared they were taken so
abbrev pub TakesAll : List ℕ → ℕ → List ℕ → ℕ → List Row → List ℕ → List ℕ → List ℕ → ℕ → List ℕ → Type 0
TakesAll file n ranks total acts steps wants state r room =
    ((r ≤ total) × (length room ≡ 512))
    × ((t : Study) → PreparedRows file n (length ranks) total acts steps wants state t → TakenGreedily t ranks (take r (drop 256 room)))
