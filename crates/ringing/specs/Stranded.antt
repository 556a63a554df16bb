-- What is known where a ring is told: every walk and every condition on it, and which actions are on or after a ring.
-- Assumes nothing.
use Rattle.std.specs.Prelude.{ℕ, ◌<◌, ◌≡◌, ◌↔◌, true, List, length}
use Rattle.bits.specs.Bits.{within}
use Rattle.study.specs.Study.{Study}
use Rattle.lawful.specs.Lawful.{Lawful}
use Rattle.tables.specs.Rows.{Row, var_column, pre_column, post_column, place_column, many_column}
use Rattle.tables.specs.declared.Act.{Act}
use Rattle.tables.specs.Tables.{HoldsConditions}
use Rattle.walks.specs.Walks.{var_of, pre_of, post_of, conditions_of, start_of, Walks, Met}
use Rattle.tracing.specs.Facts.{NamesUsable, Tells, TellsConditions}
use Rattle.explained.specs.Rings.{Stuck}
use Rattle.explained.specs.Wanters.{Sets, Noted}

-- the set has just the actions on or after a ring
abbrev pub LeftAre : Study → List ℕ → Type 0
LeftAre t left = (i : ℕ) → i < 256 → (within left i ≡ true) ↔ Stuck t i

pub record Stranded (file firsts setters : List ℕ) (sets : Sets) (left : List ℕ) (t : Study) : Type 0 where
  pub lawful : Lawful t
  pub walks : Walks t
  pub met : Met t
  pub starts : Tells start_of (length t.tasks) firsts t
  pub names : NamesUsable (length t.actions) setters t
  pub noted : Noted t (length t.actions) (λ i. within left i) sets
  pub left_are : LeftAre t left

-- action j, opened
pub record Opened (file : List ℕ) (act : Act) (t : Study) (j : ℕ) : Type 0 where
  pub there : j < length t.actions
  pub is_var : act.var ≡ var_of t j
  pub is_pre : act.pre ≡ pre_of t j
  pub is_post : act.post ≡ post_of t j
  pub conditions : HoldsConditions file act.place act.many (conditions_of t j)

-- the rows tell all actions so
pub record Rowed (file : List ℕ) (acts : List Row) (t : Study) : Type 0 where
  pub tells_var : Tells var_of (length t.actions) (var_column acts) t
  pub tells_pre : Tells pre_of (length t.actions) (pre_column acts) t
  pub tells_post : Tells post_of (length t.actions) (post_column acts) t
  pub tells_conditions : TellsConditions file (length t.actions) (place_column acts) (many_column acts) t
