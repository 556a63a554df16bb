-- What the program has in hand where it tells of a plan's steps.
-- Assumes nothing.
use Rattle.std.specs.Prelude.{ℕ, ◌≤◌, ◌<◌, ◌≡◌, List, length, get_or}
use Rattle.study.specs.Study.{Study}
use Rattle.tables.specs.Rows.{Row, OpensAction, start_column}
use Rattle.tables.specs.declared.Act.{Act}
use Rattle.walks.specs.Walks.{post_of}
use Rattle.explained.specs.Wanters.{Sets}
use Rattle.reasons.specs.Known.{Reasonable, Step}

pub record Ready (file plan : List ℕ) (acts vars : List Row) (setters : List ℕ) (sets : Sets) (places : List ℕ) (t : Study) : Type 0 where
  pub few : length plan ≤ 256
  pub there : (k : ℕ) → k < length plan → get_or plan k 0 < length t.actions
  pub few_actions : length t.actions ≤ 256
  pub reasonable : Reasonable (start_column vars) setters sets places t plan
  pub step : (k : ℕ) → k < length plan → {act : Act} → OpensAction acts (get_or plan k 0) act → Step file act t plan (get_or plan k 0)
  pub post : (k : ℕ) → k < length plan → {act : Act} → OpensAction acts (get_or plan k 0) act → act.post ≡ post_of t (get_or plan k 0)
